-- The exceptions that the machine makes, by the names of their classes (JVM Specification 2.10).
use Rattle.std.specs.Prelude.{ℕ, List, slice_get, unwrap_or}
use Rattle.const_pool.specs.BuiltIn.{built_in_names}
use Rattle.jvm_model.specs.declared.exception.Exception.{Exception}
use Rattle.jvm_model.specs.declared.exception.Exception.TheVariants.{AbstractMethod, Arithmetic, ArrayStore, ClassCast, ClassCircularity, IncompatibleClassChange, InInitializer, IndexOutside, Instantiation, NegativeArraySize, NoClassDefinition, NoSuchField, NoSuchMethod, NullPointer, StackOverflow, UnsatisfiedLink, BuiltIn}
use Rattle.jvm_model.specs.Basis.SharedState.{array_store, in_initializer, index_outside, negative_array_size, no_class_definition, no_such_field, no_such_method, null_pointer, stack_overflow, throwable}
use Rattle.jvm_model.specs.Classes.Load.{circular_class}
use Rattle.jvm_model.specs.Classes.Lookup.{incompatible_change}
use Rattle.jvm_model.specs.Instructions.CreationRules.{class_cast, instantiation_error}
use Rattle.jvm_model.specs.Instructions.InvocationRules.{abstract_method, unsatisfied_link}
use Rattle.jvm_model.specs.Instructions.LocalRules.{arithmetic_exception}

-- the name of its class; native methods throw none at a place past the last one, for which java/lang/Throwable stands
abbrev pub exception_name : Exception → List ℕ
exception_name AbstractMethod = abstract_method
exception_name Arithmetic = arithmetic_exception
exception_name ArrayStore = array_store
exception_name ClassCast = class_cast
exception_name ClassCircularity = circular_class
exception_name IncompatibleClassChange = incompatible_change
exception_name InInitializer = in_initializer
exception_name IndexOutside = index_outside
exception_name Instantiation = instantiation_error
exception_name NegativeArraySize = negative_array_size
exception_name NoClassDefinition = no_class_definition
exception_name NoSuchField = no_such_field
exception_name NoSuchMethod = no_such_method
exception_name NullPointer = null_pointer
exception_name StackOverflow = stack_overflow
exception_name UnsatisfiedLink = unsatisfied_link
exception_name (BuiltIn place) = unwrap_or (slice_get built_in_names place) throwable
