-- What tables tell of a program: the numbers of its methods, what these take and their limits, the kinds of the
-- exceptions that instructions raise, and which classes Throwable and Error are.
use Rattle.std.specs.Prelude.{◌≡◌, ◌<◌, ◌^◌, ℕ, List, [], length, slice_get}
use Rattle.std.specs.Option.{option_and_then, option_map_or}
use Rattle.jvm_model.specs.declared.program.Program.{Program}
use Rattle.jvm_model.specs.declared.exception.Exception.{Exception}
use Rattle.jvm_model.specs.declared.exception.Exception.TheVariants.{AbstractMethod, Arithmetic, ArrayStore, ClassCast, ClassCircularity, IncompatibleClassChange, InInitializer, IndexOutside, Instantiation, NegativeArraySize, NoClassDefinition, NoSuchField, NoSuchMethod, NullPointer, StackOverflow, UnsatisfiedLink, BuiltIn}
use Rattle.jvm_model.specs.Instructions.Exceptions.{exception_name}
use Rattle.jvm_model.specs.Basis.Data.{World}
use Rattle.jvm_model.specs.Basis.Programs.{class_named, params_of_method, max_stack_of, max_locals_of}
use Rattle.jvm_model.specs.Basis.SharedState.{error, kind_for, string, throwable}
use Rattle.symbolic_references.specs.declared.program_tables.Exceptions.{Exceptions}
use Rattle.symbolic_references.specs.declared.program_tables.ProgramTables.{ProgramTables}
use Rattle.member_selection.specs.Numbers.{AreNumbers}
use Rattle.member_selection.specs.Objects.{IsUsable}
use Rattle.class_linker.specs.Linkers.{LinkerView}

abbrev pub world_in : Program → List ℕ → World
world_in p input = record { program = p; input = input }

-- the kind of the instances of an exception's class
abbrev pub exception_kind : Program → Exception → ℕ
exception_kind p e = kind_for p (exception_name e)

-- as it is kept; one that a native method throws is found by its name
abbrev pub exception_in : Program → Exceptions → Exception → ℕ
exception_in p x AbstractMethod = x.abstract_method
exception_in p x Arithmetic = x.arithmetic
exception_in p x ArrayStore = x.array_store
exception_in p x ClassCast = x.class_cast
exception_in p x ClassCircularity = x.class_circularity
exception_in p x IncompatibleClassChange = x.incompatible_change
exception_in p x InInitializer = x.in_initializer
exception_in p x IndexOutside = x.index_outside
exception_in p x Instantiation = x.instantiation
exception_in p x NegativeArraySize = x.negative_array_size
exception_in p x NoClassDefinition = x.no_class_definition
exception_in p x NoSuchField = x.no_such_field
exception_in p x NoSuchMethod = x.no_such_method
exception_in p x NullPointer = x.null_pointer
exception_in p x StackOverflow = x.stack_overflow
exception_in p x UnsatisfiedLink = x.unsatisfied_link
exception_in p x (BuiltIn place) = exception_kind p (BuiltIn place)

pub record AreTablesOf (p : Program) (t : ProgramTables) : Type 0 where
  pub few : length p.classes < 2 ^ 24
  pub numbered : length p.methods < 2 ^ 32
  pub numbers : AreNumbers p t.numbers
  pub params : (k : ℕ) → option_and_then (λ m. m.params) (slice_get t.methods k) ≡ params_of_method p k
  pub max_stack : (k : ℕ) → option_map_or (λ m. m.max_stack) (slice_get t.methods k) 0 ≡ max_stack_of (world_in p []) k
  pub max_locals : (k : ℕ) → option_map_or (λ m. m.max_locals) (slice_get t.methods k) 0 ≡ max_locals_of (world_in p []) k
  pub raised : (e : Exception) → exception_in p t.exceptions e ≡ exception_kind p e
  pub string : t.exceptions.string ≡ kind_for p string
  pub small : t.exceptions.string < 2 ^ 25
  pub throwable : t.throwable ≡ class_named p throwable
  pub error : t.error ≡ class_named p error

-- the classes of all exceptions that the machine makes and java/lang/String are loaded
pub record HasExceptions (l : LinkerView) : Type 0 where
  pub each : (e : Exception) → IsUsable l (exception_kind l.program e)
  pub text : IsUsable l (kind_for l.program string)
