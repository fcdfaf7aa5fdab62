use Rattle.jvm_model.specs.declared.exception.Exception.TheVariants.{AbstractMethod, Arithmetic, ArrayStore, ClassCast, ClassCircularity, IncompatibleClassChange, InInitializer, IndexOutside, Instantiation, NegativeArraySize, NoClassDefinition, NoSuchField, NoSuchMethod, NullPointer, StackOverflow, UnsatisfiedLink, BuiltIn}
use Rattle.std.proofs.Common.{refl}
use Rattle.prepared_code.proofs.preparing.exceptions_of.Goals as goal

pub returns-clause-raised : goal.returns-clause-raised
returns-clause-raised c AbstractMethod = c.in_ok-kind_for.ensures.kind
returns-clause-raised c Arithmetic = c.in_ok-kind_for-2.ensures.kind
returns-clause-raised c ArrayStore = c.in_ok-kind_for-3.ensures.kind
returns-clause-raised c ClassCast = c.in_ok-kind_for-4.ensures.kind
returns-clause-raised c ClassCircularity = c.in_ok-kind_for-5.ensures.kind
returns-clause-raised c IncompatibleClassChange = c.in_ok-kind_for-6.ensures.kind
returns-clause-raised c InInitializer = c.in_ok-kind_for-7.ensures.kind
returns-clause-raised c IndexOutside = c.in_ok-kind_for-8.ensures.kind
returns-clause-raised c Instantiation = c.in_ok-kind_for-9.ensures.kind
returns-clause-raised c NegativeArraySize = c.in_ok-kind_for-10.ensures.kind
returns-clause-raised c NoClassDefinition = c.in_ok-kind_for-11.ensures.kind
returns-clause-raised c NoSuchField = c.in_ok-kind_for-12.ensures.kind
returns-clause-raised c NoSuchMethod = c.in_ok-kind_for-13.ensures.kind
returns-clause-raised c NullPointer = c.in_ok-kind_for-14.ensures.kind
returns-clause-raised c StackOverflow = c.in_ok-kind_for-15.ensures.kind
returns-clause-raised c UnsatisfiedLink = c.in_ok-kind_for-16.ensures.kind
returns-clause-raised c (BuiltIn place) = refl
