use Rattle.std.proofs.Common.{ap}
use Rattle.jvm_model.specs.declared.exception.Exception.TheVariants.{AbstractMethod, Arithmetic, ArrayStore, ClassCast, ClassCircularity, IncompatibleClassChange, InInitializer, IndexOutside, Instantiation, NegativeArraySize, NoClassDefinition, NoSuchField, NoSuchMethod, NullPointer, StackOverflow, UnsatisfiedLink}
use Rattle.symbolic_references.specs.Runtimes.{linker_in}
use Rattle.symbolic_references.proofs.ExceptionKinds.{kept_kind, kept_usable}
use Rattle.symbolic_references.proofs.runtime.Runtime.kind_of.Goals as goal

pub returns-in-AbstractMethod : goal.returns-in-AbstractMethod
returns-in-AbstractMethod c = record {
  kind = kept_kind c.self.inside.linker c.args.self.now c.self.inside.tables AbstractMethod c.args.exception c.self.invariant.tables (ap linker_in c.self.view_is) c.in-AbstractMethod.is;
  usable = kept_usable c.self.inside.linker c.args.self.now c.self.inside.tables AbstractMethod c.self.invariant.tables c.self.invariant.exceptions (ap linker_in c.self.view_is);
}

pub returns-in-Arithmetic : goal.returns-in-Arithmetic
returns-in-Arithmetic c = record {
  kind = kept_kind c.self.inside.linker c.args.self.now c.self.inside.tables Arithmetic c.args.exception c.self.invariant.tables (ap linker_in c.self.view_is) c.in-Arithmetic.is;
  usable = kept_usable c.self.inside.linker c.args.self.now c.self.inside.tables Arithmetic c.self.invariant.tables c.self.invariant.exceptions (ap linker_in c.self.view_is);
}

pub returns-in-ArrayStore : goal.returns-in-ArrayStore
returns-in-ArrayStore c = record {
  kind = kept_kind c.self.inside.linker c.args.self.now c.self.inside.tables ArrayStore c.args.exception c.self.invariant.tables (ap linker_in c.self.view_is) c.in-ArrayStore.is;
  usable = kept_usable c.self.inside.linker c.args.self.now c.self.inside.tables ArrayStore c.self.invariant.tables c.self.invariant.exceptions (ap linker_in c.self.view_is);
}

pub returns-in-ClassCast : goal.returns-in-ClassCast
returns-in-ClassCast c = record {
  kind = kept_kind c.self.inside.linker c.args.self.now c.self.inside.tables ClassCast c.args.exception c.self.invariant.tables (ap linker_in c.self.view_is) c.in-ClassCast.is;
  usable = kept_usable c.self.inside.linker c.args.self.now c.self.inside.tables ClassCast c.self.invariant.tables c.self.invariant.exceptions (ap linker_in c.self.view_is);
}

pub returns-in-ClassCircularity : goal.returns-in-ClassCircularity
returns-in-ClassCircularity c = record {
  kind = kept_kind c.self.inside.linker c.args.self.now c.self.inside.tables ClassCircularity c.args.exception c.self.invariant.tables (ap linker_in c.self.view_is) c.in-ClassCircularity.is;
  usable = kept_usable c.self.inside.linker c.args.self.now c.self.inside.tables ClassCircularity c.self.invariant.tables c.self.invariant.exceptions (ap linker_in c.self.view_is);
}

pub returns-in-IncompatibleClassChange : goal.returns-in-IncompatibleClassChange
returns-in-IncompatibleClassChange c = record {
  kind = kept_kind c.self.inside.linker c.args.self.now c.self.inside.tables IncompatibleClassChange c.args.exception c.self.invariant.tables (ap linker_in c.self.view_is) c.in-IncompatibleClassChange.is;
  usable = kept_usable c.self.inside.linker c.args.self.now c.self.inside.tables IncompatibleClassChange c.self.invariant.tables c.self.invariant.exceptions (ap linker_in c.self.view_is);
}

pub returns-in-InInitializer : goal.returns-in-InInitializer
returns-in-InInitializer c = record {
  kind = kept_kind c.self.inside.linker c.args.self.now c.self.inside.tables InInitializer c.args.exception c.self.invariant.tables (ap linker_in c.self.view_is) c.in-InInitializer.is;
  usable = kept_usable c.self.inside.linker c.args.self.now c.self.inside.tables InInitializer c.self.invariant.tables c.self.invariant.exceptions (ap linker_in c.self.view_is);
}

pub returns-in-IndexOutside : goal.returns-in-IndexOutside
returns-in-IndexOutside c = record {
  kind = kept_kind c.self.inside.linker c.args.self.now c.self.inside.tables IndexOutside c.args.exception c.self.invariant.tables (ap linker_in c.self.view_is) c.in-IndexOutside.is;
  usable = kept_usable c.self.inside.linker c.args.self.now c.self.inside.tables IndexOutside c.self.invariant.tables c.self.invariant.exceptions (ap linker_in c.self.view_is);
}

pub returns-in-Instantiation : goal.returns-in-Instantiation
returns-in-Instantiation c = record {
  kind = kept_kind c.self.inside.linker c.args.self.now c.self.inside.tables Instantiation c.args.exception c.self.invariant.tables (ap linker_in c.self.view_is) c.in-Instantiation.is;
  usable = kept_usable c.self.inside.linker c.args.self.now c.self.inside.tables Instantiation c.self.invariant.tables c.self.invariant.exceptions (ap linker_in c.self.view_is);
}

pub returns-in-NegativeArraySize : goal.returns-in-NegativeArraySize
returns-in-NegativeArraySize c = record {
  kind = kept_kind c.self.inside.linker c.args.self.now c.self.inside.tables NegativeArraySize c.args.exception c.self.invariant.tables (ap linker_in c.self.view_is) c.in-NegativeArraySize.is;
  usable = kept_usable c.self.inside.linker c.args.self.now c.self.inside.tables NegativeArraySize c.self.invariant.tables c.self.invariant.exceptions (ap linker_in c.self.view_is);
}

pub returns-in-NoClassDefinition : goal.returns-in-NoClassDefinition
returns-in-NoClassDefinition c = record {
  kind = kept_kind c.self.inside.linker c.args.self.now c.self.inside.tables NoClassDefinition c.args.exception c.self.invariant.tables (ap linker_in c.self.view_is) c.in-NoClassDefinition.is;
  usable = kept_usable c.self.inside.linker c.args.self.now c.self.inside.tables NoClassDefinition c.self.invariant.tables c.self.invariant.exceptions (ap linker_in c.self.view_is);
}

pub returns-in-NoSuchField : goal.returns-in-NoSuchField
returns-in-NoSuchField c = record {
  kind = kept_kind c.self.inside.linker c.args.self.now c.self.inside.tables NoSuchField c.args.exception c.self.invariant.tables (ap linker_in c.self.view_is) c.in-NoSuchField.is;
  usable = kept_usable c.self.inside.linker c.args.self.now c.self.inside.tables NoSuchField c.self.invariant.tables c.self.invariant.exceptions (ap linker_in c.self.view_is);
}

pub returns-in-NoSuchMethod : goal.returns-in-NoSuchMethod
returns-in-NoSuchMethod c = record {
  kind = kept_kind c.self.inside.linker c.args.self.now c.self.inside.tables NoSuchMethod c.args.exception c.self.invariant.tables (ap linker_in c.self.view_is) c.in-NoSuchMethod.is;
  usable = kept_usable c.self.inside.linker c.args.self.now c.self.inside.tables NoSuchMethod c.self.invariant.tables c.self.invariant.exceptions (ap linker_in c.self.view_is);
}

pub returns-in-NullPointer : goal.returns-in-NullPointer
returns-in-NullPointer c = record {
  kind = kept_kind c.self.inside.linker c.args.self.now c.self.inside.tables NullPointer c.args.exception c.self.invariant.tables (ap linker_in c.self.view_is) c.in-NullPointer.is;
  usable = kept_usable c.self.inside.linker c.args.self.now c.self.inside.tables NullPointer c.self.invariant.tables c.self.invariant.exceptions (ap linker_in c.self.view_is);
}

pub returns-in-StackOverflow : goal.returns-in-StackOverflow
returns-in-StackOverflow c = record {
  kind = kept_kind c.self.inside.linker c.args.self.now c.self.inside.tables StackOverflow c.args.exception c.self.invariant.tables (ap linker_in c.self.view_is) c.in-StackOverflow.is;
  usable = kept_usable c.self.inside.linker c.args.self.now c.self.inside.tables StackOverflow c.self.invariant.tables c.self.invariant.exceptions (ap linker_in c.self.view_is);
}

pub returns-in-UnsatisfiedLink : goal.returns-in-UnsatisfiedLink
returns-in-UnsatisfiedLink c = record {
  kind = kept_kind c.self.inside.linker c.args.self.now c.self.inside.tables UnsatisfiedLink c.args.exception c.self.invariant.tables (ap linker_in c.self.view_is) c.in-UnsatisfiedLink.is;
  usable = kept_usable c.self.inside.linker c.args.self.now c.self.inside.tables UnsatisfiedLink c.self.invariant.tables c.self.invariant.exceptions (ap linker_in c.self.view_is);
}
