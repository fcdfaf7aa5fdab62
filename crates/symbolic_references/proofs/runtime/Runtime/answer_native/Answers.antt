use Rattle.std.proofs.Common.{subst, sym}
use Rattle.jvm_model.specs.Instructions.NativeRules.{kinds_in}
use Rattle.native_ops.specs.Methods.Calls.{is_done}
use Rattle.member_selection.specs.Objects.{AreLoaded}
use Rattle.symbolic_references.proofs.NativeLemmas.{left-loaded}
use Rattle.symbolic_references.proofs.runtime.Runtime.answer_native.Goals as goal

pub invariant_of-self : goal.invariant_of-self
invariant_of-self c = record {
  tables = c.self.invariant.tables;
  built_in = c.self.invariant.built_in;
  exceptions = c.self.invariant.exceptions;
  selections = c.self.invariant.selections;
  objects =
      let l = c.self.inside.linker in
      subst (AreLoaded l) (sym c.call.ensures.heap)
      (left-loaded l c.self.invariant.built_in (kinds_in l.program l.loaded) c.args.args.now _
      c.self.invariant.objects (is_done c.call.result) c.args.number);
}
