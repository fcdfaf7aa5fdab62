use Rattle.std.proofs.Common.{subst, sym}
use Rattle.member_selection.specs.Objects.{AreLoaded}
use Rattle.member_selection.proofs.ObjectLemmas.{objects_slot_if}
use Rattle.symbolic_references.proofs.runtime.Runtime.store_at.Goals as goal

pub invariant_of-self : goal.invariant_of-self
invariant_of-self c = record {
  tables = c.self.invariant.tables;
  built_in = c.self.invariant.built_in;
  exceptions = c.self.invariant.exceptions;
  selections = c.self.invariant.selections;
  objects =
      subst (AreLoaded c.self.inside.linker) (sym c.put.ensures.heap)
      (objects_slot_if c.self.inside.linker c.put.result c.self.inside.heap c.args.array c.args.slot c.args.value c.self.invariant.objects);
}
