use Rattle.std.proofs.Common.{subst, sym}
use Rattle.member_selection.specs.Objects.{AreLoaded}
use Rattle.member_selection.proofs.ObjectLemmas.{objects_slot}
use Rattle.symbolic_references.proofs.runtime.Runtime.put_at.Goals as goal

pub invariant_of-self : goal.invariant_of-self
invariant_of-self c = record {
  tables = c.self.invariant.tables;
  built_in = c.self.invariant.built_in;
  exceptions = c.self.invariant.exceptions;
  selections = c.self.invariant.selections;
  objects =
      subst (AreLoaded c.self.inside.linker) (sym c.put_slot.ensures)
      (objects_slot c.self.inside.linker c.self.inside.heap c.args.object c.args.slot c.args.datum c.self.invariant.objects);
}
