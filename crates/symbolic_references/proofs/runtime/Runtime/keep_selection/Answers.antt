use Rattle.std.proofs.Common.{subst, sym}
use Rattle.member_selection.specs.Known.{IsKnown}
use Rattle.symbolic_references.specs.Runtimes.{RuntimeView, linker_in}
use Rattle.symbolic_references.proofs.runtime.Runtime.keep_selection.Goals as goal

pub invariant_of-self : goal.invariant_of-self
invariant_of-self c = record {
  tables = c.self.invariant.tables;
  built_in = c.self.invariant.built_in;
  exceptions = c.self.invariant.exceptions;
  selections =
      c.keep.ensures c.self.inside.linker c.self.invariant.selections
      (subst (λ (v : RuntimeView). IsKnown (linker_in v) c.args.reference.now c.args.known.now) (sym c.self.view_is) c.requires);
  objects = c.self.invariant.objects;
}
