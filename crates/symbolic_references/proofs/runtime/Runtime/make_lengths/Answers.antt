use Rattle.std.proofs.Common.{subst, sym}
use Rattle.member_selection.specs.Objects.{IsUsable}
use Rattle.symbolic_references.specs.Runtimes.{RuntimeView, linker_in}
use Rattle.symbolic_references.proofs.ArraysMade.{all-usable}
use Rattle.symbolic_references.proofs.runtime.Runtime.make_lengths.Goals as goal

pub invariant_of-self : goal.invariant_of-self
invariant_of-self c = record {
  tables = c.self.invariant.tables;
  built_in = c.self.invariant.built_in;
  exceptions = c.self.invariant.exceptions;
  selections = c.self.invariant.selections;
  objects =
      let l = c.self.inside.linker in
      c.make_all.ensures.loaded l (all-usable l c.args.lengths.now c.args.kind c.requires.most (subst (λ (v : RuntimeView). IsUsable (linker_in v) c.args.kind) (sym c.self.view_is) c.requires.usable) c.self.invariant.objects.root) c.self.invariant.objects;
}

pub invariant_of-self-2 : goal.invariant_of-self-2
invariant_of-self-2 c = record {
  tables = c.self.invariant.tables;
  built_in = c.self.invariant.built_in;
  exceptions = c.self.invariant.exceptions;
  selections = c.self.invariant.selections;
  objects =
      let l = c.self.inside.linker in
      c.make_all.ensures.loaded l (all-usable l c.args.lengths.now c.args.kind c.requires.most (subst (λ (v : RuntimeView). IsUsable (linker_in v) c.args.kind) (sym c.self.view_is) c.requires.usable) c.self.invariant.objects.root) c.self.invariant.objects;
}
