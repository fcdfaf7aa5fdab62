use Rattle.std.proofs.Common.{subst, sym}
use Rattle.member_selection.specs.Objects.{IsUsable}
use Rattle.symbolic_references.specs.Runtimes.{RuntimeView, linker_in}
use Rattle.symbolic_references.proofs.runtime.Runtime.make_arguments.Goals as goal

pub invariant_of-self : goal.invariant_of-self
invariant_of-self c = record {
  tables = c.self.invariant.tables;
  built_in = c.self.invariant.built_in;
  exceptions = c.self.invariant.exceptions;
  selections = c.self.invariant.selections;
  objects =
      c.make_arguments.ensures.loaded c.self.inside.linker
      (subst (λ (v : RuntimeView). IsUsable (linker_in v) c.string_kind-kind.result) (sym c.self.view_is) c.string_kind-kind.ensures.usable)
      c.self.invariant.objects;
}
