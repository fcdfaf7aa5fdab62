use Rattle.std.proofs.Common.{subst, sym}
use Rattle.std.specs.Prelude.{is_ok}
use Rattle.member_selection.proofs.ObjectLemmas.{objects_interned}
use Rattle.member_selection.specs.Objects.{AreLoaded, IsUsable}
use Rattle.symbolic_references.specs.Runtimes.{RuntimeView, linker_in}
use Rattle.symbolic_references.proofs.runtime.Runtime.push_string.Goals as goal

pub invariant_of-self : goal.invariant_of-self
invariant_of-self c = record {
  tables = c.self.invariant.tables;
  built_in = c.self.invariant.built_in;
  exceptions = c.self.invariant.exceptions;
  selections = c.self.invariant.selections;
  objects =
      subst (AreLoaded c.self.inside.linker) (sym c.intern.ensures.heap)
      (objects_interned c.self.inside.linker (is_ok c.intern.result) c.self.inside.heap c.string_kind-kind.result c.units.result.now c.self.invariant.objects
      (subst (λ (v : RuntimeView). IsUsable (linker_in v) c.string_kind-kind.result) (sym c.self.view_is) c.string_kind-kind.ensures.usable));
}
