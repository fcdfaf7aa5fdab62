-- The kinds that tables keep of the classes of exceptions, over a runtime with these tables.
use Rattle.std.proofs.Common.{◌≡◌, ◌∙◌, ap, subst, sym}
use Rattle.jvm_model.specs.declared.exception.Exception.{Exception}
use Rattle.class_linker.specs.Linkers.{LinkerView}
use Rattle.symbolic_references.specs.declared.program_tables.ProgramTables.{ProgramTables}
use Rattle.member_selection.specs.Objects.{IsUsable}
use Rattle.symbolic_references.specs.ProgramFacts.{AreTablesOf, HasExceptions, exception_in, exception_kind}
use Rattle.symbolic_references.specs.Runtimes.{RuntimeView, linker_in}

module _ (l : LinkerView) (v : RuntimeView) (t : ProgramTables) (e : Exception) where
  pub kept_kind : (given : Exception) → AreTablesOf l.program t → l ≡ linker_in v → given ≡ e
      → exception_in l.program t.exceptions e ≡ exception_kind v.world.program given
  kept_kind given tables same is =
      tables.raised e ∙ (ap (λ (l : LinkerView). exception_kind l.program e) same ∙ ap (exception_kind v.world.program) (sym is))

  pub kept_usable : AreTablesOf l.program t → HasExceptions l → l ≡ linker_in v
      → IsUsable (linker_in v) (exception_in l.program t.exceptions e)
  kept_usable tables there same =
      subst (λ k. IsUsable k (exception_in l.program t.exceptions e)) same
      (subst (IsUsable l) (sym (tables.raised e)) (there.each e))
