-- What is kept of names stays what they come to where a runtime has the same classes loaded.
use Rattle.std.proofs.Common.{◌≡◌, ℕ, List, Some, ap₂, sym, subst}
use Rattle.class_linker.specs.Linkers.{LinkerView}
use Rattle.jvm_model.specs.Basis.Data.{World}
use Rattle.member_selection.specs.declared.known.Known.{Known}
use Rattle.member_selection.specs.Known.{IsKnown}
use Rattle.symbolic_references.specs.Runtimes.{RuntimeView, linker_in}
use Rattle.prepared_code.specs.Cells.{Keeps, Rows}
use Rattle.prepared_code.specs.Kept.{AreKnown}
use Rattle.prepared_code.specs.Lines.{IfNamedBy}
use Rattle.prepared_code.specs.Originals.{AreNamesKnown, OriginalsView}
use Rattle.prepared_code.specs.Versions.{line_at}
use Rattle.prepared_lines.specs.declared.line.Line.{Line}
use Rattle.prepared_code.proofs.Lines.CellLemmas.{renewed}

same-linker : (r new : RuntimeView) → new.world ≡ r.world → new.shared.loaded ≡ r.shared.loaded → linker_in new ≡ linker_in r
same-linker r new world loaded = ap₂ (λ (w : World) (classes : List ℕ). let l : LinkerView = record { program = w.program; loaded = classes } in l) world loaded

pub names-kept : (o : OriginalsView) (r new : RuntimeView) → new.world ≡ r.world → new.shared.loaded ≡ r.shared.loaded → AreNamesKnown o r → AreNamesKnown o new
names-kept o r new world loaded known = subst (λ (l : LinkerView). AreKnown l o.versions o.rows) (sym (same-linker r new world loaded)) known

-- what the line's own attempts leave
pub names-renewed : (o : OriginalsView) (r new : RuntimeView) (after : Rows) (version place : ℕ) (k : Known) (line : Line) → line_at o.versions version place ≡ Some line
    → new.world ≡ r.world → new.shared.loaded ≡ r.shared.loaded → Keeps version place k o.rows after
    → IfNamedBy line.operation line.next (λ n next. IsKnown (linker_in r) n k) → AreNamesKnown o r → AreNamesKnown (record o { rows = after }) new
names-renewed o r new after version place k line there world loaded keeps one known =
    names-kept (record o { rows = after }) r new world loaded (renewed (linker_in r) o.versions o.rows after version place k line there keeps known one)
