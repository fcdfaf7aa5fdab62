-- What is kept of a program with what the names of its lines came to, over what is loaded (JVM Specification 5.4.3).
use Rattle.std.specs.Prelude.{◌≡◌, ℕ, Some}
use Rattle.class_linker.specs.Linkers.{LinkerView}
use Rattle.jvm_model.specs.declared.instruction.SymbolicReference.{SymbolicReference}
use Rattle.jvm_model.specs.declared.program.Program.{Program}
use Rattle.member_selection.specs.declared.known.Known.{Known}
use Rattle.member_selection.specs.Known.{IsKnown}
use Rattle.prepared_code.specs.Cells.{Rows, cell_at}
use Rattle.prepared_code.specs.Lines.{IfNamed}
use Rattle.prepared_code.specs.Making.{AreBare, with_lines}
use Rattle.prepared_code.specs.Prepared.{IsPrepared}
use Rattle.prepared_code.specs.Tables.{Versions}
use Rattle.prepared_code.specs.Versions.{line_at}

-- what is kept at the place of a line that names something is what its names come to
pub record AreKnown (l : LinkerView) (v : Versions) (rows : Rows) : Type 0 where
  pub each : (version place : ℕ) (k : Known) → cell_at rows version place ≡ Some k → IfNamed (line_at v version place) (λ n next. IsKnown l n k)

-- what was known stays known
pub record IsLater (l new : LinkerView) : Type 0 where
  pub keeps : (n : SymbolicReference) (k : Known) → IsKnown l n k → IsKnown new n k

pub record IsKept (p : Program) (versions : Versions) : Type 0 where
  pub prepared : IsPrepared p (with_lines p versions)
  pub bare : AreBare p versions
