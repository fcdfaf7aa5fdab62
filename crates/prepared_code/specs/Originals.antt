-- What a clause sees of a prepared program: its versions, with all their lines and as they are kept, some still without
-- them, and what is kept of the names of lines.
use Rattle.std.specs.Prelude.{◌≡◌, ℕ}
use Rattle.jvm_model.specs.declared.program.Program.{Program}
use Rattle.jvm_model.specs.Basis.Data.{World}
use Rattle.prepared_code.specs.Cells.{Rows}
use Rattle.prepared_code.specs.Kept.{AreKnown}
use Rattle.prepared_code.specs.Tables.{Versions}
use Rattle.prepared_code.specs.Versions.{Setup, line_at}
use Rattle.symbolic_references.specs.Runtimes.{RuntimeView, linker_in}

pub record OriginalsView : Type 0 where
  pub program : Program
  pub versions : Versions
  pub kept : Versions
  pub rows : Rows

-- in this world
abbrev pub setup_of : World → OriginalsView → Setup
setup_of w o = record { world = w; versions = o.versions }

-- what a runtime runs by it
abbrev pub setup_in : RuntimeView → OriginalsView → Setup
setup_in r o = setup_of r.world o

-- what is kept of names is what they come to by what a runtime has loaded
abbrev pub AreNamesKnown : OriginalsView → RuntimeView → Type 0
AreNamesKnown o r = AreKnown (linker_in r) o.versions o.rows

-- what is kept of a version has each of its lines
abbrev pub IsReady : OriginalsView → ℕ → Type 0
IsReady o version = (place : ℕ) → line_at o.kept version place ≡ line_at o.versions version place
