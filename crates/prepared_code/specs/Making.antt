-- Versions whose lines are still to be made. Such a version is its method's original code, and it is seen with the
-- lines that it is to have.
use Rattle.std.specs.Prelude.{◌≡◌, ℕ, Bool, false, true, List, [], length, map, Option, Some, if◌then◌else◌, ◌==◌}
use Rattle.std.specs.List.{range_with_len}
use Rattle.std.specs.Option.{IfSome, option_map, option_map_or}
use Rattle.method_versions.specs.Tables.{prepared_anew}
use Rattle.jvm_model.specs.declared.event.Mark.TheVariants.{Off}
use Rattle.jvm_model.specs.declared.program.Program.{Program}
use Rattle.prepared_lines.specs.declared.line.Line.{Line}
use Rattle.prepared_code.specs.declared.passage.Passage.{Passage}
use Rattle.prepared_code.specs.declared.versions.Catching.{Catching}
use Rattle.prepared_code.specs.declared.versions.PreparedCode.{PreparedCode}
use Rattle.prepared_code.specs.Entries.{original_version, own_number}
use Rattle.prepared_code.specs.Tables.{Version, Versions, version_at}
use Rattle.prepared_code.specs.Versions.{line_at, next_in}

-- ---- versions without lines

abbrev pub without_lines : Version → Version
without_lines x = record x { prepared = record x.prepared { has_lines = false; lines = [] } }

-- a version without lines, in which no probe stands
abbrev pub bare : ℕ → List Catching → Version
bare k handlers = record { method = k; prepared = record { has_lines = false; mark = Off; first = 0; lines = []; handlers = handlers } }

-- what is kept at first of the method with this number
abbrev pub bare_version : Program → ℕ → Version
bare_version p k = without_lines (original_version p k)

abbrev pub bare_slot : Program → ℕ → Option Version
bare_slot p k = Some (bare_version p k)

abbrev pub bare_versions : Program → Versions
bare_versions p = record {
  slots = map (bare_slot p) (range_with_len 0 (length p.methods));
  current = map own_number (range_with_len 0 (length p.methods));
}

-- one that is not held has no lines to be made
abbrev pub has_lines : Versions → ℕ → Bool
has_lines v version = option_map_or (λ (x : Version). x.prepared.has_lines) (version_at v version) true

-- ---- as they are seen

-- with the lines that it has, or is to have
abbrev pub made_by : Program → Version → Version
made_by p x = if x.prepared.has_lines then x else original_version p x.method

abbrev pub with_lines : Program → Versions → Versions
with_lines p v = record { slots = map (option_map (made_by p)) v.slots; current = v.current }

-- ---- what is kept

-- it has its lines, or is what is kept at first of its method
abbrev pub IsBare : Program → Version → Type 0
IsBare p x = x.prepared.has_lines ≡ false → x ≡ bare_version p x.method

pub record AreBare (p : Program) (v : Versions) : Type 0 where
  pub each : (version : ℕ) → IfSome (version_at v version) (IsBare p)

-- the lines of this version are made, if it is held
abbrev pub HasItsLines : Program → Versions → ℕ → Type 0
HasItsLines p v version = (place : ℕ) → line_at v version place ≡ line_at (with_lines p v) version place

-- a version, if it is held, is prepared anew
pub record IsReplaced (number : ℕ) (prepared : PreparedCode) (old new : Versions) : Type 0 where
  pub held : (k : ℕ) → version_at new k ≡ (if k == number then option_map (prepared_anew prepared) (version_at old number) else version_at old k)
  pub current : new.current ≡ old.current
  pub count : length new.slots ≡ length old.slots

-- ---- what a frame that goes on has to know of a line

abbrev pub passage_of : Line → Passage
passage_of line = record { own = line.instr.at; next = next_in line }
