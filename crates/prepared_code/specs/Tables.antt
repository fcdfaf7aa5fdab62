-- The table of the versions that are held: by their numbers, with the number of the version that each method begins in.
use Rattle.std.specs.Prelude.{◌≡◌, ◌<◌, ℕ, false, List, [], ◌∷◌, length, slice_set, Option, Some, None, ◌==◌, ◌&&◌, if◌then◌else◌}
use Rattle.std.specs.List.{AllByRecursion}
use Rattle.frame_stack.specs.FrameLists.{PlacedFrame, pins_of}
use Rattle.method_versions.specs.declared.versions.Held.{Held}
use Rattle.method_versions.specs.Tables.{Table, current_in, held_besides, held_in, is_superseded_in}
use Rattle.prepared_code.specs.declared.versions.PreparedCode.{PreparedCode}

-- a version of a method, prepared
abbrev pub Version : Type 0
Version = Held PreparedCode

pub record Versions : Type 0 where
  pub slots : List (Option Version)
  pub current : List ℕ

-- of a table with any room
abbrev pub table_seen : Table PreparedCode → Versions
table_seen t = record { slots = t.slots; current = t.current }

abbrev pub version_at : Versions → ℕ → Option Version
version_at v version = held_in v.slots version

-- each version that is held is the one that its method begins in
abbrev pub AreAllCurrent : Versions → Type 0
AreAllCurrent v = (version : ℕ) → is_superseded_in v.slots v.current version ≡ false

-- ---- a version more, in which its method begins

-- it has a number that no version had; the former one stays where one of these frames runs it
pub record IsAdded (fs : List PlacedFrame) (number : ℕ) (x : Version) (old new : Versions) : Type 0 where
  pub vacant : version_at old number ≡ None
  pub small : number < 4294967296
  pub held : (k : ℕ) → version_at new k ≡ (if k == number then Some x else held_besides fs (current_in old.current x.method) k (version_at old k))
  pub current : new.current ≡ slice_set old.current x.method number

-- one behind the other
abbrev pub Adds : List PlacedFrame → List Version → Versions → Versions → Type 0
Adds fs [] old new = new ≡ old
Adds fs (x ∷ xs) old new = (number : ℕ) × (between : Versions) × IsAdded fs number x old between × Adds fs xs between new

-- each is of one of so many methods
abbrev pub AreOfMethods : ℕ → List Version → Type 0
AreOfMethods count xs = AllByRecursion (λ (x : Version). x.method < count) xs

-- ---- superseded versions are dropped

-- a superseded version stays while one of these frames runs it
pub record Releases (fs : List PlacedFrame) (old new : Versions) : Type 0 where
  pub held : (k : ℕ) → version_at new k ≡ (if is_superseded_in old.slots old.current k && pins_of k fs == 0 then None else version_at old k)
  pub current : new.current ≡ old.current
  pub count : length new.slots ≡ length old.slots
