-- When what came is what a row says, by the definitions of marks and targets.
use Rattle.std.specs.Prelude.{◌≡◌, ◌≢◌, ℕ, zero, suc, Bool, true, false, not, List, [], ◌∷◌, Option, Some, None}
use Rattle.jvm_model.specs.declared.event.Mark.{Mark}
use Rattle.jvm_model.specs.declared.program.Program.{Program}
use Rattle.jvm_model.specs.Classes.Load.{is_among, load_of}
use Rattle.jvm_model.specs.Profiling.Points.{has_class, is_empty}
use Rattle.jvm_model.specs.Profiling.Revealed.{Revealed, changed_of, marks_of, with_loaded, with_method_entered, with_none_entered, with_selected, without_selected}
use Rattle.jvm_model.specs.Profiling.Targets.{targets}
use Rattle.possible_callees.specs.Tables.{IsRising}
use Rattle.call_revelation.specs.Reveals.{nothing_revealed}
use Rattle.played_rows.specs.declared.revelation.item.Difference.{Difference}
use Rattle.played_rows.specs.declared.revelation.item.Difference.TheVariants.{Came, NotLoaded}
use Rattle.played_rows.specs.declared.revelation.item.Fact.{Fact}
use Rattle.played_rows.specs.declared.revelation.item.Fact.TheVariants.{Begins, Changed, IsSelected, Marks, SelectsAny}
use Rattle.played_rows.specs.declared.revelation.item.Happening.{Happening}
use Rattle.played_rows.specs.declared.revelation.item.Happening.TheVariants.{Deselected, Entered, Loaded, Quiet, Selected, Shown}
use Rattle.played_rows.specs.declared.revelation.item.Item.{Item}
use Rattle.played_rows.specs.declared.revelation.item.Item.TheVariants.{Happens, Is}

-- what marks look at now, and what they looked at where they were shown last
pub record Seen : Type 0 where
  pub now : Revealed
  pub before : Revealed

-- nothing is selected or entered, these classes are loaded, and nothing was shown
abbrev pub first : List ℕ → Seen
first loaded = record { now = with_loaded loaded nothing_revealed; before = nothing_revealed }

-- ---- what happens

abbrev pub entered_often : ℕ → ℕ → Revealed → Revealed
entered_often method zero r = r
entered_often method (suc n) r = with_method_entered method (entered_often method n r)

abbrev pub revealed_by : Program → Happening → Revealed → Revealed
revealed_by p (Loaded name) r = with_loaded (load_of p r.loaded name).loaded r
revealed_by p (Entered method times) r = entered_often method times r
revealed_by p (Selected method) r = with_selected method r
revealed_by p (Deselected method) r = without_selected method r
revealed_by p Quiet r = with_none_entered r
revealed_by p Shown r = r

abbrev pub shown_by : Happening → Seen → Revealed
shown_by (Loaded name) s = s.before
shown_by (Entered method times) s = s.before
shown_by (Selected method) s = s.before
shown_by (Deselected method) s = s.before
shown_by Quiet s = s.before
shown_by Shown s = s.now

-- a fact changes nothing
abbrev pub behind : Program → Item → Seen → Seen
behind p (Happens happening) s = record { now = revealed_by p happening s.now; before = shown_by happening s }
behind p (Is fact) s = s

-- ---- what is the case

-- these are the methods that one of a loaded class can begin, in order
pub record AreTargets (p : Program) (loaded : List ℕ) (method : ℕ) (methods : List ℕ) : Type 0 where
  pub rising : IsRising methods
  pub targets : (m : ℕ) → is_among m methods ≡ is_among m (targets p loaded method)

-- what can begin is told of methods whose class is loaded
abbrev pub can_be_told : Program → Revealed → Fact → Bool
can_be_told p r (Marks marks) = true
can_be_told p r (Changed classes) = true
can_be_told p r (Begins method methods) = has_class p r.loaded method
can_be_told p r (IsSelected method is) = true
can_be_told p r (SelectsAny any) = true

-- the fact of the same kind that is the case
pub data IsTold (p : Program) (s : Seen) : Fact → Fact → Type 0 where
  marks : (wanted came : List Mark) → came ≡ marks_of p s.now → IsTold p s (Marks wanted) (Marks came)
  changed : (wanted came : List ℕ) → came ≡ changed_of p s.before s.now → IsTold p s (Changed wanted) (Changed came)
  begins : (method : ℕ) (wanted came : List ℕ) → AreTargets p s.now.loaded method came → IsTold p s (Begins method wanted) (Begins method came)
  selected : (method : ℕ) (wanted came : Bool) → came ≡ is_among method s.now.selected → IsTold p s (IsSelected method wanted) (IsSelected method came)
  selects : (wanted came : Bool) → came ≡ not (is_empty s.now.selected) → IsTold p s (SelectsAny wanted) (SelectsAny came)

-- ---- what came

-- only methods of loaded classes are entered
abbrev pub can_be_asked : Program → Revealed → Item → Bool
can_be_asked p r (Happens (Loaded name)) = true
can_be_asked p r (Happens (Entered method times)) = has_class p r.loaded method
can_be_asked p r (Happens (Selected method)) = true
can_be_asked p r (Happens (Deselected method)) = true
can_be_asked p r (Happens Quiet) = true
can_be_asked p r (Happens Shown) = true
can_be_asked p r (Is fact) = can_be_told p r fact

-- an item comes as it says: something happens, or a fact is the one of its kind that is the case
abbrev pub Passes : Program → Seen → Item → Type 0
Passes p s (Happens happening) = can_be_asked p s.now (Happens happening) ≡ true
Passes p s (Is fact) = IsTold p s fact fact

-- what is told of one that does not: another fact is the case
abbrev pub Differs : Program → Seen → Item → Difference → Type 0
Differs p s (Happens happening) NotLoaded = can_be_asked p s.now (Happens happening) ≡ false
Differs p s (Happens happening) (Came came) = ⊥
Differs p s (Is fact) NotLoaded = can_be_asked p s.now (Is fact) ≡ false
Differs p s (Is fact) (Came came) = IsTold p s fact came × (came ≢ fact)

-- what is told of a row: nothing where all its items come as they say, one behind the other, and else what came of the
-- first that does not
pub data Comes (p : Program) : List Item → Seen → Option Difference → Type 0 where
  all : (s : Seen) → Comes p [] s None
  more : (item : Item) (rest : List Item) (s : Seen) (found : Option Difference) → Passes p s item → Comes p rest (behind p item s) found → Comes p (item ∷ rest) s found
  stops : (item : Item) (rest : List Item) (s : Seen) (difference : Difference) → Differs p s item difference → Comes p (item ∷ rest) s (Some difference)
