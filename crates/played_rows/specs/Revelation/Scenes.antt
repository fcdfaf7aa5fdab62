-- What a scene keeps to, and what is seen of it.
use Rattle.std.specs.Prelude.{◌≡◌, ℕ, false, List, [], Option, Some, None}
use Rattle.jvm_model.specs.declared.event.Mark.{Mark}
use Rattle.jvm_model.specs.Basis.KindNumbers.{user_count}
use Rattle.jvm_model.specs.Classes.Load.{load_of}
use Rattle.jvm_model.specs.Profiling.Revealed.{Revealed, marks_of, with_loaded}
use Rattle.jvm_model.specs.Profiling.Revelation.{IsLoadOrder}
use Rattle.class_linker.specs.Linkers.{IsLoaded, LinkerView}
use Rattle.program_fit.specs.Runnable.{IsAdmitted}
use Rattle.possible_callees.specs.Tables.{IsPrefix}
use Rattle.call_revelation.specs.declared.reveal.Reveal.{Reveal}
use Rattle.call_revelation.specs.Reveals.{IsRevelation, nothing_revealed, now_of}
use Rattle.played_rows.specs.declared.revelation.item.Difference.{Difference}
use Rattle.played_rows.specs.declared.revelation.item.Fact.{Fact}
use Rattle.played_rows.specs.declared.revelation.item.Happening.{Happening}
use Rattle.played_rows.specs.declared.revelation.item.Happening.TheVariants.{Deselected, Entered, Loaded, Quiet, Selected, Shown}
use Rattle.played_rows.specs.declared.revelation.item.Item.{Item}
use Rattle.played_rows.specs.Revelation.Rows.{Differs, IsTold, Passes, Seen, behind, can_be_told, first, revealed_by}

-- ---- what it keeps to

-- of the same program more is loaded, in order where it was
pub record IsLinked (old new : LinkerView) : Type 0 where
  pub program : new.program ≡ old.program
  pub prefix : IsPrefix old.loaded new.loaded
  pub order : IsLoadOrder old.program [] old.loaded → IsLoadOrder new.program [] new.loaded

-- behind a load
abbrev pub loading : List ℕ → LinkerView → LinkerView
loading name l = record { program = l.program; loaded = (load_of l.program l.loaded name).loaded }

-- the revelation is that of an admitted program, and the linker has loaded what it knows, in order, and more behind it
pub record IsAlong (l : LinkerView) (r : Reveal) : Type 0 where
  pub admitted : IsAdmitted l.program
  pub revelation : IsRevelation l.program r
  pub prefix : IsPrefix (now_of r).loaded l.loaded
  pub order : IsLoadOrder l.program [] l.loaded

-- so it is, and java/lang/Object is loaded
pub record IsReady (l : LinkerView) (r : Reveal) : Type 0 where
  pub along : IsAlong l r
  pub root : IsLoaded l (user_count l.program)

-- ---- what is seen of it

-- what is selected and entered, with what the linker has loaded: it alone says that
abbrev pub methods_revealed : LinkerView → Reveal → Revealed
methods_revealed l r = with_loaded l.loaded (now_of r)

pub record IsSeen (l : LinkerView) (r : Reveal) (s : Seen) : Type 0 where
  pub now : methods_revealed l r ≡ s.now
  pub shown : r.shown ≡ marks_of l.program s.before

-- the revelation takes what is loaded more, as it does before it is asked for marks and before a method is entered
pub record IsFollowed (l : LinkerView) (r after : Reveal) : Type 0 where
  pub ready : IsReady l after
  pub now : now_of after ≡ methods_revealed l r
  pub shown : after.shown ≡ r.shown

-- nothing is loaded, and nothing was shown
pub record IsBlank (l : LinkerView) (r : Reveal) : Type 0 where
  pub along : IsAlong l r
  pub seen : IsSeen l r (record { now = nothing_revealed; before = nothing_revealed })

-- only what is loaded is seen
pub record IsFresh (l : LinkerView) (r : Reveal) : Type 0 where
  pub ready : IsReady l r
  pub seen : IsSeen l r (first l.loaded)

-- ---- what becomes of it

abbrev pub marks_shown : Happening → LinkerView → Reveal → List Mark
marks_shown (Loaded name) l r = r.shown
marks_shown (Entered method times) l r = r.shown
marks_shown (Selected method) l r = r.shown
marks_shown (Deselected method) l r = r.shown
marks_shown Quiet l r = r.shown
marks_shown Shown l r = marks_of l.program (methods_revealed l r)

pub record HasHappened (happening : Happening) (l : LinkerView) (r : Reveal) (next : LinkerView) (after : Reveal) : Type 0 where
  pub ready : IsReady next after
  pub program : next.program ≡ l.program
  pub now : methods_revealed next after ≡ revealed_by l.program happening (methods_revealed l r)
  pub shown : after.shown ≡ marks_shown happening l r

-- the fact of its kind that is told of whatever is seen
abbrev pub IsToldOf : LinkerView → Reveal → Fact → Fact → Type 0
IsToldOf l r wanted came = (s : Seen) → IsSeen l r s → IsTold l.program s wanted came

-- an item passes, and what is seen is what stands behind it
pub record GoesOn (item : Item) (l : LinkerView) (r : Reveal) (next : LinkerView) (after : Reveal) : Type 0 where
  pub ready : IsReady next after
  pub program : next.program ≡ l.program
  pub passes : (s : Seen) → IsSeen l r s → Passes l.program s item
  pub seen : (s : Seen) → IsSeen l r s → IsSeen next after (behind l.program item s)

-- what is told of a fact: that of its kind, unless it cannot be told
abbrev pub IsAnswered : LinkerView → Reveal → Fact → Option Fact → Type 0
IsAnswered l r fact None = can_be_told l.program (methods_revealed l r) fact ≡ false
IsAnswered l r fact (Some came) = IsToldOf l r fact came

-- an item does not pass, which is told
abbrev pub StopsAt : Item → LinkerView → Reveal → Difference → Type 0
StopsAt item l r difference = (s : Seen) → IsSeen l r s → Differs l.program s item difference

-- what comes of an item: what is seen goes on, or it stops there
abbrev pub ComesTo : Item → LinkerView → Reveal → LinkerView → Reveal → Option Difference → Type 0
ComesTo item l r next after None = GoesOn item l r next after
ComesTo item l r next after (Some difference) = StopsAt item l r difference
