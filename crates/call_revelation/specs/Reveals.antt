-- What a revelation keeps of a run: what is selected, entered and loaded, the targets of what is entered, and the marks
-- that were shown.
use Rattle.std.specs.Prelude.{◌≡◌, ◌+◌, ℕ, Bool, true, false, List, [], ◌∷◌, ◌++◌, length, is_some, slice_get, slice_set, unwrap_or, if◌then◌else◌, Option, Some, None}
use Rattle.std.specs.List.{AllByRecursion}
use Rattle.std.specs.Option.{option_and_then, option_map_or}
use Rattle.jvm_model.specs.declared.event.Mark.{Mark}
use Rattle.jvm_model.specs.declared.event.Mark.TheVariants.{Off, Plain, Root}
use Rattle.jvm_model.specs.declared.program.MethodPlace.{MethodPlace}
use Rattle.jvm_model.specs.declared.program.Program.{Program}
use Rattle.jvm_model.specs.Basis.KindNumbers.{user_count}
use Rattle.jvm_model.specs.Classes.Load.{is_among}
use Rattle.jvm_model.specs.Profiling.Points.{has_class, is_target}
use Rattle.jvm_model.specs.Basis.Programs.{place_of_method}
use Rattle.jvm_model.specs.Profiling.Revealed.{Revealed, mark_of}
use Rattle.jvm_model.specs.Profiling.Revelation.{IsLoadOrder}
use Rattle.jvm_model.specs.Soundness.Sound.{HasClass, IsFit}
use Rattle.jvm_model.specs.Profiling.Swaps.{same_mark}
use Rattle.jvm_model.specs.Profiling.Targets.{operations_of}
use Rattle.prepared_code.specs.Prepared.{HasShortCodes}
use Rattle.class_linker.specs.Linkers.{IsLoaded, LinkerView}
use Rattle.member_selection.specs.Numbers.{AreNumbers}
use Rattle.possible_callees.specs.Lineages.{IsLineage}
use Rattle.possible_callees.specs.Ranks.{rank_of}
use Rattle.possible_callees.specs.Tables.{IsPrefix, list_at, with_item}
use Rattle.call_revelation.specs.declared.reveal.Reveal.{Reveal}
use Rattle.call_revelation.specs.Books.{IsBookOf, code_at}
use Rattle.call_revelation.specs.CalledClasses.{AreHanded, HasCalled}
use Rattle.call_revelation.specs.Flags.{flag_at}

-- what marks look at
abbrev pub now_of : Reveal → Revealed
now_of r = record { selected = r.selected; entered = r.entered; loaded = r.lineage.loaded }

-- nothing is selected, entered or loaded
abbrev pub nothing_revealed : Revealed
nothing_revealed = record { selected = []; entered = []; loaded = [] }

-- ---- kept by number

-- a number that is no method's has no mark but Off
abbrev pub mark_at : List Mark → ℕ → Mark
mark_at marks m = unwrap_or (slice_get marks m) Off

-- the numbers of methods by their classes, from this number on
abbrev pub owned_from : ℕ → List MethodPlace → List (List ℕ) → List (List ℕ)
owned_from m [] lists = lists
owned_from m (place ∷ rest) lists = owned_from (m + 1) rest (with_item place.class m lists)

-- each method is among those of its class
abbrev pub AreOwned : Program → List (List ℕ) → Type 0
AreOwned p own = (m : ℕ) (place : MethodPlace) → place_of_method p m ≡ Some place → is_among m (list_at own place.class) ≡ true

-- ---- marks by what is kept

abbrev pub mark_by : Bool → Bool → Bool → Mark
mark_by loaded selected target = if loaded then (if selected then Root else if target then Plain else Off) else Off

abbrev pub mark_kept : Program → Reveal → ℕ → Mark
mark_kept p r m = mark_by (has_class p r.lineage.loaded m) (is_among m r.selected) (is_among m r.targets)

-- the class of a method that has another mark than the one that was shown
abbrev pub class_changed : Program → Reveal → ℕ → Option ℕ
class_changed p r m =
    if same_mark (mark_at r.shown m) (mark_kept p r m) then None
    else option_map_or (λ (place : MethodPlace). Some place.class) (place_of_method p m) None

-- its place in load order, where it is loaded
abbrev pub rank_changed : Program → Reveal → ℕ → Option ℕ
rank_changed p r m = option_and_then (λ class. rank_of class r.lineage.loaded) (class_changed p r m)

-- with the marks of these methods
abbrev pub with_marks : Program → Reveal → List ℕ → List Mark → List Mark
with_marks p r [] shown = shown
with_marks p r (m ∷ rest) shown = with_marks p r rest (slice_set shown m (mark_kept p r m))

-- ---- what holds of it

-- What is kept of methods, classes and code is of this program. A flag means entered; what is entered was read, its
-- class is loaded, and the classes that its calls name are kept.
pub record IsKept (p : Program) (r : Reveal) : Type 0 where
  pub fit : IsFit p
  pub short : AllByRecursion HasShortCodes p.classes
  pub numbers : AreNumbers p r.numbers
  pub own : AreOwned p r.own.items
  pub lineage : IsLineage p r.lineage
  pub book : IsBookOf p r.book
  pub flags : (m : ℕ) → flag_at r.flags m ≡ is_among m r.entered
  pub flagged : length r.flags ≡ length p.methods
  pub marked : length r.shown ≡ length p.methods
  pub booked : (m : ℕ) → is_among m r.entered ≡ true → is_some (code_at r.book.codes m) ≡ true
  pub callers : (m : ℕ) → is_among m r.entered ≡ true → HasClass p r.lineage.loaded m
  pub named : AreHanded p r.lineage.loaded r.named
  pub called : (m : ℕ) → is_among m r.entered ≡ true → HasCalled p r.named m

-- So it is, and the targets are those of what is entered over what is loaded. A method that is not stale was shown with
-- its mark.
pub record IsRevelation (p : Program) (r : Reveal) : Type 0 where
  pub kept : IsKept p r
  pub targets : (m : ℕ) → is_among m r.targets ≡ is_target p (operations_of p) r.lineage.loaded r.entered m
  pub shown : (m : ℕ) → is_among m r.stale ≡ false → mark_at r.shown m ≡ mark_of p (now_of r) m

-- A linker that has loaded what it knows, and java/lang/Object.
pub record IsAhead (l : LinkerView) (r : Reveal) : Type 0 where
  pub loaded : (class : ℕ) → is_among class r.lineage.loaded ≡ true → IsLoaded l class
  pub root : IsLoaded l (user_count l.program)

-- ---- what a call leaves that stops

-- The book, the lineage and the classes that calls name are those of the program, and more was read, named and loaded;
-- there are more targets, and more that is stale.
pub record IsGrown (p : Program) (old new : Reveal) : Type 0 where
  pub lineage : IsLineage p new.lineage
  pub book : IsBookOf p new.book
  pub codes : (m : ℕ) → is_some (code_at old.book.codes m) ≡ true → is_some (code_at new.book.codes m) ≡ true
  pub named : AreHanded p new.lineage.loaded new.named
  pub called : (class : ℕ) → is_among class old.named.classes ≡ true → is_among class new.named.classes ≡ true
  pub loaded : IsPrefix old.lineage.loaded new.lineage.loaded
  pub targets : IsPrefix old.targets new.targets
  pub stale : IsPrefix old.stale new.stale
  pub same : new ≡ (record old { lineage = new.lineage; book = new.book; named = new.named; targets = new.targets; stale = new.stale })

-- so far these classes were loaded in order, and the rest is to come
pub record AreLoading (l : LinkerView) (first now : Reveal) (classes rest : List ℕ) : Type 0 where
  pub revelation : IsRevelation l.program now
  pub grown : IsGrown l.program first now
  pub ahead : IsAhead l now
  pub loaded : now.lineage.loaded ++ rest ≡ first.lineage.loaded ++ classes
  pub order : IsLoadOrder l.program now.lineage.loaded rest
  pub linked : AllByRecursion (IsLoaded l) rest
