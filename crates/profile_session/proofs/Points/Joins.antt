-- The marks that a session has in force where a step goes on are those that the rule gives at the last point before the
-- step's begin.
use Rattle.std.proofs.Common.{◌≡◌, ℕ, zero, suc, ◌+◌, Bool, true, false, not, ◌&&◌, List, [], ◌∷◌, ◌++◌, map, Option, Some, None, slice_get, if◌then◌else◌, refl, sym, ap, ◌∙◌, arith, zero-add}
use Rattle.std.specs.Prelude.{fold}
use Rattle.std.specs.List.{enumerate_from}
use Rattle.std.specs.Option.{option_map_or}
use Rattle.std.proofs.lemmas.List.{append-nil}
use Rattle.jvm_model.specs.declared.event.Act.{Act}
use Rattle.jvm_model.specs.declared.event.Event.{Event}
use Rattle.jvm_model.specs.declared.event.Mark.{Mark}
use Rattle.jvm_model.specs.declared.event.Mark.TheVariants.{Off, Plain, Root}
use Rattle.jvm_model.specs.declared.program.MethodPlace.{MethodPlace}
use Rattle.jvm_model.specs.declared.program.Program.{Program}
use Rattle.jvm_model.specs.Running.Changes.{EndThenBegin, AreOrdered}
use Rattle.jvm_model.specs.Basis.Data.{Change, Loads, Began, Left, Unwound, World}
use Rattle.jvm_model.specs.declared.instruction.Local.{Local}
use Rattle.jvm_model.specs.declared.instruction.Operation.{Operation}
use Rattle.jvm_model.specs.Profiling.EventLists.{Marking, step_events}
use Rattle.jvm_model.specs.Classes.Load.{is_among}
use Rattle.jvm_model.specs.Codes.Originals.{original}
use Rattle.jvm_model.specs.Profiling.Paths.{is_inside}
use Rattle.jvm_model.specs.Running.Run.{turn}
use Rattle.jvm_model.specs.Rewriting.StandsFor.{mark_at}
use Rattle.jvm_model.specs.Turns.Rest.{loads_first}
use Rattle.jvm_model.proofs.Events.Order.{run-ordered}
use Rattle.jvm_model.specs.Soundness.Whole.{IsWhole}
use Rattle.context_tree.proofs.Projection.Headline.{session-whole}
use Rattle.jvm_model.specs.Soundness.Calls.{AreFrom, loads_of}
use Rattle.context_tree.specs.Counts.{opens}
use Rattle.jvm_model.specs.Profiling.Points.{Standing, acts_at, acts_behind, after_change, before_begin, is_empty, is_target, mark_in, marking_of, standing_in}
use Rattle.context_tree.specs.Seen.{Matches, Seen, seen_acts, seen_before, seen_before-zero, seen_before-suc, seen_end, seen_event, seen_load}
use Rattle.jvm_model.specs.Profiling.Targets.{operations_of}
use Rattle.profile_session.specs.Keeping.{Kept, first_kept, at_point, kept_act, kept_acts, kept_before, kept_by, kept_by-zero, kept_by-suc, kept_end, kept_event, kept_load, kept_told, mark_seen, marks_seen, stand}

-- ---- what is kept has what is seen

pub load-seen : (p : Program) (clock : ℕ) (k : Kept) (classes : List ℕ) → (kept_load p clock k classes).seen ≡ seen_load k.seen classes
load-seen p clock k [] = ap (λ l. let s : Seen = record k.seen { loaded = l } in s) (sym (append-nil k.seen.loaded))
load-seen p clock k (class ∷ more) = refl

pub event-seen : (p : Program) (k : Kept) (e : Event) → (kept_event p k e).seen ≡ seen_event k.seen e
event-seen p k e = by (opens k.seen.open e.kind) where
  by : (b : Bool) → (let r : Kept = if b then at_point p e.clock k (seen_event k.seen e) else record k { seen = seen_event k.seen e } in r).seen ≡ seen_event k.seen e
  by true = refl
  by false = refl

pub events-seen : (p : Program) (events : List Event) (k : Kept) → (fold (kept_event p) k events).seen ≡ fold seen_event k.seen events
events-seen p [] k = refl
events-seen p (e ∷ more) k = events-seen p more (kept_event p k e) ∙ ap (λ s. fold seen_event s more) (event-seen p k e)

pub end-seen : (p : Program) (clock : ℕ) (k : Kept) → (kept_end p clock k).seen ≡ seen_end k.seen
end-seen p clock k = by (is_empty k.seen.selected && not (is_inside k.seen.open)) where
  by : (b : Bool) → (let r : Kept = if b then at_point p clock k (record k.seen { entered = [] }) else k in r).seen ≡ (let s : Seen = if b then record k.seen { entered = [] } else k.seen in s)
  by true = refl
  by false = refl

pub acts-seen : (p : Program) (acts : List Act) (k : Kept) → (kept_acts p k acts).seen ≡ seen_acts k.seen acts
acts-seen p [] k = refl
acts-seen p (a ∷ more) k = acts-seen p more (kept_act p k a)

pub told-seen : (p : Program) (clock : ℕ) (k : Kept) (classes : List ℕ) (events : List Event)
    → (kept_told p clock k classes events).seen ≡ fold seen_event (seen_load k.seen classes) events
told-seen p clock k classes events = events-seen p events (kept_load p clock k classes) ∙ ap (λ s. fold seen_event s events) (load-seen p clock k classes)

pub kept-seen : (acts : List Act) (w : World) (marking : Marking) (n : ℕ) → (kept_by acts w marking n).seen ≡ seen_before acts w marking n
kept-seen acts w marking zero =
    ap (λ (k : Kept). k.seen) (kept_by-zero acts w marking) ∙ (acts-seen w.program (acts_at 0 acts) (first_kept w) ∙ sym (seen_before-zero acts w marking))
kept-seen acts w marking (suc n) =
    let p = w.program in
    let k = kept_by acts w marking n in
    let classes = loads_of (turn w n).changes in
    let events = step_events marking w n in
    ap (λ (k : Kept). k.seen) (kept_by-suc acts w marking n)
    ∙ (acts-seen p (acts_behind n acts) (kept_end p n (kept_told p n k classes events))
    ∙ (ap (λ s. seen_acts s (acts_behind n acts)) (end-seen p n (kept_told p n k classes events) ∙ ap seen_end (told-seen p n k classes events
    ∙ ap (λ s. fold seen_event (seen_load s classes) events) (kept-seen acts w marking n)))
    ∙ sym (seen_before-suc acts w marking n)))

-- ---- marks by number

at-get : (f : ℕ → Mark) (n : ℕ) (l : List MethodPlace) (m : ℕ)
    → mark_at (map (λ (e : ℕ × MethodPlace). f e.0) (enumerate_from n l)) m ≡ option_map_or (λ (place : MethodPlace). f (n + m)) (slice_get l m) Off
at-get f n [] m = refl
at-get f n (x ∷ l) zero = let e : n ≡ n + 0 = omega arith in ap f e
at-get f n (x ∷ l) (suc m) = at-get f (n + 1) l m ∙ (let e : n + 1 + m ≡ n + suc m = omega arith in ap (λ k. option_map_or (λ (place : MethodPlace). f k) (slice_get l m) Off) e)

pub at-marks : (p : Program) (s : Seen) (m : ℕ) → mark_at (marks_seen p s) m ≡ mark_seen p s m
at-marks p s m = at-get (mark_seen p s) 0 p.methods m ∙ (ap (λ n. option_map_or (λ (place : MethodPlace). mark_seen p s n) (slice_get p.methods m) Off) (zero-add m) ∙ by (slice_get p.methods m) refl) where
  by : (o : Option MethodPlace) → slice_get p.methods m ≡ o → option_map_or (λ (place : MethodPlace). mark_seen p s m) o Off ≡ mark_seen p s m
  by (Some place) e = refl
  by None e =
      ap (λ o. let r : Mark = if option_map_or (λ (place : MethodPlace). is_among place.class s.loaded) o false then
      (if is_among m s.selected then Root else if is_target p (operations_of p) s.loaded s.entered m then Plain else Off) else Off in r) (sym e)

-- ---- what stands where an activation begins in a step

pub same-marks : (p : Program) (code : ℕ → List (Operation Local)) (a b : Standing) (m : ℕ) → a.selected ≡ b.selected → a.entered ≡ b.entered → a.loaded ≡ b.loaded
    → mark_in p code a m ≡ mark_in p code b m
same-marks p code a b m e f g =
    ap (λ l. let s : Standing = record a { selected = l } in mark_in p code s m) e
    ∙ (ap (λ l. let s : Standing = record a { selected = b.selected; entered = l } in mark_in p code s m) f
    ∙ ap (λ l. let s : Standing = record a { selected = b.selected; entered = b.entered; loaded = l } in mark_in p code s m) g)

record SameBut (s : Standing) (loaded : List ℕ) (t : Standing) : Type 0 where
  selected : t.selected ≡ s.selected
  entered : t.entered ≡ s.entered
  loaded_is : t.loaded ≡ loaded

ends-begin : (acts : List Act) (step : ℕ) (s : Standing) (cs : List Change) → EndThenBegin cs → SameBut s s.loaded (before_begin acts step s cs)
ends-begin acts step s [] order = record { selected = refl; entered = refl; loaded_is = refl }
ends-begin acts step s (Began m ∷ more) order = record { selected = refl; entered = refl; loaded_is = refl }
ends-begin acts step s (Loads classes ∷ more) order = absurd order
ends-begin acts step s (Left ∷ more) order =
    let r = ends-begin acts step (after_change acts step s Left) more order in record { selected = r.selected; entered = r.entered; loaded_is = r.loaded_is }
ends-begin acts step s (Unwound ∷ more) order =
    let r = ends-begin acts step (after_change acts step s Unwound) more order in record { selected = r.selected; entered = r.entered; loaded_is = r.loaded_is }

pub ends-load : (cs : List Change) → EndThenBegin cs → loads_of cs ≡ []
ends-load [] order = refl
ends-load (Left ∷ more) order = ends-load more order
ends-load (Unwound ∷ more) order = ends-load more order
ends-load (Began m ∷ []) order = refl
ends-load (Began m ∷ c ∷ more) order = absurd order
ends-load (Loads classes ∷ more) order = absurd order

-- the classes that a step loads are its first change
pub first-of : (cs : List Change) → AreOrdered cs → loads_of cs ≡ loads_first cs
first-of (Loads classes ∷ more) order = ap (λ l. classes ++ l) (ends-load more order) ∙ append-nil classes
first-of [] order = refl
first-of (Left ∷ more) order = ends-load (Left ∷ more) order
first-of (Unwound ∷ more) order = ends-load (Unwound ∷ more) order
first-of (Began m ∷ more) order = ends-load (Began m ∷ more) order

none-more : (s : Standing) (cs : List Change) (t : Standing) → EndThenBegin cs → SameBut s s.loaded t → SameBut s (s.loaded ++ loads_of cs) t
none-more s cs t order is = record { selected = is.selected; entered = is.entered; loaded_is = is.loaded_is ∙ (sym (append-nil s.loaded) ∙ ap (λ l. s.loaded ++ l) (sym (ends-load cs order))) }

load-begin : (acts : List Act) (step : ℕ) (s : Standing) (cs : List Change) → AreOrdered cs → SameBut s (s.loaded ++ loads_of cs) (before_begin acts step s cs)
load-begin acts step s (Loads classes ∷ more) order =
    let r = ends-begin acts step (after_change acts step s (Loads classes)) more order in
    record { selected = r.selected; entered = r.entered; loaded_is = r.loaded_is ∙ ap (λ l. s.loaded ++ l) (sym (first-of (Loads classes ∷ more) order)) }
load-begin acts step s [] order = none-more s [] s order (ends-begin acts step s [] order)
load-begin acts step s (Left ∷ more) order = none-more s (Left ∷ more) (before_begin acts step s (Left ∷ more)) order (ends-begin acts step s (Left ∷ more) order)
load-begin acts step s (Unwound ∷ more) order = none-more s (Unwound ∷ more) (before_begin acts step s (Unwound ∷ more)) order (ends-begin acts step s (Unwound ∷ more) order)
load-begin acts step s (Began m ∷ more) order = none-more s (Began m ∷ more) s order (ends-begin acts step s (Began m ∷ more) order)

-- ---- the join

module _ (w : World) (is : IsWhole w.program) (acts : List Act) (from : AreFrom 0 acts) where
  -- what is seen before a step, with the classes that it loads, has the marks in which methods begin in it
  pub join : (n m : ℕ) → mark_seen w.program (seen_load (kept_before acts w n).seen (loads_of (turn w n).changes)) m ≡ marking_of acts w n m
  join n m =
      let changes = (turn w n).changes in
      let standing = standing_in acts w (original w.program) n in
      let seen = seen_before acts w (marking_of acts w) n in
      let matches : Matches acts seen standing = session-whole w is acts from n in
      let begins = load-begin acts n standing changes (run-ordered w (original w.program) n) in
      ap (λ s. mark_seen w.program (seen_load s (loads_of changes)) m) (kept-seen acts w (marking_of acts w) n)
      ∙ same-marks w.program (operations_of w.program) (stand (seen_load seen (loads_of changes))) (before_begin acts n standing changes) m
      (matches.selected ∙ sym begins.selected) (matches.entered ∙ sym begins.entered)
      (ap (λ l. l ++ loads_of changes) matches.loaded ∙ sym begins.loaded_is)

  -- so where these are in force, the step goes on by the marking
  pub in-force : (n : ℕ) (s : Seen) → s ≡ seen_load (kept_before acts w n).seen (loads_of (turn w n).changes) → mark_at (marks_seen w.program s) ≡ marking_of acts w n
  in-force n s e = let each : (m : ℕ) → mark_at (marks_seen w.program s) m ≡ marking_of acts w n m = λ m. at-marks w.program s m ∙ (ap (λ s. mark_seen w.program s m) e ∙ join n m) in
      λ i m. each m i

  -- and between steps it has the marks of what stands there
  pub marks-stand : (n m : ℕ) → mark_seen w.program (kept_before acts w n).seen m ≡ mark_in w.program (operations_of w.program) (standing_in acts w (original w.program) n) m
  marks-stand n m =
      let standing = standing_in acts w (original w.program) n in
      let seen = seen_before acts w (marking_of acts w) n in
      let matches : Matches acts seen standing = session-whole w is acts from n in
      ap (λ s. mark_seen w.program s m) (kept-seen acts w (marking_of acts w) n)
      ∙ same-marks w.program (operations_of w.program) (stand seen) standing m matches.selected matches.entered matches.loaded
