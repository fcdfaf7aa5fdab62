-- Where a step stops on its way: at the first of its changes of which a probe tells. An end is told before it comes, a
-- begin behind it.
use Rattle.std.specs.Prelude.{◌≡◌, ℕ, zero, suc, Bool, true, false, List, [], ◌∷◌, ◌++◌, Option, Some, None, if◌then◌else◌}
use Rattle.std.specs.Option.{option_map_or}
use Rattle.jvm_model.specs.declared.event.Event.{Event}
use Rattle.jvm_model.specs.declared.event.EventKind.{EventKind}
use Rattle.jvm_model.specs.declared.event.EventKind.TheVariants as kind
use Rattle.jvm_model.specs.declared.event.Mark.{Mark}
use Rattle.jvm_model.specs.declared.event.Mark.TheVariants.{Off, Plain, Root}
use Rattle.jvm_model.specs.Rewriting.Images.{is_off}
use Rattle.jvm_model.specs.Basis.Data.{State, Change, Loads, Began, Left, Unwound, Turn, Listing, World}
use Rattle.jvm_model.specs.Running.Moves.{move, moves_left}
use Rattle.jvm_model.specs.Turns.Rest.{Todo, Attempt, Moves, rest, IsPart}
use Rattle.jvm_model.specs.Turns.Told.{Held, held_after, helds, mark_now, changes_told, all_held}
-- ---- the first change of several that is told

-- nothing; or the current activation ends next, and this probe of its version tells so; or an activation has begun
pub use Rattle.jvm_model.specs.declared.due.Due.{Due}
pub use Rattle.jvm_model.specs.declared.due.Due.TheVariants.{Nothing, Ends, Begins}

-- an end is told before it comes
abbrev pub is_end : Due → Bool
is_end (Ends k) = true
is_end Begins = false
is_end Nothing = false

abbrev pub unless_off : Mark → Due → Due
unless_off m due = if is_off m then Nothing else due

abbrev pub end_due : EventKind → List Held → Due
end_due k [] = Nothing
end_due k (h ∷ more) = unless_off h.mark (Ends k)

abbrev pub change_due : (ℕ → Mark) → List Held → Change → Due
change_due marks live (Loads classes) = Nothing
change_due marks live (Began m) = unless_off (marks m) Begins
change_due marks live Left = end_due kind.Leave live
change_due marks live Unwound = end_due kind.Unwind live

-- how many changes are behind it, and which activations are live then
pub record Stop : Type 0 where
  pub live : List Held
  pub passed : ℕ
  pub due : Due

abbrev pub stop_by : List Held → List Held → ℕ → Due → Stop → Stop
stop_by before after n Nothing later = later
stop_by before after n (Ends k) later = record { live = before; passed = n; due = Ends k }
stop_by before after n Begins later = record { live = after; passed = suc n; due = Begins }

abbrev pub stop_in : (ℕ → Mark) → ℕ → List Held → List Change → Stop
stop_in marks n live [] = record { live = live; passed = n; due = Nothing }
stop_in marks n live (c ∷ more) =
    stop_by live (held_after marks live c) n (change_due marks live c) (stop_in marks (suc n) (held_after marks live c) more)

-- so many changes more
abbrev pub passed_by : ℕ → List Change → ℕ
passed_by n [] = n
passed_by n (c ∷ more) = passed_by (suc n) more

-- ---- the same of a state: its moves up to there

pub record Pause : Type 0 where
  pub state : State
  pub passed : ℕ
  pub due : Due

abbrev pub changes_due : (ℕ → Mark) → List Held → List Change → Due
changes_due marks live [] = Nothing
changes_due marks live (c ∷ more) = change_due marks live c

abbrev pub pause_by : State → State → ℕ → List Change → Due → Pause → Pause
pause_by before after n changes Nothing later = later
pause_by before after n changes (Ends k) later = record { state = before; passed = n; due = Ends k }
pause_by before after n changes Begins later = record { state = after; passed = passed_by n changes; due = Begins }

-- so many moves, or up to where none applies, or to the first one that is told
abbrev pub pauses : World → Listing → (ℕ → Mark) → ℕ → ℕ → State → Pause
pauses w t v zero n s = record { state = s; passed = n; due = Nothing }
pauses w t v (suc k) n s =
    option_map_or (λ (next : Turn). pause_by s next.after n next.changes (changes_due (mark_now v t) (helds v s.stack) next.changes)
    (pauses w t v k (passed_by n next.changes) next.after)) (move w t s) (record { state = s; passed = n; due = Nothing })

-- behind so many changes of the step
abbrev pub step_paused : World → Listing → (ℕ → Mark) → ℕ → State → Pause
step_paused w t v n s = pauses w t v (moves_left s) n s

abbrev pub stop_of : (ℕ → Mark) → Pause → Stop
stop_of v p = record { live = helds v p.state.stack; passed = p.passed; due = p.due }

-- what is left there: a return whose probe has told is still to be attempted
abbrev pub later_of : Due → Todo
later_of (Ends kind.Leave) = Attempt
later_of _ = Moves

-- the next move takes the current frame off
pub record Unwinds (w : World) (t : Listing) (s : State) : Type 0 where
  pub after : State
  pub next : move w t s ≡ Some (record { after = after; changes = Unwound ∷ [] })

-- The pause of a state's moves, n changes behind the begin of the step: the changes up to there are silent but for the
-- last, what is left is the moves of its state, and where nothing is told none is left.
pub record IsPaused (w : World) (t : Listing) (v : ℕ → Mark) (n : ℕ) (s : State) (p : Pause) : Type 0 where
  pub changes : List Change
  pub part : IsPart w t Moves s changes Moves p.state
  pub count : p.passed ≡ passed_by n changes
  pub stops : stop_in (mark_now v t) n (helds v s.stack) (rest w t Moves s).changes ≡ stop_of v p
  pub ends : p.due ≡ Nothing → move w t p.state ≡ None
  pub unwinds : is_end p.due ≡ true → Unwinds w t p.state
  pub later : later_of p.due ≡ Moves

-- ---- where a step goes on

-- behind the end of which a probe has told, which is the next change
abbrev pub stop_from : (ℕ → Mark) → Bool → ℕ → List Held → List Change → Stop
stop_from marks false n live changes = stop_in marks n live changes
stop_from marks true n live [] = stop_in marks n live []
stop_from marks true n live (c ∷ more) = stop_in marks (suc n) (held_after marks live c) more

-- what is told there, in a step
abbrev pub begin_kind : Mark → EventKind
begin_kind Root = kind.Root
begin_kind Plain = kind.Enter
begin_kind Off = kind.Enter

abbrev pub told_at : Due → ℕ → List Held → Option Event
told_at Nothing step live = None
told_at (Ends k) step [] = None
told_at (Ends k) step (h ∷ more) = Some (record { kind = k; method = h.method; clock = step })
told_at Begins step [] = None
told_at Begins step (h ∷ more) = Some (record { kind = begin_kind h.mark; method = h.method; clock = step })

-- the events that are still to be told of these changes
abbrev pub told_from : (ℕ → Mark) → ℕ → Bool → List Held → List Change → List Event
told_from marks step false live changes = changes_told marks step live changes
told_from marks step true live [] = []
told_from marks step true live (c ∷ more) = changes_told marks step (held_after marks live c) more

-- What is told up to a stop: it, and no more.
pub record IsStop (marks : ℕ → Mark) (step n : ℕ) (delivered : Bool) (live : List Held) (changes : List Change) (s : Stop) : Type 0 where
  pub passed : List Change
  pub more : List Change
  pub all : changes ≡ passed ++ more
  pub count : s.passed ≡ passed_by n passed
  pub tells : told_from marks step delivered live changes ≡ option_map_or (λ e. e ∷ told_from marks step (is_end s.due) s.live more) (told_at s.due step s.live) []
  pub lives : all_held marks s.live more ≡ all_held marks live changes
  pub ends : s.due ≡ Nothing → more ≡ []
