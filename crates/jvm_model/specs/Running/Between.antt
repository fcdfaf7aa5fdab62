-- What an attempt has changed, by how many activations are live before and behind it.
use Rattle.std.specs.Prelude.{ℕ, Bool, true, false, List, [], ◌∷◌, nat_lt}
use Rattle.jvm_model.specs.declared.event.Mark.{Mark}
use Rattle.jvm_model.specs.declared.state.Entry.{Entry}
use Rattle.jvm_model.specs.declared.state.Entry.TheVariants.{Active, Initializing}
use Rattle.jvm_model.specs.declared.state.State.{State}
use Rattle.jvm_model.specs.declared.due.Due.TheVariants.{Begins}
use Rattle.jvm_model.specs.Basis.Data.{Change, Began, Left, Listing, World}
use Rattle.jvm_model.specs.Running.Applies.{live_in}
use Rattle.jvm_model.specs.Turns.Told.{mark_now}
use Rattle.jvm_model.specs.Turns.Pauses.{Pause, changes_due, passed_by, step_paused}
use Rattle.jvm_model.specs.Turns.StepPauses.{pause_behind}

-- the method of the current activation
abbrev pub top_method : List Entry → ℕ
top_method [] = 0
top_method (Active f ∷ below) = f.method
top_method (Initializing c part ∷ below) = top_method below

abbrev pub depths_compared : Bool → Bool → ℕ → List Change
depths_compared true more m = Left ∷ []
depths_compared false true m = Began m ∷ []
depths_compared false false m = []

-- so many activations were live before
abbrev pub changes_between : ℕ → List Entry → List Change
changes_between n stack = depths_compared (nat_lt (live_in stack) n) (nat_lt n (live_in stack)) (top_method stack)

-- the pause behind an attempt
abbrev pub attempt_followed : World → Listing → (ℕ → Mark) → ℕ → List Change → State → Pause
attempt_followed w t v n changes s =
    pause_behind (changes_due (mark_now v t) [] changes) (record { state = s; passed = passed_by n changes; due = Begins })
    (step_paused w t v (passed_by n changes) s)
