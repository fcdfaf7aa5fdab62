-- Where a step stops that begins with an attempt, by what the attempt has come to.
use Rattle.std.proofs.Common.{◌≡◌, ℕ, Bool, true, false, List, [], ◌∷◌, Some, None, ◌==◌, ◌&&◌, if◌then◌else◌, sym, ap, ◌∙◌}
use Rattle.jvm_model.specs.declared.event.EventKind.TheVariants as kind
use Rattle.jvm_model.specs.declared.event.Mark.{Mark}
use Rattle.jvm_model.specs.declared.due.Due.{Due}
use Rattle.jvm_model.specs.declared.due.Due.TheVariants.{Nothing, Ends, Begins}
use Rattle.jvm_model.specs.declared.state.Entry.{Entry}
use Rattle.jvm_model.specs.declared.state.Entry.TheVariants.{Active}
use Rattle.jvm_model.specs.declared.state.Frame.{Frame}
use Rattle.jvm_model.specs.declared.state.State.{State}
use Rattle.jvm_model.specs.Basis.Data.{Change, Turn, Instruction, Outcome, Listing, World}
use Rattle.jvm_model.specs.Running.Applies.{breaks, still, live_in}
use Rattle.jvm_model.specs.Instructions.Does.{does}
use Rattle.jvm_model.specs.Running.Moves.{turn_settled}
use Rattle.jvm_model.specs.Running.Run.{starts, is_ready, is_going_on}
use Rattle.jvm_model.specs.Basis.SharedState.{phase_of}
use Rattle.jvm_model.specs.Turns.Told.{Held, frame_held, helds, mark_now}
use Rattle.jvm_model.specs.Turns.Pauses.{Pause, changes_due, passed_by, step_paused}
use Rattle.jvm_model.specs.Turns.StepPauses.{again_pause, instruction_attempted, frame_pause, is_nothing, leave_due, line_pause, pause_behind, stack_pause, step_pause, turn_pause}
use Rattle.jvm_model.proofs.Turns.Pausing.{paused-is}
use Rattle.jvm_model.proofs.Turns.Rests.{nothing-left}
use Rattle.jvm_model.specs.Running.Between.{changes_between, attempt_followed}
use Rattle.jvm_model.proofs.Running.ChangesBetween.{attempted-pause}

-- ---- where nothing is due behind it

-- all moves were made
pub settled-there : (w : World) (t : Listing) (v : ℕ → Mark) (n : ℕ) (changes : List Change) (s : State)
    → (attempt_followed w t v n changes s).due ≡ Nothing → (attempt_followed w t v n changes s).state ≡ (turn_settled w t (still s)).after
settled-there w t v n changes s nothing = by (changes_due (mark_now v t) [] changes) nothing where
  later : Pause
  later = step_paused w t v (passed_by n changes) s

  all : later.due ≡ Nothing → later.state ≡ (turn_settled w t (still s)).after
  all e =
      let is = paused-is w t v (passed_by n changes) s in
      sym (is.part.same ∙ ap (λ (a : Turn). a.after) (nothing-left w t later.state (is.ends e)))

  by : (d : Due) → (pause_behind d (record { state = s; passed = passed_by n changes; due = Begins }) later).due ≡ Nothing
      → (pause_behind d (record { state = s; passed = passed_by n changes; due = Begins }) later).state ≡ (turn_settled w t (still s)).after
  by Begins e = absurd (let h : Begins ≡ Nothing = e in cc)
  by Nothing e = all e
  by (Ends k) e = all e

-- the instruction is attempted again
abbrev pub goes_twice : ℕ → ℕ → Pause → Bool
goes_twice n c p = is_nothing p.due && p.passed == n && is_ready (phase_of p.state.shared c) && is_going_on p.state.ending p.state.thrown

module _ (w : World) (t : Listing) (v : ℕ → Mark) (told : Bool) (n : ℕ) (s : State) (f : Frame) (below : List Entry)
    (going : s.ending ≡ None) (top : s.stack ≡ Active f ∷ below) where
  -- without the current frame
  abbrev pub under : State
  under = record s { stack = below }

  pause-at : step_pause w t v told n s ≡ frame_pause w t v told n under f (t.at f.version f.place)
  pause-at = ap (λ e. stack_pause w t v told n s e s.stack) going ∙ ap (stack_pause w t v told n s None) top

  -- there is no line
  pub breaks-pause : t.at f.version f.place ≡ None → step_pause w t v told n s ≡ record { state = breaks under f 0; passed = n; due = Nothing }
  breaks-pause none = pause-at ∙ ap (frame_pause w t v told n under f) none

  module _ (i : Instruction) (at : t.at f.version f.place ≡ Some i) where
    line-at : step_pause w t v told n s ≡ line_pause w t v told n under f i
    line-at = pause-at ∙ ap (frame_pause w t v told n under f) at

    abbrev outcome : Outcome
    outcome = (does w i.operation under.shared f.locals f.operands).outcome

    abbrev live : List Held
    live = frame_held v f ∷ helds v below

    -- the leave probe tells first
    pub leaves : leave_due told (v f.version) i.operation ≡ true → step_pause w t v told n s ≡ record { state = s; passed = n; due = Ends kind.Leave }
    leaves due =
        line-at
        ∙ (ap (λ b. if b then record { state = record under { stack = Active f ∷ below }; passed = n; due = Ends kind.Leave }
        else again_pause w t v n live i under f (starts outcome) (turn_pause w t v n live (instruction_attempted w t i under f))) due
        ∙ ap (λ (stack : List Entry). record { state = record s { stack = stack }; passed = n; due = Ends kind.Leave }) (sym top))

    -- the state behind it
    abbrev pub mid : State
    mid = (instruction_attempted w t i under f).after

    abbrev pub first : Pause
    first = attempt_followed w t v n (changes_between (live_in s.stack) mid.stack) mid

    module _ (none_due : leave_due told (v f.version) i.operation ≡ false) where
      goes-pause : step_pause w t v told n s ≡ again_pause w t v n live i under f (starts outcome) first
      goes-pause =
          line-at
          ∙ (ap (λ b. if b then record { state = record under { stack = Active f ∷ below }; passed = n; due = Ends kind.Leave }
          else again_pause w t v n live i under f (starts outcome) (turn_pause w t v n live (instruction_attempted w t i under f))) none_due
          ∙ ap (again_pause w t v n live i under f (starts outcome))
          (attempted-pause w t v n live i under f ∙ ap (λ (stack : List Entry). attempt_followed w t v n (changes_between (live_in stack) mid.stack) mid) (sym top)))

      pub goes-once : starts outcome ≡ None → step_pause w t v told n s ≡ first
      goes-once none = goes-pause ∙ ap (λ o. again_pause w t v n live i under f o first) none

      module _ (c : ℕ) (awaits : starts outcome ≡ Some c) where
        chosen : Bool → Pause
        chosen b = if b then turn_pause w t v n live (instruction_attempted w t i (record first.state { stack = below }) f) else first

        by-test : (b : Bool) → goes_twice n c first ≡ b → step_pause w t v told n s ≡ chosen b
        unfolding chosen
        by-test b is = goes-pause ∙ (ap (λ o. again_pause w t v n live i under f o first) awaits ∙ ap chosen is)

        pub stays-once : goes_twice n c first ≡ false → step_pause w t v told n s ≡ first
        unfolding chosen
        stays-once is = by-test false is

        -- the state behind the second attempt
        abbrev pub mid_again : State
        mid_again = (instruction_attempted w t i (record first.state { stack = below }) f).after

        pub goes-again : goes_twice n c first ≡ true → step_pause w t v told n s ≡ attempt_followed w t v n (changes_between (live_in s.stack) mid_again.stack) mid_again
        unfolding chosen
        goes-again is =
            by-test true is
            ∙ (attempted-pause w t v n live i (record first.state { stack = below }) f
            ∙ ap (λ (stack : List Entry). attempt_followed w t v n (changes_between (live_in stack) mid_again.stack) mid_again) (sym top))
