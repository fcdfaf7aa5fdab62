-- A pause of a state elsewhere is the pause of the state, elsewhere, where the places' versions have the same marks;
-- and it stands at places.
use Rattle.std.proofs.Common.{◌≡◌, ℕ, zero, suc, Bool, true, false, List, [], ◌∷◌, ◌++◌, Option, Some, None, ◌==◌, ◌&&◌, if◌then◌else◌, refl, sym, ap, ap₂, ◌∙◌}
use Rattle.std.specs.Option.{option_map, option_map_or}
use Rattle.std.proofs.lemmas.Option.{same_Some}
use Rattle.jvm_model.specs.declared.event.EventKind.TheVariants as kind
use Rattle.jvm_model.specs.declared.event.Mark.{Mark}
use Rattle.jvm_model.specs.Basis.Data.{Frame, Entry, Active, Initializing, Ending, State, Change, Loads, Began, Left, Unwound, Turn, Instruction, Done, Listing, World}
use Rattle.jvm_model.specs.Basis.SharedState.{phase_of}
use Rattle.jvm_model.specs.Instructions.Does.{does}
use Rattle.jvm_model.specs.Running.Applies.{applies}
use Rattle.jvm_model.specs.Running.Moves.{move, moves_left}
use Rattle.jvm_model.specs.Running.Run.{starts, is_ready, is_going_on}
use Rattle.jvm_model.specs.Codes.Moved.{Moving, moved_frame, moved_stack, state_moved, moved_turn, moved_instruction, IsPlace, IsMovedListing, at_homes, IsPlaced}
use Rattle.jvm_model.specs.Turns.Told.{Held, frame_held, helds, mark_now}
use Rattle.jvm_model.specs.Turns.Pauses.{Due, Nothing, Ends, Begins, unless_off, changes_due, Pause, pause_by, pauses, step_paused, passed_by}
use Rattle.jvm_model.specs.Turns.StepPauses.{instruction_attempted, pause_behind, turn_pause, is_nothing, again_pause, leave_due, line_pause, frame_pause, stack_pause, step_pause}
use Rattle.jvm_model.proofs.Running.Operations.{does-moves}
use Rattle.jvm_model.proofs.Relocated.AppliesMoves.{applies-moves}
use Rattle.jvm_model.proofs.Relocated.MovesMove.{move-moves, left-moves}
use Rattle.jvm_model.proofs.Relocated.StepMoves.{placed-places, placed-state, next-placed, applied-placed, done-placed, starts-moves, IsReadyAt, tail_of, top_place, top_frame}

abbrev pub moved_pause : Moving → Pause → Pause
moved_pause m p = record p { state = state_moved m p.state }

module _ (norm : ℕ → ℕ → ℕ) (w : World) (t : Listing) (own : IsMovedListing norm (at_homes norm) t t) (v : ℕ → Mark) where
  module _ (m : Moving) (u : Listing) (agrees : IsMovedListing norm m t u) (keeps : (version : ℕ) → v (m.version version) ≡ v version) where
    pub held-moves : (stack : List Entry) → helds v (moved_stack m stack) ≡ helds v stack
    held-moves [] = refl
    held-moves (Active f ∷ below) = ap₂ (λ mark live. record { method = f.method; mark = mark } ∷ live) (keeps f.version) (held-moves below)
    held-moves (Initializing c part ∷ below) = held-moves below

    due-moves : (live : List Held) (changes : List Change) → changes_due (mark_now v u) live changes ≡ changes_due (mark_now v t) live changes
    due-moves live [] = refl
    due-moves live (Loads classes ∷ more) = refl
    due-moves live (Began k ∷ more) = ap (λ mark. unless_off mark Begins) (ap v (agrees.current k) ∙ keeps (t.current k))
    due-moves live (Left ∷ more) = refl
    due-moves live (Unwound ∷ more) = refl

    by-moves : (s after : State) (n : ℕ) (changes : List Change) (d : Due) (later : Pause)
        → pause_by (state_moved m s) (state_moved m after) n changes d (moved_pause m later) ≡ moved_pause m (pause_by s after n changes d later)
    by-moves s after n changes Nothing later = refl
    by-moves s after n changes (Ends k) later = refl
    by-moves s after n changes Begins later = refl

    on-moves : (k n : ℕ) (s : State) → ((next : Turn) → IsPlaced norm next.after → pauses w u v k (passed_by n next.changes) (state_moved m next.after) ≡ moved_pause m (pauses w t v k (passed_by n next.changes) next.after))
        → (found : Option Turn) → ((next : Turn) → found ≡ Some next → IsPlaced norm next.after)
        → option_map_or (λ (next : Turn). pause_by (state_moved m s) next.after n next.changes (changes_due (mark_now v u) (helds v (moved_stack m s.stack)) next.changes)
        (pauses w u v k (passed_by n next.changes) next.after)) (option_map (moved_turn m) found) (record { state = state_moved m s; passed = n; due = Nothing })
        ≡ moved_pause m (option_map_or (λ (next : Turn). pause_by s next.after n next.changes (changes_due (mark_now v t) (helds v s.stack) next.changes)
        (pauses w t v k (passed_by n next.changes) next.after)) found (record { state = s; passed = n; due = Nothing }))
    on-moves k n s later None placed = refl
    on-moves k n s later (Some next) placed =
        let by : Due → Pause → Pause = pause_by (state_moved m s) (state_moved m next.after) n next.changes in
        let d : Due = changes_due (mark_now v t) (helds v s.stack) next.changes in
        ap (λ d. by d (pauses w u v k (passed_by n next.changes) (state_moved m next.after))) (ap (λ live. changes_due (mark_now v u) live next.changes) (held-moves s.stack) ∙ due-moves (helds v s.stack) next.changes)
        ∙ (ap (by d) (later next (placed next refl))
        ∙ by-moves s next.after n next.changes d (pauses w t v k (passed_by n next.changes) next.after))

    pauses-moves : (k n : ℕ) (s : State) → IsPlaced norm s → pauses w u v k n (state_moved m s) ≡ moved_pause m (pauses w t v k n s)
    pauses-moves zero n s placed = refl
    pauses-moves (suc k) n s placed =
        ap (λ found. option_map_or (λ (next : Turn). pause_by (state_moved m s) next.after n next.changes (changes_due (mark_now v u) (helds v (moved_stack m s.stack)) next.changes)
        (pauses w u v k (passed_by n next.changes) next.after)) found (record { state = state_moved m s; passed = n; due = Nothing }))
        (move-moves w m norm t u agrees s (placed-places norm s.stack placed))
        ∙ on-moves k n s (λ next there. pauses-moves k (passed_by n next.changes) next.after there) (move w t s) (λ next e. next-placed norm w t own s next placed e)

    pub paused-moves : (n : ℕ) (s : State) → IsPlaced norm s → step_paused w u v n (state_moved m s) ≡ moved_pause m (step_paused w t v n s)
    paused-moves n s placed = ap (λ k. pauses w u v k n (state_moved m s)) (left-moves m s) ∙ pauses-moves (moves_left s) n s placed

    -- ---- behind an attempt

    attempted-moves : (i : Instruction) (s : State) (f : Frame) → IsPlaced norm s → instruction_attempted w u (moved_instruction (m.home f.version) i) (state_moved m s) (moved_frame m f) ≡ moved_turn m (instruction_attempted w t i s f)
    attempted-moves i s f placed =
        let h : ℕ → ℕ = m.home f.version in
        let d : Done = does w i.operation s.shared f.locals f.operands in
        let after : Done → State = λ (d : Done). record s { shared = d.shared; output = s.output ++ d.wrote } in
        ap (λ (d : Done). applies w u (moved_instruction h i) d.outcome (state_moved m (after d)) (moved_frame m f)) (does-moves h w i.operation s.shared f.locals f.operands)
        ∙ applies-moves w m norm t u agrees i d.outcome (after d) f (placed-places norm s.stack placed)

    attempted-placed : (i : Instruction) (s : State) (f : Frame) → IsReadyAt norm i s f → IsPlaced norm (instruction_attempted w t i s f).after
    attempted-placed i s f at =
        let d : Done = does w i.operation s.shared f.locals f.operands in
        let after : State = record s { shared = d.shared; output = s.output ++ d.wrote } in
        applied-placed norm w t own i after f (record { below = at.below; frame = at.frame; instruction = at.instruction }) d.outcome
        (ap (λ (x : Done). x.outcome) (done-placed (norm f.version) w i.operation s.shared f.locals f.operands (ap (λ (g : Frame). g.locals) at.frame) (ap (λ (g : Frame). g.operands) at.frame)))

    behind-moves : (d : Due) (begun later : Pause) → pause_behind d (moved_pause m begun) (moved_pause m later) ≡ moved_pause m (pause_behind d begun later)
    behind-moves Nothing begun later = refl
    behind-moves (Ends k) begun later = refl
    behind-moves Begins begun later = refl

    turn-moves : (n : ℕ) (live : List Held) (a : Turn) → IsPlaced norm a.after → turn_pause w u v n live (moved_turn m a) ≡ moved_pause m (turn_pause w t v n live a)
    turn-moves n live a placed =
        let begun : Pause = record { state = a.after; passed = passed_by n a.changes; due = Begins } in
        let later : Pause = step_paused w t v (passed_by n a.changes) a.after in
        ap₂ (λ d x. pause_behind d (moved_pause m begun) x) (due-moves live a.changes) (paused-moves (passed_by n a.changes) a.after placed)
        ∙ behind-moves (changes_due (mark_now v t) live a.changes) begun later

    chosen-moves : (b : Bool) (p q p' q' : Pause) → p' ≡ moved_pause m p → q' ≡ moved_pause m q → (if b then p' else q') ≡ moved_pause m (if b then p else q)
    chosen-moves true p q p' q' e f = e
    chosen-moves false p q p' q' e f = f

    again-moves : (n : ℕ) (live : List Held) (i : Instruction) (s : State) (f : Frame) → IsReadyAt norm i s f → (c : Option ℕ) (p : Pause)
        → again_pause w u v n live (moved_instruction (m.home f.version) i) (state_moved m s) (moved_frame m f) c (moved_pause m p) ≡ moved_pause m (again_pause w t v n live i s f c p)
    again-moves n live i s f at None p = refl
    again-moves n live i s f at (Some c) p =
        let s' : State = record p.state { stack = s.stack } in
        let a : Turn = instruction_attempted w t i s' f in
        let ready : IsReadyAt norm i s' f = record { below = at.below; frame = at.frame; instruction = at.instruction } in
        chosen-moves (is_nothing p.due && p.passed == n && is_ready (phase_of p.state.shared c) && is_going_on p.state.ending p.state.thrown)
        (turn_pause w t v n live a) p _ (moved_pause m p)
        (ap (turn_pause w u v n live) (attempted-moves i s' f at.below) ∙ turn-moves n live a (attempted-placed i s' f ready)) refl

    line-moves : (told : Bool) (n : ℕ) (i : Instruction) (s : State) (f : Frame) → IsReadyAt norm i s f
        → line_pause w u v told n (state_moved m s) (moved_frame m f) (moved_instruction (m.home f.version) i) ≡ moved_pause m (line_pause w t v told n s f i)
    line-moves told n i s f at =
        let j : Instruction = moved_instruction (m.home f.version) i in
        let d : Done = does w i.operation s.shared f.locals f.operands in
        let live : List Held = frame_held v f ∷ helds v s.stack in
        let first : Pause = record { state = record s { stack = Active f ∷ s.stack }; passed = n; due = Ends kind.Leave } in
        let stopped : Mark → Pause → Pause = λ mark rest. if leave_due told mark i.operation then moved_pause m first else rest in
        let again : List Held → Option ℕ → Pause → Pause = λ live c p. again_pause w u v n live j (state_moved m s) (moved_frame m f) c p in
        let dm : Done = does w i.operation s.shared (moved_frame m f).locals (moved_frame m f).operands in
        let a : Turn = instruction_attempted w t i s f in
        ap (λ mark. stopped mark (again (record { method = f.method; mark = mark } ∷ helds v (moved_stack m s.stack)) (starts dm.outcome) (turn_pause w u v n (record { method = f.method; mark = mark } ∷ helds v (moved_stack m s.stack)) (instruction_attempted w u j (state_moved m s) (moved_frame m f))))) (keeps f.version)
        ∙ (ap (λ below. stopped (v f.version) (again (frame_held v f ∷ below) (starts dm.outcome) (turn_pause w u v n (frame_held v f ∷ below) (instruction_attempted w u j (state_moved m s) (moved_frame m f))))) (held-moves s.stack)
        ∙ (ap (λ c. stopped (v f.version) (again live c (turn_pause w u v n live (instruction_attempted w u j (state_moved m s) (moved_frame m f)))))
        (ap (λ (x : Done). starts x.outcome) (does-moves (m.home f.version) w i.operation s.shared f.locals f.operands) ∙ starts-moves norm w t own m u agrees (m.home f.version) d.outcome)
        ∙ (ap (λ p. stopped (v f.version) (again live (starts d.outcome) p))
        (ap (turn_pause w u v n live) (attempted-moves i s f at.below) ∙ turn-moves n live a (attempted-placed i s f at))
        ∙ (ap (stopped (v f.version)) (again-moves n live i s f at (starts d.outcome) (turn_pause w t v n live a))
        ∙ chosen-moves (leave_due told (v f.version) i.operation) first (again_pause w t v n live i s f (starts d.outcome) (turn_pause w t v n live a)) (moved_pause m first) _ refl refl))))

    frame-moves : (told : Bool) (n : ℕ) (s : State) (f : Frame) → IsPlaced norm s → moved_frame (at_homes norm) f ≡ f → (i : Option Instruction) → option_map (moved_instruction (norm f.version)) i ≡ i
        → frame_pause w u v told n (state_moved m s) (moved_frame m f) (option_map (moved_instruction (m.home f.version)) i) ≡ moved_pause m (frame_pause w t v told n s f i)
    frame-moves told n s f below frame None fixed = refl
    frame-moves told n s f below frame (Some i) fixed = line-moves told n i s f (record { below = below; frame = frame; instruction = same_Some _ _ fixed })

    stack-moves : (told : Bool) (n : ℕ) (s : State) (ending : Option Ending) (stack : List Entry) → moved_stack (at_homes norm) stack ≡ stack
        → stack_pause w u v told n (state_moved m s) ending (moved_stack m stack) ≡ moved_pause m (stack_pause w t v told n s ending stack)
    stack-moves told n s None (Active f ∷ below) placed =
        let here : IsPlace norm f.version f.place = ap (top_place 0) placed in
        let fixed : option_map (moved_instruction (norm f.version)) (t.at f.version f.place) ≡ t.at f.version f.place =
        sym (own.lines f.version f.place here) ∙ ap (t.at f.version) here in
        ap (frame_pause w u v told n (state_moved m (record s { stack = below })) (moved_frame m f)) (agrees.lines f.version f.place here)
        ∙ frame-moves told n (record s { stack = below }) f (ap tail_of placed) (ap (top_frame f) placed) (t.at f.version f.place) fixed
    stack-moves told n s None [] placed = refl
    stack-moves told n s None (Initializing c part ∷ below) placed = refl
    stack-moves told n s (Some e) stack placed = refl

    pub step_pause-moves : (told : Bool) (n : ℕ) (s : State) → IsPlaced norm s → step_pause w u v told n (state_moved m s) ≡ moved_pause m (step_pause w t v told n s)
    step_pause-moves told n s placed = stack-moves told n s s.ending s.stack placed

  -- ---- where it stands

  pub paused-placed : (n : ℕ) (s : State) → IsPlaced norm s → IsPlaced norm (step_paused w t v n s).state
  paused-placed n s placed =
      ap (λ (p : Pause). p.state.stack) (sym (paused-moves (at_homes norm) t own (λ version. refl) n s placed) ∙ ap (step_paused w t v n) (placed-state norm s placed))

  pub step_pause-placed : (told : Bool) (n : ℕ) (s : State) → IsPlaced norm s → IsPlaced norm (step_pause w t v told n s).state
  step_pause-placed told n s placed =
      ap (λ (p : Pause). p.state.stack) (sym (step_pause-moves (at_homes norm) t own (λ version. refl) told n s placed) ∙ ap (step_pause w t v told n) (placed-state norm s placed))
