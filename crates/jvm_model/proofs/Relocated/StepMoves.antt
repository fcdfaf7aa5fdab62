-- A step of a state elsewhere is the step of the state, elsewhere; and where frames and return addresses stand at
-- places, they do so after the step, since then the state is its own image under `norm`.
use Rattle.std.proofs.Common.{◌≡◌, ℕ, zero, suc, Bool, true, false, List, [], ◌∷◌, ◌++◌, Option, Some, None, ◌&&◌, refl, sym, ap, subst, ◌∙◌}
use Rattle.std.specs.Option.{option_map, option_map_or}
use Rattle.std.proofs.lemmas.Option.{same_Some}
use Rattle.jvm_model.specs.Basis.Data.{Locals, Operands, Frame, Entry, Active, Initializing, Shared, Ending, State, Turn, Local, Operation, Instruction, Listing, Outcome, Initializes, Done, World}
use Rattle.jvm_model.specs.Basis.SharedState.{arguments_fit, phase_of}
use Rattle.jvm_model.specs.Instructions.Does.{does, loads}
use Rattle.jvm_model.specs.Classes.Load.{Fault}
use Rattle.jvm_model.specs.Running.Applies.{still, applies}
use Rattle.jvm_model.specs.Running.Moves.{move, moves_left, then_turn, settles, turn_settled}
use Rattle.jvm_model.specs.Running.Run.{tries, attempt, starts, is_ready, has_no_changes, is_going_on, goes_again, steps_by, with_classes_loaded, loaded_turn, steps_at, steps_on, step, before, arguments_made, main_loading, main_classes, main_loads, starts_unless, run_opened, starts_if, starts_with, start, turn_in, turn_in-zero, turn_in-suc}
use Rattle.jvm_model.specs.Codes.Moved.{Moving, moved_locals, moved_operands, moved_outcome, moved_done, moved_frame, moved_stack, state_moved, moved_turn, moved_instruction, IsPlace, ArePlaces, IsMovedListing, at_homes, IsPlaced}
use Rattle.jvm_model.proofs.Running.Operations.{does-moves, loads-moves}
use Rattle.jvm_model.proofs.Relocated.AppliesMoves.{applies-moves, chosen_turn-moves}
use Rattle.jvm_model.proofs.Relocated.MovesMove.{move-moves, left-moves}

-- ---- placed states

abbrev pub tail_of : List Entry → List Entry
tail_of [] = []
tail_of (e ∷ below) = below

abbrev pub top_place : ℕ → List Entry → ℕ
top_place d (Active f ∷ below) = f.place
top_place d _ = d

abbrev pub top_frame : Frame → List Entry → Frame
top_frame d (Active f ∷ below) = f
top_frame d _ = d

module _ (norm : ℕ → ℕ → ℕ) where
  pub placed-state : (s : State) → IsPlaced norm s → state_moved (at_homes norm) s ≡ s
  placed-state s e = ap (λ stack. record s { stack = stack }) e

  pub placed-places : (stack : List Entry) → moved_stack (at_homes norm) stack ≡ stack → ArePlaces norm stack
  placed-places [] e = tt
  placed-places (Active f ∷ below) e = (ap (top_place 0) e, placed-places below (ap tail_of e))
  placed-places (Initializing c part ∷ below) e = placed-places below (ap tail_of e)

  loaded-placed : (classes : List ℕ) (s : State) → IsPlaced norm s → IsPlaced norm (with_classes_loaded classes s)
  loaded-placed [] s e = e
  loaded-placed (c ∷ more) s e = e

  -- What an attempt needs: the frame, those below it, and the instruction are placed.
  pub record IsReadyAt (i : Instruction) (s : State) (f : Frame) : Type 0 where
    pub below : IsPlaced norm s
    pub frame : moved_frame (at_homes norm) f ≡ f
    pub instruction : moved_instruction (norm f.version) i ≡ i

-- ---- what becomes of a placed state

-- the outcome of a placed frame has places alone
pub done-placed : (h : ℕ → ℕ) (w : World) (op : Operation Local) (s : Shared) (l : Locals) (o : Operands) → moved_locals h l ≡ l → moved_operands h o ≡ o → moved_done h (does w op s l o) ≡ does w op s l o
done-placed h w op s l o ls os = sym (does-moves h w op s l o) ∙ (ap (λ x. does w op s x (moved_operands h o)) ls ∙ ap (does w op s l) os)

module _ (norm : ℕ → ℕ → ℕ) (w : World) (t : Listing) (own : IsMovedListing norm (at_homes norm) t t) where
  -- what a move of a placed state gives is placed
  pub next-placed : (s : State) (next : Turn) → IsPlaced norm s → move w t s ≡ Some next → IsPlaced norm next.after
  next-placed s next placed e =
      let law : move w t (state_moved (at_homes norm) s) ≡ option_map (moved_turn (at_homes norm)) (move w t s) = move-moves w (at_homes norm) norm t t own s (placed-places norm s.stack placed) in
      let same : Some next ≡ Some (moved_turn (at_homes norm) next) =
      sym e ∙ (ap (move w t) (sym (placed-state norm s placed)) ∙ (law ∙ ap (option_map (moved_turn (at_homes norm))) e)) in
      sym (ap (λ (a : Turn). a.after.stack) (same_Some next (moved_turn (at_homes norm) next) same))

  pub applied-placed : (i : Instruction) (s : State) (f : Frame) → IsReadyAt norm i s f → (outcome : Outcome) → moved_outcome (norm f.version) outcome ≡ outcome
      → IsPlaced norm (applies w t i outcome s f).after
  applied-placed i s f at outcome fixed =
      let there : Turn = applies w t (moved_instruction (norm f.version) i) (moved_outcome (norm f.version) outcome) (state_moved (at_homes norm) s) (moved_frame (at_homes norm) f) in
      let law : there ≡ moved_turn (at_homes norm) (applies w t i outcome s f) = applies-moves w (at_homes norm) norm t t own i outcome s f (placed-places norm s.stack at.below) in
      let here : there ≡ applies w t i outcome s f =
      ap (λ k. applies w t k (moved_outcome (norm f.version) outcome) (state_moved (at_homes norm) s) (moved_frame (at_homes norm) f)) at.instruction
      ∙ (ap (λ k. applies w t i k (state_moved (at_homes norm) s) (moved_frame (at_homes norm) f)) fixed
      ∙ (ap (λ k. applies w t i outcome k (moved_frame (at_homes norm) f)) (placed-state norm s at.below)
      ∙ ap (applies w t i outcome s) at.frame)) in
      ap (λ (a : Turn). a.after.stack) (sym law ∙ here)

  module _ (m : Moving) (u : Listing) (agrees : IsMovedListing norm m t u) where
    -- ---- the moves

    settles_on-moves : (n : ℕ) → ((a : Turn) → IsPlaced norm a.after → settles w u n (moved_turn m a) ≡ moved_turn m (settles w t n a))
        → (a : Turn) (found : Option Turn) → ((next : Turn) → found ≡ Some next → IsPlaced norm next.after)
        → option_map_or (λ next. settles w u n (then_turn (moved_turn m a) next)) (option_map (moved_turn m) found) (moved_turn m a)
        ≡ moved_turn m (option_map_or (λ next. settles w t n (then_turn a next)) found a)
    settles_on-moves n before a None placed = refl
    settles_on-moves n before a (Some next) placed = before (then_turn a next) (placed next refl)

    settles-moves : (n : ℕ) (a : Turn) → IsPlaced norm a.after → settles w u n (moved_turn m a) ≡ moved_turn m (settles w t n a)
    settles-moves zero a placed = refl
    settles-moves (suc n) a placed =
        ap (λ found. option_map_or (λ next. settles w u n (then_turn (moved_turn m a) next)) found (moved_turn m a))
        (move-moves w m norm t u agrees a.after (placed-places norm a.after.stack placed))
        ∙ settles_on-moves n (settles-moves n) a (move w t a.after) (λ next e. next-placed a.after next placed e)

    pub settled-moves : (a : Turn) → IsPlaced norm a.after → turn_settled w u (moved_turn m a) ≡ moved_turn m (turn_settled w t a)
    settled-moves a placed = ap (λ n. settles w u n (moved_turn m a)) (left-moves m a.after) ∙ settles-moves (moves_left a.after) a placed

    -- ---- an attempt

    attempt-moves : (i : Instruction) (s : State) (f : Frame) → IsReadyAt norm i s f
        → attempt w u (moved_instruction (m.home f.version) i) (state_moved m s) (moved_frame m f) ≡ moved_turn m (attempt w t i s f)
    attempt-moves i s f at =
        let h : ℕ → ℕ = m.home f.version in
        let d : Done = does w i.operation s.shared f.locals f.operands in
        let after : State = record s { shared = d.shared; output = s.output ++ d.wrote } in
        let fixed : moved_done (norm f.version) d ≡ d =
        done-placed (norm f.version) w i.operation s.shared f.locals f.operands (ap (λ (g : Frame). g.locals) at.frame) (ap (λ (g : Frame). g.operands) at.frame) in
        let placed : IsPlaced norm (applies w t i d.outcome after f).after =
        applied-placed i after f (record { below = at.below; frame = at.frame; instruction = at.instruction }) d.outcome (ap (λ (x : Done). x.outcome) fixed) in
        ap (tries w u (moved_instruction h i) (state_moved m s) (moved_frame m f)) (does-moves h w i.operation s.shared f.locals f.operands)
        ∙ (ap (turn_settled w u) (applies-moves w m norm t u agrees i d.outcome after f (placed-places norm s.stack at.below))
        ∙ settled-moves (applies w t i d.outcome after f) placed)

    pub starts-moves : (h : ℕ → ℕ) (outcome : Outcome) → starts (moved_outcome h outcome) ≡ starts outcome
    starts-moves h (Initializes c) = refl
    starts-moves h _ = refl

    again-moves : (i : Instruction) (s : State) (f : Frame) → IsReadyAt norm i s f → (c : Option ℕ) (a : Turn)
        → goes_again w u (moved_instruction (m.home f.version) i) (state_moved m s) (moved_frame m f) c (moved_turn m a) ≡ moved_turn m (goes_again w t i s f c a)
    again-moves i s f at None a = refl
    again-moves i s f at (Some c) a =
        let s' : State = record a.after { stack = s.stack } in
        chosen_turn-moves w m (has_no_changes a.changes && is_ready (phase_of a.after.shared c) && is_going_on a.after.ending a.after.thrown) (then_turn a (attempt w t i s' f)) _ a _
        (ap (then_turn (moved_turn m a)) (attempt-moves i s' f (record { below = at.below; frame = at.frame; instruction = at.instruction })))
        refl

    steps_by-moves : (i : Instruction) (s : State) (f : Frame) → IsReadyAt norm i s f
        → steps_by w u (moved_instruction (m.home f.version) i) (state_moved m s) (moved_frame m f) (does w i.operation s.shared (moved_frame m f).locals (moved_frame m f).operands)
        ≡ moved_turn m (steps_by w t i s f (does w i.operation s.shared f.locals f.operands))
    steps_by-moves i s f at =
        let j : Instruction = moved_instruction (m.home f.version) i in
        let g : Frame = moved_frame m f in
        let d : Done = does w i.operation s.shared f.locals f.operands in
        let again : Option ℕ → Turn → Turn = goes_again w u j (state_moved m s) g in
        ap (λ (x : Done). again (starts x.outcome) (attempt w u j (state_moved m s) g)) (does-moves (m.home f.version) w i.operation s.shared f.locals f.operands)
        ∙ (ap (λ c. again c (attempt w u j (state_moved m s) g)) (starts-moves (m.home f.version) d.outcome)
        ∙ (ap (again (starts d.outcome)) (attempt-moves i s f at)
        ∙ again-moves i s f at (starts d.outcome) (attempt w t i s f)))

    -- ---- a step

    loaded-moves : (classes : List ℕ) (s : State) → with_classes_loaded classes (state_moved m s) ≡ state_moved m (with_classes_loaded classes s)
    loaded-moves [] s = refl
    loaded-moves (c ∷ more) s = refl

    loaded_turn-moves : (classes : List ℕ) (a : Turn) → loaded_turn classes (moved_turn m a) ≡ moved_turn m (loaded_turn classes a)
    loaded_turn-moves [] a = refl
    loaded_turn-moves (c ∷ more) a = refl

    steps_at-moves : (s : State) (f : Frame) → IsPlaced norm s → moved_frame (at_homes norm) f ≡ f → (i : Option Instruction) → option_map (moved_instruction (norm f.version)) i ≡ i
        → steps_at w u (state_moved m s) (moved_frame m f) (option_map (moved_instruction (m.home f.version)) i) ≡ moved_turn m (steps_at w t s f i)
    steps_at-moves s f below frame None fixed = refl
    steps_at-moves s f below frame (Some i) fixed =
        let j : Instruction = moved_instruction (m.home f.version) i in
        let g : Frame = moved_frame m f in
        let classes : List ℕ = loads w i.operation s.shared f.operands in
        let ready : State = with_classes_loaded classes s in
        let at : IsReadyAt norm i ready f = record { below = loaded-placed norm classes s below; frame = frame; instruction = same_Some _ _ fixed } in
        let stepped : State → Turn = λ s'. steps_by w u j s' g (does w i.operation s'.shared g.locals g.operands) in
        ap (λ cs. loaded_turn cs (stepped (with_classes_loaded cs (state_moved m s)))) (loads-moves (m.home f.version) w i.operation s.shared f.operands)
        ∙ (ap (λ s'. loaded_turn classes (stepped s')) (loaded-moves classes s)
        ∙ (ap (loaded_turn classes) (steps_by-moves i ready f at)
        ∙ loaded_turn-moves classes (steps_by w t i ready f (does w i.operation ready.shared f.locals f.operands))))

    steps_on-moves : (s : State) (ending : Option Ending) (stack : List Entry) → moved_stack (at_homes norm) stack ≡ stack
        → steps_on w u (state_moved m s) ending (moved_stack m stack) ≡ moved_turn m (steps_on w t s ending stack)
    steps_on-moves s None (Active f ∷ below) placed =
        let here : IsPlace norm f.version f.place = ap (top_place 0) placed in
        let fixed : option_map (moved_instruction (norm f.version)) (t.at f.version f.place) ≡ t.at f.version f.place =
        sym (own.lines f.version f.place here) ∙ ap (t.at f.version) here in
        ap (steps_at w u (state_moved m (record s { stack = below })) (moved_frame m f)) (agrees.lines f.version f.place here)
        ∙ steps_at-moves (record s { stack = below }) f (ap tail_of placed) (ap (top_frame f) placed) (t.at f.version f.place) fixed
    steps_on-moves s None [] placed = refl
    steps_on-moves s None (Initializing c part ∷ below) placed = refl
    steps_on-moves s (Some e) stack placed = refl

-- ---- a step elsewhere is the step, and leaves a placed state

pub step-moves : (norm : ℕ → ℕ → ℕ) (w : World) (m : Moving) (t u : Listing) → IsMovedListing norm (at_homes norm) t t → IsMovedListing norm m t u → (s : State) → IsPlaced norm s
    → step w u (state_moved m s) ≡ moved_turn m (step w t s)
step-moves norm w m t u own agrees s placed = steps_on-moves norm w t own m u agrees s s.ending s.stack placed

pub settled-placed : (norm : ℕ → ℕ → ℕ) (w : World) (t : Listing) → IsMovedListing norm (at_homes norm) t t → (a : Turn) → IsPlaced norm a.after → IsPlaced norm (turn_settled w t a).after
settled-placed norm w t own a placed =
    ap (λ (b : Turn). b.after.stack) (sym (settled-moves norm w t own (at_homes norm) t own a placed)
    ∙ ap (λ s. turn_settled w t (record a { after = s })) (placed-state norm a.after placed))

pub step-placed : (norm : ℕ → ℕ → ℕ) (w : World) (t : Listing) → IsMovedListing norm (at_homes norm) t t → (s : State) → IsPlaced norm s → IsPlaced norm (step w t s).after
step-placed norm w t own s placed =
    ap (λ (a : Turn). a.after.stack) (sym (step-moves norm w (at_homes norm) t t own own s placed) ∙ ap (step w t) (placed-state norm s placed))

-- ---- the same of the start

-- what begins has no frame
module _ (m : Moving) (w : World) where
  pub unless-still : (fault : Option Fault) (s : State) → moved_stack m s.stack ≡ s.stack → state_moved m (starts_unless w fault s) ≡ starts_unless w fault s
  unless-still (Some fault) s still = ap (λ stack. record (starts_unless w (Some fault) s) { stack = stack }) still
  unless-still None s still = refl

  loaded-still : (classes : List ℕ) (s : State) → moved_stack m s.stack ≡ s.stack → moved_stack m (with_classes_loaded classes s).stack ≡ (with_classes_loaded classes s).stack
  loaded-still [] s still = still
  loaded-still (c ∷ more) s still = still

  if-still : (fits : Bool) → state_moved m (starts_if w fits) ≡ starts_if w fits
  if-still true = unless-still (main_loading w).fault (run_opened w) (loaded-still (main_classes w) (arguments_made w (before w)) refl)
  if-still false = refl

  pub starts-still : state_moved m (starts_with w) ≡ starts_with w
  starts-still = if-still (arguments_fit w.program)

pub start-moves : (norm : ℕ → ℕ → ℕ) (w : World) (m : Moving) (t u : Listing) → IsMovedListing norm (at_homes norm) t t → IsMovedListing norm m t u → start w u ≡ moved_turn m (start w t)
start-moves norm w m t u own agrees =
    let classes : List ℕ = main_loads w in
    let begun : Turn = still (starts_with w) in
    ap (λ s. loaded_turn classes (turn_settled w u (still s))) (sym (starts-still m w))
    ∙ (ap (loaded_turn classes) (settled-moves norm w t own m u agrees begun (ap (λ (s : State). s.stack) (starts-still (at_homes norm) w)))
    ∙ loaded_turn-moves norm w t own m u agrees classes (turn_settled w t begun))

pub start-placed : (norm : ℕ → ℕ → ℕ) (w : World) (t : Listing) → IsMovedListing norm (at_homes norm) t t → IsPlaced norm (start w t).after
start-placed norm w t own = sym (ap (λ (a : Turn). a.after.stack) (start-moves norm w (at_homes norm) t t own own))

-- ---- and of the run

pub turn_in-placed : (norm : ℕ → ℕ → ℕ) (w : World) (t : Listing) → IsMovedListing norm (at_homes norm) t t → (n : ℕ) → IsPlaced norm (turn_in w t n).after
turn_in-placed norm w t own zero = subst (λ (a : Turn). IsPlaced norm a.after) (sym (turn_in-zero w t)) (start-placed norm w t own)
turn_in-placed norm w t own (suc n) =
    subst (λ (a : Turn). IsPlaced norm a.after) (sym (turn_in-suc w t n)) (step-placed norm w t own (turn_in w t n).after (turn_in-placed norm w t own n))

pub turn_in-moves : (norm : ℕ → ℕ → ℕ) (w : World) (m : Moving) (t u : Listing) → IsMovedListing norm (at_homes norm) t t → IsMovedListing norm m t u → (n : ℕ) → turn_in w u n ≡ moved_turn m (turn_in w t n)
turn_in-moves norm w m t u own agrees zero = turn_in-zero w u ∙ (start-moves norm w m t u own agrees ∙ ap (moved_turn m) (sym (turn_in-zero w t)))
turn_in-moves norm w m t u own agrees (suc n) =
    turn_in-suc w u n
    ∙ (ap (λ (a : Turn). step w u a.after) (turn_in-moves norm w m t u own agrees n)
    ∙ (step-moves norm w m t u own agrees (turn_in w t n).after (turn_in-placed norm w t own n)
    ∙ ap (moved_turn m) (sym (turn_in-suc w t n))))
