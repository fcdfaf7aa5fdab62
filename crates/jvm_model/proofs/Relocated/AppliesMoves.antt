-- An outcome makes of a state elsewhere what it makes of the state, elsewhere.
use Rattle.std.proofs.Common.{◌≡◌, ℕ, zero, suc, ◌+◌, ◌-◌, slice_get, replicate, length, Bool, true, false, List, [], ◌∷◌, ◌++◌, Option, Some, None, nat_le, nat_lt, if◌then◌else◌, refl, sym, ap, ◌∙◌}
use Rattle.std.specs.Option.{option_map}
use Rattle.std.proofs.lemmas.Option.{slice_get-map}
use Rattle.std.proofs.lemmas.List.{map-append}
use Rattle.heap_objects.specs.declared.datum.Datum.TheVariants as datum
use Rattle.heap_objects.specs.declared.Value.TheVariants.{Int, Long, Ref, Addr}
use Rattle.jvm_model.specs.Basis.Data.{Datum, Locals, Operands, Frame, Entry, Active, Initializing, State, Began, Left, Turn, Instruction, Listing, Where, Next, Target, Back, Outcome, GoesOn, Subroutine, Invokes, Returns, Throws, Raises, Initializes, Exits, Breaks, World}
use Rattle.frame_stack.specs.Widths.{width, height_of}
use Rattle.jvm_model.specs.Basis.Values.{as_value, arguments_spread, locals_with, with_value}
use Rattle.jvm_model.specs.Basis.Programs.{max_stack_of, max_locals_of}
use Rattle.jvm_model.specs.Basis.SharedState.{exception_raised, stack_overflow}
use Rattle.jvm_model.specs.Running.Applies.{still, with_frame, breaks, goes, place_of, enters_subroutine, new_frame, throws_at, has_room, begins, live_in, most_live, begins_beside, invocation_turn, resumes, gives_back, applies}
use Rattle.jvm_model.specs.Codes.Moved.{Moving, moved_slot, moved_locals, moved_operands, moved_where, moved_outcome, moved_frame, moved_stack, state_moved, moved_turn, moved_instruction, ArePlaces, IsMovedListing}
use Rattle.jvm_model.proofs.Relocated.WithinMoves.{found-moves, long-moves, with-moves}

-- ---- parts of a frame

module _ (h : ℕ → ℕ) where
  pub depth-moves : (o : Operands) → height_of (moved_operands h o) ≡ height_of o
  depth-moves [] = refl
  depth-moves (v ∷ below) = ap (λ b. (if b then 2 else 1) + height_of (moved_operands h below)) (long-moves h v) ∙ ap (λ n. width v + n) (depth-moves below)

  spread-moves : (args : List Datum) → arguments_spread args ≡ moved_locals h (arguments_spread args)
  spread-moves [] = refl
  spread-moves (datum.Long n ∷ args) = ap (λ l. Some (Long n) ∷ None ∷ l) (spread-moves args)
  spread-moves (datum.Int n ∷ args) = ap (λ l. Some (Int n) ∷ l) (spread-moves args)
  spread-moves (datum.Ref r ∷ args) = ap (λ l. Some (Ref r) ∷ l) (spread-moves args)

  unwritten-moves : (n : ℕ) → replicate n None ≡ moved_locals h (replicate n None)
  unwritten-moves zero = refl
  unwritten-moves (suc n) = ap (λ l. None ∷ l) (unwritten-moves n)

  locals-moves : (args : List Datum) (most : ℕ) → locals_with args most ≡ moved_locals h (locals_with args most)
  locals-moves args most =
      let more : ℕ = most - length (arguments_spread args) in
      ap (λ l. l ++ replicate more None) (spread-moves args)
      ∙ (ap (λ l. moved_locals h (arguments_spread args) ++ l) (unwritten-moves more)
      ∙ sym (map-append (moved_slot h) (arguments_spread args) (replicate more None)))

  result-moves : (d : Option Datum) (o : Operands) → with_value (option_map as_value d) (moved_operands h o) ≡ moved_operands h (with_value (option_map as_value d) o)
  result-moves d o = ap (λ v. with_value v (moved_operands h o)) (found-moves h d) ∙ with-moves h (option_map as_value d) o

  place-moves : (i : Instruction) (to : Where) → place_of (moved_instruction h i) (moved_where h to) ≡ option_map h (place_of i to)
  place-moves i Next = refl
  place-moves i (Target k) = slice_get-map h i.targets k
  place-moves i (Back place) = refl

-- as many activations are live
pub live-moves : (m : Moving) (stack : List Entry) → live_in (moved_stack m stack) ≡ live_in stack
live-moves m [] = refl
live-moves m (Active f ∷ below) = ap suc (live-moves m below)
live-moves m (Initializing c part ∷ below) = live-moves m below

module _ (w : World) (m : Moving) where
  chosen-moves : (b : Bool) (x x' y y' : State) → x' ≡ state_moved m x → y' ≡ state_moved m y → (if b then x' else y') ≡ state_moved m (if b then x else y)
  chosen-moves true x x' y y' p q = p
  chosen-moves false x x' y y' p q = q

  pub chosen_turn-moves : (b : Bool) (x x' y y' : Turn) → x' ≡ moved_turn m x → y' ≡ moved_turn m y → (if b then x' else y') ≡ moved_turn m (if b then x else y)
  chosen_turn-moves true x x' y y' p q = p
  chosen_turn-moves false x x' y y' p q = q

  -- ---- a frame goes on

  pub goes-moves : (s : State) (f : Frame) (own : ℕ) (l : Locals) (o : Operands) (place : Option ℕ)
      → goes (state_moved m s) (moved_frame m f) own (moved_locals (m.home f.version) l) (moved_operands (m.home f.version) o) (option_map (m.home f.version) place) ≡ state_moved m (goes s f own l o place)
  goes-moves s f own l o None = refl
  goes-moves s f own l o (Some place) =
      let there : Frame = record f { place = place; locals = l; operands = o } in
      ap (λ n. if nat_le n f.max_stack then with_frame (state_moved m s) (moved_frame m there) else breaks (state_moved m s) (moved_frame m f) own) (depth-moves (m.home f.version) o)
      ∙ chosen-moves (nat_le (height_of o) f.max_stack) (with_frame s there) _ (breaks s f own) _ refl refl

  subroutine-moves : (s : State) (f : Frame) (i : Instruction) (next : Option ℕ)
      → enters_subroutine (state_moved m s) (moved_frame m f) (moved_instruction (m.home f.version) i) (option_map (m.home f.version) next) ≡ state_moved m (enters_subroutine s f i next)
  subroutine-moves s f i None = refl
  subroutine-moves s f i (Some next) =
      let h : ℕ → ℕ = m.home f.version in
      ap (goes (state_moved m s) (moved_frame m f) i.own (moved_locals h f.locals) (Addr (h next) ∷ moved_operands h f.operands)) (slice_get-map h i.targets 0)
      ∙ goes-moves s f i.own f.locals (Addr next ∷ f.operands) (slice_get i.targets 0)

  resumes-moves : (s : State) (f : Frame) (d : Option Datum) (i : Option Instruction)
      → resumes (state_moved m s) (moved_frame m f) d (option_map (moved_instruction (m.home f.version)) i) ≡ state_moved m (resumes s f d i)
  resumes-moves s f d None = refl
  resumes-moves s f d (Some i) =
      let h : ℕ → ℕ = m.home f.version in
      ap (λ o. goes (state_moved m s) (moved_frame m f) i.own (moved_locals h f.locals) o (option_map h i.next)) (result-moves h d f.operands)
      ∙ goes-moves s f i.own f.locals (with_value (option_map as_value d) f.operands) i.next

  -- ---- invocation and return

  module _ (norm : ℕ → ℕ → ℕ) (t u : Listing) (agrees : IsMovedListing norm m t u) where
    pub frame-moves : (k : ℕ) (args : List Datum) → new_frame w u k args ≡ moved_frame m (new_frame w t k args)
    frame-moves k args =
        let v : ℕ = t.current k in
        let at : ℕ → ℕ → Locals → Frame = λ version place l. record { method = k; version = version; place = place; locals = l; operands = []; max_locals = max_locals_of w k; max_stack = max_stack_of w k } in
        let l : Locals = locals_with args (max_locals_of w k) in
        ap (λ version. at version (u.first version) l) (agrees.current k)
        ∙ (ap (λ place. at (m.version v) place l) (agrees.first v)
        ∙ ap (at (m.version v) (m.home v (t.first v))) (locals-moves (m.home v) args (max_locals_of w k)))

    beside-moves : (s : State) (f : Frame) (k : ℕ) (args : List Datum) (below : Operands) (live : ℕ)
        → begins_beside w u (state_moved m s) (moved_frame m f) k args (moved_operands (m.home f.version) below) live ≡ moved_turn m (begins_beside w t s f k args below live)
    beside-moves s f k args below live =
        let waiting : State = with_frame s (record f { operands = below }) in
        chosen_turn-moves (nat_lt live most_live) (begins w t s f k args below) _ (still (throws_at s f (exception_raised w s.shared stack_overflow None))) _
        (ap (λ (g : Frame). record { after = with_frame (state_moved m waiting) g; changes = Began k ∷ [] }) (frame-moves k args))
        refl

    invokes-moves : (i : Instruction) (s : State) (f : Frame) (k : ℕ) (args : List Datum) (below : Operands)
        → invocation_turn w u (moved_instruction (m.home f.version) i) (state_moved m s) (moved_frame m f) k args (moved_operands (m.home f.version) below) ≡ moved_turn m (invocation_turn w t i s f k args below)
    invokes-moves i s f k args below =
        let beside : ℕ → Turn = λ live. begins_beside w u (state_moved m s) (moved_frame m f) k args (moved_operands (m.home f.version) below) (suc live) in
        chosen_turn-moves (has_room w k args) (begins_beside w t s f k args below (suc (live_in s.stack))) _ (still (breaks s f i.own)) _
        (ap beside (live-moves m s.stack) ∙ beside-moves s f k args below (suc (live_in s.stack)))
        refl

    gives_back-moves : (s : State) (d : Option Datum) (stack : List Entry) → ArePlaces norm stack → gives_back u (state_moved m s) d (moved_stack m stack) ≡ state_moved m (gives_back t s d stack)
    gives_back-moves s d [] are = refl
    gives_back-moves s d (Initializing c part ∷ below) are = refl
    gives_back-moves s d (Active f ∷ below) are =
        ap (resumes (state_moved m (record s { stack = below })) (moved_frame m f) d) (agrees.lines f.version f.place are.0)
        ∙ resumes-moves (record s { stack = below }) f d (t.at f.version f.place)

    -- ---- every outcome

    pub applies-moves : (i : Instruction) (outcome : Outcome) (s : State) (f : Frame) → ArePlaces norm s.stack
        → applies w u (moved_instruction (m.home f.version) i) (moved_outcome (m.home f.version) outcome) (state_moved m s) (moved_frame m f) ≡ moved_turn m (applies w t i outcome s f)
    applies-moves i (GoesOn l o to) s f are =
        let h : ℕ → ℕ = m.home f.version in
        ap (λ p. still (goes (state_moved m s) (moved_frame m f) i.own (moved_locals h l) (moved_operands h o) p)) (place-moves h i to)
        ∙ ap still (goes-moves s f i.own l o (place_of i to))
    applies-moves i Subroutine s f are = ap still (subroutine-moves s f i i.next)
    applies-moves i (Invokes k args below) s f are = invokes-moves i s f k args below
    applies-moves i (Returns d) s f are = ap (λ (x : State). record { after = x; changes = Left ∷ [] }) (gives_back-moves s d s.stack are)
    applies-moves i (Throws r) s f are = refl
    applies-moves i (Raises c message) s f are = refl
    applies-moves i (Initializes c) s f are = refl
    applies-moves i (Exits n) s f are = refl
    applies-moves i (Breaks true) s f are = refl
    applies-moves i (Breaks false) s f are = refl
