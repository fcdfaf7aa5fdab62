-- A move of a state elsewhere is the move of the state, elsewhere.
use Rattle.std.proofs.Common.{◌≡◌, ℕ, ◌+◌, ◌*◌, ◌≤◌, inl, inr, map, Bool, true, false, List, [], ◌∷◌, Option, Some, None, is_some, nat_le, nat_lt, ◌&&◌, if◌then◌else◌, refl, sym, ap, subst, ◌∙◌, arith}
use Rattle.std.specs.Option.{option_map, option_map_or}
use Rattle.std.proofs.lemmas.Bool.{cases_lt, lt-ltb, le-ltb, le-leb, lt-leb}
use Rattle.heap_objects.specs.declared.Value.TheVariants.{Ref}
use Rattle.jvm_model.specs.Basis.Data.{Frame, Entry, Active, Initializing, Part, Constants, Superclass, Initializer, Finish, Phase, Fresh, Erroneous, Ending, Unverifiable, State, Began, Turn, Catcher, Instruction, Listing, World}
use Rattle.jvm_model.specs.Classes.Lookup.{is_below}
use Rattle.jvm_model.specs.Basis.Programs.{super_of, initializer_of}
use Rattle.jvm_model.specs.Basis.SharedState.{phase_of, class_of, stack_overflow}
use Rattle.jvm_model.specs.Running.Applies.{still, with_frame, goes, new_frame, has_room, live_in, most_live}
use Rattle.jvm_model.specs.Running.Moves.{covers, handler_for, own_at, throw_caught, at_part, after_super, with_super, raises, runs_initializer, initializes, argument_array, main_or_end, moves, move, weight, weights, fresh, unit, unit_unless, moves_left}
use Rattle.jvm_model.specs.Codes.Moved.{Moving, moved_locals, moved_frame, moved_stack, state_moved, moved_turn, moved_instruction, moved_catcher, IsPlace, ArePlaces, HaveBounds, IsMovedListing}
use Rattle.jvm_model.proofs.Relocated.AppliesMoves.{goes-moves, frame-moves, chosen_turn-moves, live-moves}

chosen_target-moves : (h : ℕ → ℕ) (b : Bool) (x : ℕ) (y : Option ℕ) → (if b then Some (h x) else option_map h y) ≡ option_map h (if b then Some x else y)
chosen_target-moves h true x y = refl
chosen_target-moves h false x y = refl

module _ (w : World) (m : Moving) (norm : ℕ → ℕ → ℕ) (t u : Listing) (agrees : IsMovedListing norm m t u) where
  -- ---- handlers

  -- homes stand in the order of their places
  lt-same : (v a b : ℕ) → (t.handlers v ≡ [] → ⊥) → IsPlace norm v a → IsPlace norm v b → nat_lt (m.home v a) (m.home v b) ≡ nat_lt a b
  lt-same v a b some here there = elim (cases_lt a b) as (λ _. nat_lt (m.home v a) (m.home v b) ≡ nat_lt a b) [
    | inl less ↦ lt-ltb _ _ (agrees.rises v a b some here there less) ∙ sym (lt-ltb _ _ less)
    | inr le ↦ le-ltb _ _ (elim (cases_lt b a) as (λ _. m.home v b ≤ m.home v a) [
      | inl more ↦ let up = agrees.rises v b a some there here more in omega arith
      | inr ge ↦ let same : a ≡ b = omega arith in subst (λ c. m.home v c ≤ m.home v a) same (omega arith)
    ]) ∙ sym (le-ltb _ _ le)
  ]

  le-same : (v a b : ℕ) → (t.handlers v ≡ [] → ⊥) → IsPlace norm v a → IsPlace norm v b → nat_le (m.home v a) (m.home v b) ≡ nat_le a b
  le-same v a b some here there = elim (cases_lt b a) as (λ _. nat_le (m.home v a) (m.home v b) ≡ nat_le a b) [
    | inl more ↦ lt-leb _ _ (agrees.rises v b a some there here more) ∙ sym (lt-leb _ _ more)
    | inr le ↦ le-leb _ _ (elim (cases_lt a b) as (λ _. m.home v a ≤ m.home v b) [
      | inl less ↦ let up = agrees.rises v a b some here there less in omega arith
      | inr ge ↦ let same : a ≡ b = omega arith in subst (λ c. m.home v a ≤ m.home v c) same (omega arith)
    ]) ∙ sym (le-leb _ _ le)
  ]

  handler-moves : (v class place : ℕ) → (t.handlers v ≡ [] → ⊥) → IsPlace norm v place → (hs : List Catcher) → HaveBounds norm v hs
      → handler_for w class (m.home v place) (map (moved_catcher (m.home v)) hs) ≡ option_map (m.home v) (handler_for w class place hs)
  handler-moves v class place some here [] bounds = refl
  handler-moves v class place some here (hd ∷ more) bounds =
      let h : ℕ → ℕ = m.home v in
      let catches : Bool = option_map_or (is_below w.program class) hd.catches true in
      let later : Option ℕ = handler_for w class (h place) (map (moved_catcher h) more) in
      ap (λ b. if b && nat_lt (h place) (h hd.finish) && catches then Some (h hd.target) else later) (le-same v hd.start place some bounds.0 here)
      ∙ (ap (λ b. if nat_le hd.start place && b && catches then Some (h hd.target) else later) (lt-same v place hd.finish some here bounds.1)
      ∙ (ap (λ x. if covers w class place hd then Some (h hd.target) else x) (handler-moves v class place some here more bounds.2)
      ∙ chosen_target-moves h (covers w class place hd) hd.target (handler_for w class place more)))

  handlers-move : (v class place : ℕ) → IsPlace norm v place → (hs : List Catcher) → t.handlers v ≡ hs
      → handler_for w class (m.home v place) (map (moved_catcher (m.home v)) hs) ≡ option_map (m.home v) (handler_for w class place hs)
  handlers-move v class place here [] is = refl
  handlers-move v class place here (hd ∷ more) is =
      handler-moves v class place (λ none. (let e : hd ∷ more ≡ [] = sym is ∙ none in cc)) here (hd ∷ more) (subst (HaveBounds norm v) is (agrees.bounds v))

  -- ---- a throw meets a frame

  own_of-moves : (h : ℕ → ℕ) (i : Option Instruction)
      → option_map_or (λ (i : Instruction). i.own) (option_map (moved_instruction h) i) 0 ≡ option_map_or (λ (i : Instruction). i.own) i 0
  own_of-moves h None = refl
  own_of-moves h (Some i) = refl

  own-moves : (f : Frame) → IsPlace norm f.version f.place → own_at u (moved_frame m f) ≡ own_at t f
  own-moves f here =
      ap (λ (x : Option Instruction). option_map_or (λ (i : Instruction). i.own) x 0) (agrees.lines f.version f.place here)
      ∙ own_of-moves (m.home f.version) (t.at f.version f.place)

  caught-moves : (s : State) (r : ℕ) (f : Frame) → IsPlace norm f.version f.place → (target : Option ℕ)
      → throw_caught w u (state_moved m s) r (moved_frame m f) (option_map (m.home f.version) target) ≡ moved_turn m (throw_caught w t s r f target)
  caught-moves s r f here None = refl
  caught-moves s r f here (Some target) =
      let h : ℕ → ℕ = m.home f.version in
      let free : State = record s { thrown = None } in
      ap (λ own. still (goes (state_moved m free) (moved_frame m f) own (moved_locals h f.locals) (Ref r ∷ []) (Some (h target)))) (own-moves f here)
      ∙ ap still (goes-moves w m free f (own_at t f) f.locals (Ref r ∷ []) (Some target))

  unwound-moves : (s : State) (r : ℕ) (f : Frame) → IsPlace norm f.version f.place
      → throw_caught w u (state_moved m s) r (moved_frame m f) (handler_for w (class_of w.program s.shared r) (m.home f.version f.place) (u.handlers (m.version f.version)))
      ≡ moved_turn m (throw_caught w t s r f (handler_for w (class_of w.program s.shared r) f.place (t.handlers f.version)))
  unwound-moves s r f here =
      let class : ℕ = class_of w.program s.shared r in
      ap (λ hs. throw_caught w u (state_moved m s) r (moved_frame m f) (handler_for w class (m.home f.version f.place) hs)) (agrees.handlers f.version)
      ∙ (ap (throw_caught w u (state_moved m s) r (moved_frame m f)) (handlers-move f.version class f.place here (t.handlers f.version) refl)
      ∙ caught-moves s r f here (handler_for w class f.place (t.handlers f.version)))

  -- ---- initializations

  after_super-moves : (s : State) (c d : ℕ) (p : Option Phase) → after_super w (state_moved m s) c d p ≡ state_moved m (after_super w s c d p)
  after_super-moves s c d (Some Fresh) = refl
  after_super-moves s c d (Some Erroneous) = refl
  after_super-moves s c d _ = refl

  with_super-moves : (s : State) (c : ℕ) (d : Option ℕ) → with_super w (state_moved m s) c d ≡ state_moved m (with_super w s c d)
  with_super-moves s c None = refl
  with_super-moves s c (Some d) = after_super-moves s c d (phase_of s.shared d)

  runs_initializer-moves : (s : State) (c : ℕ) (k : Option ℕ) → runs_initializer w u (state_moved m s) c k ≡ moved_turn m (runs_initializer w t s c k)
  runs_initializer-moves s c None = refl
  runs_initializer-moves s c (Some k) =
      let there : State = state_moved m (at_part s c Finish) in
      let begun : Turn = record { after = with_frame (at_part s c Finish) (new_frame w t k []); changes = Began k ∷ [] } in
      let overflows : Turn = still (raises w (at_part s c Finish) stack_overflow None) in
      ap (λ live. if nat_lt live most_live then record { after = with_frame there (new_frame w u k []); changes = Began k ∷ [] } else still (raises w there stack_overflow None)) (live-moves m s.stack)
      ∙ chosen_turn-moves w m (nat_lt (live_in s.stack) most_live) begun _ overflows _
      (ap (λ (g : Frame). record { after = with_frame there g; changes = Began k ∷ [] }) (frame-moves w m norm t u agrees k []))
      refl

  initializes-moves : (s : State) (c : ℕ) (part : Part) → initializes w u (state_moved m s) c part ≡ moved_turn m (initializes w t s c part)
  initializes-moves s c Constants = refl
  initializes-moves s c Superclass = ap still (with_super-moves s c (super_of w.program c))
  initializes-moves s c Initializer = runs_initializer-moves s c (initializer_of w.program c)
  initializes-moves s c Finish = refl

  -- ---- nothing is left

  main-moves : (s : State) (b : Bool) → main_or_end w u (state_moved m s) b ≡ moved_turn m (main_or_end w t s b)
  main-moves s true = refl
  main-moves s false =
      let main : ℕ = w.program.main in
      let begun : Frame → Turn = λ g. record { after = record s { begun = true; stack = Active g ∷ [] }; changes = Began main ∷ [] } in
      chosen_turn-moves w m (has_room w main argument_array) (begun (new_frame w t main argument_array)) _ (still (record s { ending = Some (Unverifiable main 0) })) _
      (ap begun (frame-moves w m norm t u agrees main argument_array))
      refl

  -- ---- every move

  moves-move : (s : State) (ending : Option Ending) (thrown : Option ℕ) (stack : List Entry) → ArePlaces norm stack
      → moves w u (state_moved m s) ending thrown (moved_stack m stack) ≡ option_map (moved_turn m) (moves w t s ending thrown stack)
  moves-move s (Some e) thrown stack are = refl
  moves-move s None (Some r) [] are = refl
  moves-move s None (Some r) (Active f ∷ below) are = ap Some (unwound-moves (record s { stack = below }) r f are.0)
  moves-move s None (Some r) (Initializing c part ∷ below) are = refl
  moves-move s None None [] are = ap Some (main-moves s s.begun)
  moves-move s None None (Active f ∷ below) are = refl
  moves-move s None None (Initializing c part ∷ below) are = ap Some (initializes-moves (record s { stack = below }) c part)

  pub move-moves : (s : State) → ArePlaces norm s.stack → move w u (state_moved m s) ≡ option_map (moved_turn m) (move w t s)
  move-moves s are = moves-move s s.ending s.thrown s.stack are

-- as many moves are left
weights-moves : (m : Moving) (stack : List Entry) → weights (moved_stack m stack) ≡ weights stack
weights-moves m [] = refl
weights-moves m (Active f ∷ below) = ap (λ n. 1 + n) (weights-moves m below)
weights-moves m (Initializing c part ∷ below) = ap (λ n. weight (Initializing c part) + n) (weights-moves m below)

pub left-moves : (m : Moving) (s : State) → moves_left (state_moved m s) ≡ moves_left s
left-moves m s = ap (λ n. 8 * fresh s.shared.phases + n + unit (is_some s.thrown) + 2 * unit_unless s.begun + unit_unless (is_some s.ending)) (weights-moves m s.stack)
