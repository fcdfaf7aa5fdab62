-- However much of a step is left, it goes on as GoesOn says.
use Rattle.std.proofs.Common.{◌≡◌, ℕ, Bool, true, false, List, [], ◌∷◌, drop, Option, Some, None, nat_lt, if◌then◌else◌, refl, sym, ap, subst, ◌∙◌}
use Rattle.std.specs.Option.{option_map}
use Rattle.std.proofs.lemmas.Option.{same_Some}
use Rattle.jvm_model.specs.Basis.Data.{Frame, Entry, Active, Initializing, Constants, Superclass, Initializer, Finish, Ending, State, Change, Began, Unwound, Turn, Listing, World}
use Rattle.jvm_model.specs.Basis.Programs.{initializer_of}
use Rattle.jvm_model.specs.Basis.SharedState.{class_of}
use Rattle.jvm_model.specs.Running.Applies.{has_room, live_in, most_live}
use Rattle.jvm_model.specs.Running.Moves.{handler_for, throw_caught, runs_initializer, argument_array, main_or_end, moves, move}
use Rattle.jvm_model.specs.Codes.Moved.{moved_turn, IsMovedListing, at_homes}
use Rattle.jvm_model.specs.Rewriting.StandsForRun.{listing_named, norm_by, IsOfVersions}
use Rattle.jvm_model.specs.Turns.Rest.{Todo, Attempt, Moves}
use Rattle.jvm_model.specs.Turns.Told.{Held}
use Rattle.jvm_model.specs.Turns.StepPauses.{EndsByReturn}
use Rattle.jvm_model.specs.Turns.InHand.{Versioned, InHand, GoesOn, goes_from, frame_popped}
use Rattle.jvm_model.proofs.Relocated.MovesMove.{move-moves}
use Rattle.jvm_model.proofs.Relocated.StepMoves.{placed-places}
use Rattle.jvm_model.proofs.Turns.GoesOn.{attempt-goes, moves-go, unwound-goes, unwinds-here}

-- ---- a move that unwinds takes the current frame off

-- where its one change is that
abbrev Pops : State → Turn → Type 0
Pops s next = next.changes ≡ Unwound ∷ [] → next.after ≡ frame_popped s

chosen-pops : (s : State) (b : Bool) (x y : Turn) → Pops s x → Pops s y → Pops s (if b then x else y)
chosen-pops s true x y p q = p
chosen-pops s false x y p q = q

no-change : (c : Change) (more : List Change) → [] ≡ c ∷ more → ⊥
no-change c more e = cc

began-unwound : (m : ℕ) → Began m ∷ [] ≡ Unwound ∷ [] → ⊥
began-unwound m e = cc

module _ (w : World) (t : Listing) (s : State) where
  caught-pops : (below : List Entry) (r : ℕ) (f : Frame) (h : Option ℕ) → s.stack ≡ Active f ∷ below → Pops s (throw_caught w t (record s { stack = below }) r f h)
  caught-pops below r f None top e = ap (λ stack. record s { stack = drop 1 stack }) (sym top)
  caught-pops below r f (Some target) top e = absurd (no-change Unwound [] e)

  runs-pops : (s' : State) (c : ℕ) (m : Option ℕ) → Pops s (runs_initializer w t s' c m)
  runs-pops s' c None = λ e. absurd (no-change Unwound [] e)
  runs-pops s' c (Some m) = chosen-pops s (nat_lt (live_in s'.stack) most_live) _ _ (λ e. absurd (began-unwound m e)) (λ e. absurd (no-change Unwound [] e))

  main-pops : (s' : State) (b : Bool) → Pops s (main_or_end w t s' b)
  main-pops s' true = λ e. absurd (no-change Unwound [] e)
  main-pops s' false = chosen-pops s (has_room w w.program.main argument_array) _ _ (λ e. absurd (began-unwound w.program.main e)) (λ e. absurd (no-change Unwound [] e))

  pops-by : (ending : Option Ending) (thrown : Option ℕ) (stack : List Entry) → s.stack ≡ stack → (next : Turn) → moves w t s ending thrown stack ≡ Some next → Pops s next
  pops-by (Some x) thrown stack top next e = absurd (let h : None ≡ Some next = e in cc)
  pops-by None (Some r) [] top next e = subst (Pops s) (same_Some _ _ e) (λ h. absurd (no-change Unwound [] h))
  pops-by None (Some r) (Active f ∷ below) top next e =
      subst (Pops s) (same_Some _ _ e) (caught-pops below r f (handler_for w (class_of w.program s.shared r) f.place (t.handlers f.version)) top)
  pops-by None (Some r) (Initializing c part ∷ below) top next e = subst (Pops s) (same_Some _ _ e) (λ h. absurd (no-change Unwound [] h))
  pops-by None None [] top next e = subst (Pops s) (same_Some _ _ e) (main-pops s s.begun)
  pops-by None None (Active f ∷ below) top next e = absurd (let h : None ≡ Some next = e in cc)
  pops-by None None (Initializing c Constants ∷ below) top next e = subst (Pops s) (same_Some _ _ e) (λ h. absurd (no-change Unwound [] h))
  pops-by None None (Initializing c Superclass ∷ below) top next e = subst (Pops s) (same_Some _ _ e) (λ h. absurd (no-change Unwound [] h))
  pops-by None None (Initializing c Initializer ∷ below) top next e = subst (Pops s) (same_Some _ _ e) (runs-pops (record s { stack = below }) c (initializer_of w.program c))
  pops-by None None (Initializing c Finish ∷ below) top next e = subst (Pops s) (same_Some _ _ e) (λ h. absurd (no-change Unwound [] h))

  pub unwinds-pops : (next : Turn) → move w t s ≡ Some next → next.changes ≡ Unwound ∷ [] → next.after ≡ frame_popped s
  unwinds-pops next e = pops-by s.ending s.thrown s.stack refl next e

-- ---- all three

module _ (w : World) (t : Listing) (x : Versioned) (own : IsMovedListing x.norm (at_homes x.norm) t t) (current : ℕ → ℕ) (u : Listing) (is : IsOfVersions x.norm x.method_of current x.homes t u)
    (only : EndsByReturn w) (turn : Turn) (passed : ℕ) (live : List Held) where
  unwinds-here-too : (s : State) (hand : InHand w t x turn passed true live Moves s) → move w u s ≡ Some (record { after = frame_popped s; changes = Unwound ∷ [] })
  unwinds-here-too s hand =
      let mid : Listing = listing_named x.method_of current t in
      let b : State = hand.between in
      let next = unwinds-here w t x own current is.begins b hand.placed (hand.awaits refl) in
      let there : move w u s ≡ Some (moved_turn (at_homes x.homes) (record { after = next.after; changes = Unwound ∷ [] })) =
      ap (move w u) hand.versioned
      ∙ (move-moves w (at_homes x.homes) (norm_by x.method_of x.norm) mid u is.agrees b (placed-places (norm_by x.method_of x.norm) b.stack hand.placed)
      ∙ ap (option_map (moved_turn (at_homes x.homes))) next.next) in
      there ∙ ap (λ after. Some (record { after = after; changes = Unwound ∷ [] }))
      (unwinds-pops w u s (moved_turn (at_homes x.homes) (record { after = next.after; changes = Unwound ∷ [] })) there refl)

  -- The step goes on as far as the next change that is told.
  pub all-goes : (told : Bool) (todo : Todo) (s : State) → InHand w t x turn passed told live todo s → GoesOn w t x current turn passed told live (goes_from w u x told passed todo s (frame_popped s))
  all-goes told Attempt s hand = attempt-goes w t x own current u is only turn passed told live s hand
  all-goes false Moves s hand = moves-go w t x own current u is only turn passed live s hand
  all-goes true Moves s hand = unwound-goes w t x own current u is only turn passed live s (frame_popped s) hand (unwinds-here-too s hand)
