-- How a step in hand goes on over the listing of versions that is in force: it stops where the step's next change is
-- told, and what is in hand then is the rest of the same step; at its end the machine stands for the state after it.
use Rattle.std.proofs.Common.{◌≡◌, ℕ, zero, suc, Bool, true, false, List, [], ◌∷◌, ◌++◌, drop, Option, Some, None, refl, sym, ap, ap₂, subst, ◌∙◌}
use Rattle.std.specs.Option.{option_map}
use Rattle.std.proofs.lemmas.Option.{same_Some}
use Rattle.jvm_model.specs.declared.event.Mark.{Mark}
use Rattle.jvm_model.specs.Basis.Data.{Entry, Active, Initializing, Ending, State, Change, Unwound, Turn, Listing, World}
use Rattle.jvm_model.specs.Running.Applies.{still}
use Rattle.jvm_model.specs.Running.Moves.{move}
use Rattle.jvm_model.specs.Codes.Moved.{Moving, state_moved, moved_turn, moved_stack, IsMovedListing, at_homes, IsPlaced}
use Rattle.jvm_model.specs.Rewriting.StandsForRun.{listing_named, versions_forgotten, norm_by, IsOfVersions}
use Rattle.jvm_model.specs.Turns.Rest.{Todo, Attempt, Moves, rest}
use Rattle.jvm_model.specs.Turns.Told.{Held, helds, mark_now}
use Rattle.jvm_model.specs.Turns.Pauses.{later_of, Nothing, is_end, stop_from, Pause, step_paused, passed_by, stop_of, Unwinds}
use Rattle.jvm_model.specs.Turns.StepPauses.{step_pause, EndsByReturn, is_at_return, Awaits, NeedsNoLoad}
use Rattle.jvm_model.specs.Turns.InHand.{Versioned, original_of, versioned_of, InHand, GoesOn}
use Rattle.jvm_model.proofs.Relocated.MovesMove.{move-moves}
use Rattle.jvm_model.proofs.Relocated.StepMoves.{placed-places, step-moves, settled-moves, next-placed}
use Rattle.jvm_model.proofs.Relocated.StandsForRun.{named-own, named-original}
use Rattle.jvm_model.proofs.Turns.RestStands.{loads-same}
use Rattle.jvm_model.proofs.Turns.Rests.{nothing-left}
use Rattle.jvm_model.proofs.Turns.Pausing.{paused-is}
use Rattle.jvm_model.proofs.Turns.StepPausing.{step-paused, unwound-paused}
use Rattle.jvm_model.proofs.Turns.PausesMove.{moved_pause, paused-moves, step_pause-moves, paused-placed, step_pause-placed}

-- ---- lists

drop-next : {A : Type 0} (n : ℕ) (c : A) (b xs : List A) → drop n xs ≡ c ∷ b → drop (suc n) xs ≡ b
drop-next zero c b [] e = absurd (let h : [] ≡ c ∷ b = e in cc)
drop-next zero c b (x ∷ xs) e = (let h : x ∷ xs ≡ c ∷ b = e in cc)
drop-next (suc n) c b [] e = absurd (let h : [] ≡ c ∷ b = e in cc)
drop-next (suc n) c b (x ∷ xs) e = drop-next n c b xs e

pub drop-passed : (n : ℕ) (a b xs : List Change) → drop n xs ≡ a ++ b → drop (passed_by n a) xs ≡ b
drop-passed n [] b xs e = e
drop-passed n (c ∷ a) b xs e = drop-passed (suc n) a b xs (drop-next n c (a ++ b) xs e)

-- ---- what is left of a state elsewhere

rest-moves : (norm : ℕ → ℕ → ℕ) (w : World) (m : Moving) (t u : Listing) → IsMovedListing norm (at_homes norm) t t → IsMovedListing norm m t u → (todo : Todo) (s : State) → IsPlaced norm s
    → rest w u todo (state_moved m s) ≡ moved_turn m (rest w t todo s)
rest-moves norm w m t u own agrees Attempt s placed = step-moves norm w m t u own agrees s placed
rest-moves norm w m t u own agrees Moves s placed = settled-moves norm w t own m u agrees (still s) placed

-- homes change no version
held-same : (v : ℕ → Mark) (homes : ℕ → ℕ → ℕ) (stack : List Entry) → helds v (moved_stack (at_homes homes) stack) ≡ helds v stack
held-same v homes [] = refl
held-same v homes (Active f ∷ below) = ap (λ live. record { method = f.method; mark = v f.version } ∷ live) (held-same v homes below)
held-same v homes (Initializing c part ∷ below) = held-same v homes below

-- What a pause comes to, whatever is left at it.
pub record IsGoneOn (w : World) (t : Listing) (v : ℕ → Mark) (told : Bool) (n : ℕ) (todo : Todo) (s : State) (p : Pause) : Type 0 where
  pub later : Todo
  pub changes : List Change
  pub same : (rest w t todo s).after ≡ (rest w t later p.state).after
  pub tells : (rest w t todo s).changes ≡ changes ++ (rest w t later p.state).changes
  pub count : p.passed ≡ passed_by n changes
  pub stops : stop_from (mark_now v t) told n (helds v s.stack) (rest w t todo s).changes ≡ stop_of v p
  pub ends : p.due ≡ Nothing → rest w t later p.state ≡ still p.state
  pub awaits : is_end p.due ≡ true → Awaits w t later p.state
  pub loaded : NeedsNoLoad w t later p.state
  pub later_is : (p.due ≡ Nothing → ⊥) → later ≡ later_of p.due

module _ (w : World) (t : Listing) (x : Versioned) (own : IsMovedListing x.norm (at_homes x.norm) t t) (current : ℕ → ℕ) (begins : (k : ℕ) → t.current k ≡ x.method_of (current k)) where
  abbrev pub mid : Listing
  mid = listing_named x.method_of current t

  abbrev pub norm : ℕ → ℕ → ℕ
  norm = norm_by x.method_of x.norm

  abbrev pub marks : ℕ → Mark
  marks = mark_now x.mark_of mid

  mid-own : IsMovedListing norm (at_homes norm) mid mid
  mid-own = named-own x.norm w t own x.method_of current

  mid-original : IsMovedListing norm (versions_forgotten x.method_of) mid t
  mid-original = named-original x.norm w t own x.method_of current begins

  -- ---- between the original code and versions

  return-same : (ending : Option Ending) (stack : List Entry) → is_at_return t ending (moved_stack (versions_forgotten x.method_of) stack) ≡ is_at_return mid ending stack
  return-same None (Active f ∷ below) = refl
  return-same None [] = refl
  return-same None (Initializing c part ∷ below) = refl
  return-same (Some e) stack = refl

  unwinds-there : (s : State) → IsPlaced norm s → Unwinds w mid s → Unwinds w t (original_of x s)
  unwinds-there s placed u = record {
    after = original_of x u.after;
    next = move-moves w (versions_forgotten x.method_of) norm mid t mid-original s (placed-places norm s.stack placed) ∙ ap (option_map (moved_turn (versions_forgotten x.method_of))) u.next;
  }

  pub unwinds-here : (s : State) → IsPlaced norm s → Unwinds w t (original_of x s) → Unwinds w mid s
  unwinds-here s placed u = by (move w mid s) refl where
    law : option_map (moved_turn (versions_forgotten x.method_of)) (move w mid s) ≡ Some (record { after = u.after; changes = Unwound ∷ [] })
    law = sym (move-moves w (versions_forgotten x.method_of) norm mid t mid-original s (placed-places norm s.stack placed)) ∙ u.next

    by : (o : Option Turn) → move w mid s ≡ o → Unwinds w mid s
    by None e = absurd (let h : None ≡ Some (record { after = u.after; changes = Unwound ∷ [] }) = sym (ap (option_map (moved_turn (versions_forgotten x.method_of))) e) ∙ law in cc)
    by (Some next) e =
        let same : moved_turn (versions_forgotten x.method_of) next ≡ record { after = u.after; changes = Unwound ∷ [] } =
        same_Some _ _ (sym (ap (option_map (moved_turn (versions_forgotten x.method_of))) e) ∙ law) in
        record { after = next.after; next = e ∙ ap (λ changes. Some (record { after = next.after; changes = changes })) (ap (λ (a : Turn). a.changes) same) }

  awaits-there : (todo : Todo) (s : State) → IsPlaced norm s → Awaits w mid todo s → Awaits w t todo (original_of x s)
  awaits-there Attempt s placed a = return-same s.ending s.stack ∙ a
  awaits-there Moves s placed a = unwinds-there s placed a

  loaded-there : (todo : Todo) (s : State) → IsPlaced norm s → NeedsNoLoad w mid todo s → NeedsNoLoad w t todo (original_of x s)
  loaded-there Attempt s placed a = loads-same norm w (versions_forgotten x.method_of) mid t mid-original s placed ∙ a
  loaded-there Moves s placed a = tt

  loaded-here : (todo : Todo) (s : State) → IsPlaced norm s → NeedsNoLoad w t todo (original_of x s) → NeedsNoLoad w mid todo s
  loaded-here Attempt s placed a = sym (loads-same norm w (versions_forgotten x.method_of) mid t mid-original s placed) ∙ a
  loaded-here Moves s placed a = tt

  original-rest : (todo : Todo) (s : State) → IsPlaced norm s → rest w t todo (original_of x s) ≡ moved_turn (versions_forgotten x.method_of) (rest w mid todo s)
  original-rest todo s placed = rest-moves norm w (versions_forgotten x.method_of) mid t mid-own mid-original todo s placed

  -- ---- a pause between, as one of the machine

  module _ (turn : Turn) (passed : ℕ) (told : Bool) (live : List Held) (todo : Todo) (s : State) (inhand : InHand w t x turn passed told live todo s) where
    abbrev pub b : State
    b = inhand.between

    -- the pause of the original code under versions, and what it comes to
    module _ (p : Pause) (placed : IsPlaced norm p.state) (is : IsGoneOn w mid x.mark_of told passed todo b p) where
      left-same : (rest w mid todo b).changes ≡ drop passed turn.changes
      left-same = sym (ap (λ (a : Turn). a.changes) (original-rest todo b inhand.placed)) ∙ inhand.tells

      later-rest : rest w t is.later (original_of x p.state) ≡ moved_turn (versions_forgotten x.method_of) (rest w mid is.later p.state)
      later-rest = original-rest is.later p.state placed

      -- The same step is in hand.
      pub goes-in_hand : InHand w t x turn p.passed (is_end p.due) (helds x.mark_of (versioned_of x p.state).stack) is.later (versioned_of x p.state)
      goes-in_hand = record {
        between = p.state;
        versioned = refl;
        placed = placed;
        same = ap (λ (a : Turn). a.after) later-rest ∙ (ap (original_of x) (sym is.same) ∙ (sym (ap (λ (a : Turn). a.after) (original-rest todo b inhand.placed)) ∙ inhand.same));
        tells = ap (λ (a : Turn). a.changes) later-rest
            ∙ sym (ap (λ k. drop k turn.changes) is.count ∙ drop-passed passed is.changes (rest w mid is.later p.state).changes turn.changes (sym left-same ∙ is.tells));
        lives = refl;
        awaits = λ end. awaits-there is.later p.state placed (is.awaits end);
        loaded = loaded-there is.later p.state placed is.loaded;
      }

      -- It stops where the changes of the step say.
      pub goes-stops : stop_from marks told passed live (drop passed turn.changes) ≡ record { live = helds x.mark_of (versioned_of x p.state).stack; passed = p.passed; due = p.due }
      goes-stops =
          ap₂ (λ l cs. stop_from marks told passed l cs)
          (inhand.lives ∙ (ap (λ (y : State). helds x.mark_of y.stack) inhand.versioned ∙ held-same x.mark_of x.homes b.stack)) (sym left-same)
          ∙ (is.stops ∙ ap (λ l. record { live = l; passed = p.passed; due = p.due }) (sym (held-same x.mark_of x.homes p.state.stack)))

      -- Where nothing is due, it stands for the state after the step.
      pub goes-ends : p.due ≡ Nothing → turn.after ≡ original_of x p.state
      goes-ends nothing =
          sym inhand.same
          ∙ (ap (λ (a : Turn). a.after) (original-rest todo b inhand.placed)
          ∙ (ap (original_of x) is.same ∙ ap (λ (a : Turn). original_of x a.after) (is.ends nothing)))

-- ---- over the listing in force

module _ (w : World) (t : Listing) (x : Versioned) (own : IsMovedListing x.norm (at_homes x.norm) t t) (current : ℕ → ℕ) (u : Listing) (is : IsOfVersions x.norm x.method_of current x.homes t u)
    (only : EndsByReturn w) (turn : Turn) (passed : ℕ) (told : Bool) (live : List Held) where
  abbrev of_versions : Listing
  of_versions = listing_named x.method_of current t

  abbrev placing : ℕ → ℕ → ℕ
  placing = norm_by x.method_of x.norm

  its-own : IsMovedListing placing (at_homes placing) of_versions of_versions
  its-own = named-own x.norm w t own x.method_of current

  -- the same of the machine's pause, as that of the original code under versions
  as-gone : (todo : Todo) (s : State) (inhand : InHand w t x turn passed told live todo s) (p q : Pause) → q ≡ moved_pause (at_homes x.homes) p → IsPlaced placing p.state
      → IsGoneOn w of_versions x.mark_of told passed todo inhand.between p → GoesOn w t x current turn passed told live q
  as-gone todo s inhand p q e placed gone = subst (GoesOn w t x current turn passed told live) (sym e) (record {
    later = gone.later;
    hand = goes-in_hand w t x own current is.begins turn passed told live todo s inhand p placed gone;
    stops = goes-stops w t x own current is.begins turn passed told live todo s inhand p placed gone;
    later_is = gone.later_is;
    ends = λ nothing. record {
      between = p.state;
      versioned_is = refl;
      original_is = goes-ends w t x own current is.begins turn passed told live todo s inhand p placed gone nothing;
      at_places = placed;
    };
  })

  pub attempt-goes : (s : State) → InHand w t x turn passed told live Attempt s → GoesOn w t x current turn passed told live (step_pause w u x.mark_of told passed s)
  attempt-goes s inhand =
      let b : State = inhand.between in
      let paused_there = step-paused w of_versions x.mark_of only told passed b
      (λ yes. sym (return-same w t x own current is.begins b.ending b.stack) ∙ inhand.awaits yes)
      (loaded-here w t x own current is.begins Attempt b inhand.placed inhand.loaded) in
      as-gone Attempt s inhand (step_pause w of_versions x.mark_of told passed b) (step_pause w u x.mark_of told passed s)
      (ap (step_pause w u x.mark_of told passed) inhand.versioned
      ∙ step_pause-moves placing w of_versions its-own x.mark_of (at_homes x.homes) u is.agrees (λ version. refl) told passed b inhand.placed)
      (step_pause-placed placing w of_versions its-own x.mark_of told passed b inhand.placed)
      (record {
        later = paused_there.todo;
        changes = paused_there.changes;
        same = paused_there.part.same;
        tells = paused_there.part.tells;
        count = paused_there.count;
        stops = paused_there.stops;
        ends = paused_there.ends;
        awaits = paused_there.awaits;
        loaded = paused_there.loaded;
        later_is = paused_there.later;
      })

-- the same where moves alone are left
module _ (w : World) (t : Listing) (x : Versioned) (own : IsMovedListing x.norm (at_homes x.norm) t t) (current : ℕ → ℕ) (u : Listing) (is : IsOfVersions x.norm x.method_of current x.homes t u)
    (only : EndsByReturn w) (turn : Turn) (passed : ℕ) (live : List Held) where
  pub moves-go : (s : State) → InHand w t x turn passed false live Moves s → GoesOn w t x current turn passed false live (step_paused w u x.mark_of passed s)
  moves-go s inhand =
      let b : State = inhand.between in
      let mid : Listing = listing_named x.method_of current t in
      let places : ℕ → ℕ → ℕ = norm_by x.method_of x.norm in
      let mid_own = named-own x.norm w t own x.method_of current in
      let paused_there = paused-is w mid x.mark_of passed b in
      as-gone w t x own current u is only turn passed false live Moves s inhand (step_paused w mid x.mark_of passed b) (step_paused w u x.mark_of passed s)
      (ap (step_paused w u x.mark_of passed) inhand.versioned
      ∙ paused-moves places w mid mid_own x.mark_of (at_homes x.homes) u is.agrees (λ version. refl) passed b inhand.placed)
      (paused-placed places w mid mid_own x.mark_of passed b inhand.placed)
      (record {
        later = Moves;
        changes = paused_there.changes;
        same = paused_there.part.same;
        tells = paused_there.part.tells;
        count = paused_there.count;
        stops = paused_there.stops;
        ends = λ nothing. nothing-left w mid (step_paused w mid x.mark_of passed b).state (paused_there.ends nothing);
        awaits = paused_there.unwinds;
        loaded = tt;
        later_is = λ other. sym paused_there.later;
      })

  -- behind the event of an unwinding: `unwound` is the state without the frame
  pub unwound-goes : (s unwound : State) → InHand w t x turn passed true live Moves s → move w u s ≡ Some (record { after = unwound; changes = Unwound ∷ [] })
      → GoesOn w t x current turn passed true live (step_paused w u x.mark_of (suc passed) unwound)
  unwound-goes s unwound inhand e =
      let b : State = inhand.between in
      let mid : Listing = listing_named x.method_of current t in
      let places : ℕ → ℕ → ℕ = norm_by x.method_of x.norm in
      let mid_own = named-own x.norm w t own x.method_of current in
      let next = unwinds-here w t x own current is.begins b inhand.placed (inhand.awaits refl) in
      let there : State = next.after in
      let placed : IsPlaced places there = next-placed places w mid mid_own b (record { after = there; changes = Unwound ∷ [] }) inhand.placed next.next in
      let same : unwound ≡ versioned_of x there =
      ap (λ (a : Turn). a.after) (same_Some (record { after = unwound; changes = Unwound ∷ [] }) (record { after = versioned_of x there; changes = Unwound ∷ [] })
      (sym e ∙ (ap (move w u) inhand.versioned
      ∙ (move-moves w (at_homes x.homes) places mid u is.agrees b (placed-places places b.stack inhand.placed)
      ∙ ap (option_map (moved_turn (at_homes x.homes))) next.next)))) in
      let paused_there = unwound-paused w mid x.mark_of passed b there next.next in
      as-gone w t x own current u is only turn passed true live Moves s inhand (step_paused w mid x.mark_of (suc passed) there) (step_paused w u x.mark_of (suc passed) unwound)
      (ap (step_paused w u x.mark_of (suc passed)) same
      ∙ paused-moves places w mid mid_own x.mark_of (at_homes x.homes) u is.agrees (λ version. refl) (suc passed) there placed)
      (paused-placed places w mid mid_own x.mark_of (suc passed) there placed)
      (record {
        later = Moves;
        changes = paused_there.changes;
        same = paused_there.same;
        tells = paused_there.tells;
        count = paused_there.count;
        stops = paused_there.stops;
        ends = λ nothing. nothing-left w mid (step_paused w mid x.mark_of (suc passed) there).state (paused_there.ends nothing);
        awaits = paused_there.unwinds;
        loaded = tt;
        later_is = λ other. sym paused_there.later;
      })
