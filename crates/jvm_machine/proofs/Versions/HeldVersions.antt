-- No version is held needlessly: each is the one in which its method begins, or a live activation runs it.
use Rattle.std.proofs.Common.{◌≡◌, ℕ, suc, Bool, true, false, cond, List, [], ◌∷◌, ◌++◌, ◌<◌, length, map, Option, Some, None, refl, sym, ap, ap₂, subst, ◌∙◌, arith}
use Rattle.std.specs.Prelude.{IfNone, not, ◌==◌, ◌&&◌, ◌||◌, if◌then◌else◌}
use Rattle.std.specs.List.{list_any, range_with_len, slice_set}
use Rattle.std.specs.Option.{option_map}
use Rattle.std.proofs.lemmas.Bool.{eq-eqb, eqb-true, false≢true}
use Rattle.std.proofs.lemmas.List.Sums.{sum_by-cons}
use Rattle.std.proofs.lemmas.List.{length-set}
use Rattle.jf_bytes.proofs.Tests.{either}
use Rattle.frame_stack.specs.FrameLists.{PlacedFrame, pins_of}
use Rattle.method_versions.proofs.Adding.{set-at, set-other}
use Rattle.method_versions.specs.Tables.{current_in, held_besides, is_number, is_old, is_superseded_in}
use Rattle.jvm_model.specs.declared.state.Entry.{Entry}
use Rattle.jvm_model.specs.declared.state.State.{State}
use Rattle.prepared_code.specs.declared.initializations.Initialization.{Initialization}
use Rattle.prepared_code.specs.declared.parts.Parts.{Parts}
use Rattle.prepared_code.specs.Initializations.{above, beneath, initializing_entry, stack_of, state_of}
use Rattle.prepared_code.specs.Originals.{OriginalsView, setup_in}
use Rattle.prepared_code.specs.States.{active}
use Rattle.prepared_code.specs.Tables.{Adds, AreAllCurrent, AreOfMethods, IsAdded, Releases, Version, Versions, version_at}
use Rattle.jvm_model.specs.Running.Run.{starts_with, with_classes_loaded}
use Rattle.interpreter.specs.declared.turns.hands.Hand.{Hand}
use Rattle.prepared_code.specs.Versions.{Setup}
use Rattle.symbolic_references.specs.Runtimes.{RuntimeView}
use Rattle.jvm_machine.specs.Advances.{taken_state}
use Rattle.jvm_machine.specs.Machine.{IsTidy, Keeps, holds_stale, is_stale, state_seen, state_viewed}
use Rattle.interpreter.specs.Moves.Passing.{runs}
use Rattle.jvm_machine.specs.View.{View}

-- ---- what is seen then

any-none : (f : ℕ → Bool) (xs : List ℕ) → ((k : ℕ) → f k ≡ false) → list_any f xs ≡ false
any-none f [] each = refl
any-none f (x ∷ xs) each = ap₂ (λ a b. a || b) (each x) (any-none f xs each)

not-stale : (a b : Bool) → (a ≡ true → b ≡ true) → (a && not b) ≡ false
not-stale true b so = ap not (so refl)
not-stale false b so = refl

pub tidy-seen : (v : Versions) (stack : List Entry) → IsTidy v stack → holds_stale v stack ≡ false
tidy-seen v stack tidy =
    any-none (is_stale v stack) (range_with_len 0 (length v.slots)) (λ k. not-stale (is_superseded_in v.slots v.current k) (runs k stack) (tidy k))

-- no version is seen that is held needlessly
pub plain-view : (w : Setup) (hand : Hand) (started broken : Bool) (clock : ℕ) (s : State) → (broken ≡ false → IsTidy w.versions s.stack)
    → state_viewed w s started broken clock hand ≡ state_seen w s started broken clock hand
plain-view w hand started true clock s tidy = refl
plain-view w hand started false clock s tidy = ap (λ b. record (state_seen w s started false clock hand) { stale = b }) (tidy-seen w.versions s.stack (tidy refl))

-- what is seen is that
pub seen-is : {o : OriginalsView} {r : RuntimeView} {hand : Hand} {started broken : Bool} {clock : ℕ} {s : State} {v : View} (is : Keeps o r hand started broken clock s)
    → state_viewed (setup_in r o) s started broken clock hand ≡ v → state_seen (setup_in r o) s started broken clock hand ≡ v
seen-is {o} {r} {hand} {started} {broken} {clock} {s} is view = sym (plain-view (setup_in r o) hand started broken clock s is.tidy) ∙ view

pub never-stale : {o : OriginalsView} {r : RuntimeView} {hand : Hand} {started broken : Bool} {clock : ℕ} {s : State} {v : View} (is : Keeps o r hand started broken clock s)
    → state_viewed (setup_in r o) s started broken clock hand ≡ v → v.stale ≡ false
never-stale is view = sym (ap (λ (v : View). v.stale) (seen-is is view))

pub as-viewed : (w : Setup) (hand : Hand) (clock : ℕ) (s : State) (P : View → Type 0) → IsTidy w.versions s.stack → P (state_seen w s true false clock hand) → P (state_viewed w s true false clock hand)
as-viewed w hand clock s P tidy holds = subst P (sym (plain-view w hand true false clock s (λ whole. tidy))) holds

pub unless-some : {A : Type 0} (o : Option A) → ((a : A) → o ≡ Some a → ⊥) → (P : Type 0) → IfNone o P → P
unless-some None other P holds = holds
unless-some (Some a) other P holds = absurd (other a refl)

-- ---- nothing is superseded

pub tidy-current : (v : Versions) (stack : List Entry) → AreAllCurrent v → IsTidy v stack
tidy-current v stack current k is = absurd (false≢true (sym (current k) ∙ is))

-- no activation is live, so none is
pub tidy-empty : (v : Versions) (stack : List Entry) → IsTidy v [] → IsTidy v stack
tidy-empty v stack tidy k is = absurd (false≢true (tidy k is))

-- ---- what frames run, their activations run

runs-behind : (k : ℕ) (ms : List Initialization) (stack : List Entry) → runs k (map initializing_entry ms ++ stack) ≡ runs k stack
runs-behind k [] stack = refl
runs-behind k (m ∷ ms) stack = runs-behind k ms stack

-- a frame more in front
more-pins : (k : ℕ) (f : PlacedFrame) (fs : List PlacedFrame) → (pins_of k (f ∷ fs) == 0) ≡ false → (f.version == k) ≡ false → (pins_of k fs == 0) ≡ false
more-pins k f fs pinned other =
    let all = sum_by-cons (λ (g : PlacedFrame). cond (g.version == k) 1 0) f fs in
    let one : ℕ = 1 in
    let here : cond (f.version == k) one 0 ≡ 0 = ap (λ b. cond b one 0) other in
    let same : pins_of k fs ≡ pins_of k (f ∷ fs) = omega (arith, all, here) in
    ap (λ n. n == 0) same ∙ pinned

-- what frames run, their activations run
pub pinned-runs : (k : ℕ) (fs : List PlacedFrame) (ms : List Initialization) → (pins_of k fs == 0) ≡ false → runs k (stack_of (map active fs) ms) ≡ true
unfolding stack_of above beneath
pinned-runs k [] ms pinned = absurd (false≢true (sym pinned))
pinned-runs k (f ∷ fs) ms pinned =
    runs-behind k (above (suc (length (map active fs))) ms) (active f ∷ stack_of (map active fs) (beneath (suc (length (map active fs))) ms))
    ∙ either (f.version == k) (λ on. ap (λ b. b || runs k (stack_of (map active fs) (beneath (suc (length (map active fs))) ms))) on)
    (λ off.
    ap (λ b. b || runs k (stack_of (map active fs) (beneath (suc (length (map active fs))) ms))) off
    ∙ pinned-runs k fs (beneath (suc (length (map active fs))) ms) (more-pins k f fs pinned off))

-- ---- superseded versions are dropped

module _ (fs : List PlacedFrame) (v after : Versions) (released : Releases fs v after) where
  abbrev dropped : ℕ → Bool
  dropped k = is_superseded_in v.slots v.current k && pins_of k fs == 0

  same-now : (k : ℕ) → is_superseded_in after.slots after.current k ≡ is_old v.current k (option_map (λ (x : Version). x.method) (if dropped k then None else version_at v k))
  same-now k =
      ap (λ (ks : List ℕ). is_superseded_in after.slots ks k) released.current
      ∙ ap (λ (o : Option Version). is_old v.current k (option_map (λ (x : Version). x.method) o)) (released.held k)

  pinned-by : (k : ℕ) (a b : Bool) → is_superseded_in v.slots v.current k ≡ a → (pins_of k fs == 0) ≡ b
      → is_old v.current k (option_map (λ (x : Version). x.method) (if (a && b) then None else version_at v k)) ≡ true → b ≡ false
  pinned-by k true true old none is = absurd (false≢true is)
  pinned-by k true false old none is = refl
  pinned-by k false b old none is = absurd (false≢true (sym old ∙ is))

  pub released-pinned : (k : ℕ) → is_superseded_in after.slots after.current k ≡ true → (pins_of k fs == 0) ≡ false
  released-pinned k is = pinned-by k (is_superseded_in v.slots v.current k) (pins_of k fs == 0) refl refl (sym (same-now k) ∙ is)

pub tidy-released : (ms : List Initialization) (p : Parts) (v after : Versions) → Releases p.frames.frames v after → IsTidy after (state_of ms p).stack
tidy-released ms p v after released k is = pinned-runs k p.frames.frames ms (released-pinned p.frames.frames v after released k is)

-- ---- versions more

-- which of a method's version it is
by-eq : (i m : ℕ) (b : Bool) → (i == m) ≡ b → {A : Type 0} → (i ≡ m → A) → ((i ≡ m → ⊥) → A) → A
by-eq i m true is same other = same (eqb-true i m is)
by-eq i m false is same other = other (λ e. absurd (false≢true (sym is ∙ eq-eqb i m e)))

module _ (stack : List Entry) (fs : List PlacedFrame) (own : (k : ℕ) → (pins_of k fs == 0) ≡ false → runs k stack ≡ true) where
  module _ (number : ℕ) (x : Version) (old new : Versions) (added : IsAdded fs number x old new) (within : x.method < length old.current) (tidy : IsTidy old stack) (k : ℕ) where
    former : Option ℕ
    former = current_in old.current x.method

    is-now : is_superseded_in new.slots new.current k
        ≡ is_old (slice_set old.current x.method number) k (option_map (λ (y : Version). y.method) (if k == number then Some x else held_besides fs (current_in old.current x.method) k (version_at old k)))
    is-now =
        ap (λ (ks : List ℕ). is_superseded_in new.slots ks k) added.current
        ∙ ap (λ (o : Option Version). is_old (slice_set old.current x.method number) k (option_map (λ (y : Version). y.method) o)) (added.held k)

    -- the new one is not superseded
    new-is : (k ≡ number) → is_old (slice_set old.current x.method number) k (Some x.method) ≡ true → runs k stack ≡ true
    new-is same is =
        absurd (false≢true (sym (ap (λ o. not (is_number k o)) (set-at old.current x.method number within) ∙ ap not (eq-eqb number k (sym same))) ∙ is))

    -- the former one is run by a frame
    former-is : (m : ℕ) (b : Bool) → (pins_of k fs == 0) ≡ b → is_number k (current_in old.current x.method) ≡ true
        → is_old (slice_set old.current x.method number) k (option_map (λ (y : Version). y.method) (if is_number k (current_in old.current x.method) && b then None else version_at old k)) ≡ true → runs k stack ≡ true
    former-is m true unpinned old_is is =
        absurd (false≢true (sym (ap (λ c. is_old (slice_set old.current x.method number) k (option_map (λ (y : Version). y.method) (if c && true then None else version_at old k))) old_is) ∙ is))
    former-is m false pinned old_is is = own k pinned

    -- another one was superseded before
    other-is : (o : Option Version) → is_number k (current_in old.current x.method) ≡ false → is_old (slice_set old.current x.method number) k (option_map (λ (y : Version). y.method) o) ≡ true
        → is_old old.current k (option_map (λ (y : Version). y.method) o) ≡ true
    other-is None apart is = is
    other-is (Some y) apart is =
        by-eq y.method x.method (y.method == x.method) refl
        (λ same. ap (λ m. not (is_number k (current_in old.current m))) same ∙ ap not apart)
        (λ unlike. ap (λ c. not (is_number k c)) (sym (set-other old.current x.method y.method number unlike)) ∙ is)

    besides : (c : Bool) → is_number k (current_in old.current x.method) ≡ c
        → is_old (slice_set old.current x.method number) k (option_map (λ (y : Version). y.method) (held_besides fs (current_in old.current x.method) k (version_at old k))) ≡ true → runs k stack ≡ true
    besides true old_is is = former-is 0 (pins_of k fs == 0) refl old_is is
    besides false apart is =
        tidy k (other-is (version_at old k) apart
        (ap (λ c. is_old (slice_set old.current x.method number) k (option_map (λ (y : Version). y.method) (if c && pins_of k fs == 0 then None else version_at old k))) (sym apart) ∙ is))

    added-at : (b : Bool) → (k == number) ≡ b
        → is_old (slice_set old.current x.method number) k (option_map (λ (y : Version). y.method) (if b then Some x else held_besides fs (current_in old.current x.method) k (version_at old k))) ≡ true
        → runs k stack ≡ true
    added-at true same is = new-is (eqb-true k number same) is
    added-at false other is = besides (is_number k (current_in old.current x.method)) refl is

    -- what is superseded then was superseded before, or it is the former one, which a frame runs
    added-one : is_superseded_in new.slots new.current k ≡ true → runs k stack ≡ true
    added-one is = added-at (k == number) refl (sym is-now ∙ is)

  pub tidy-added : (more : List Version) (old new : Versions) → AreOfMethods (length old.current) more → Adds fs more old new → IsTidy old stack → IsTidy new stack
  tidy-added [] old new each adds tidy = subst (λ (v : Versions). IsTidy v stack) (sym adds) tidy
  tidy-added (x ∷ more) old new each adds tidy =
      let count : length adds.1.current ≡ length old.current = ap length adds.2.current ∙ length-set old.current x.method adds.0 in
      tidy-added more adds.1 new (subst (λ n. AreOfMethods n more) (sym count) each.1) adds.3 (added-one adds.0 x old adds.1 adds.2 each.0 tidy)

-- ---- what is taken up

pub tidy-taken : (w w1 : Setup) (resting started : Bool) (s s1 : State) → w1 ≡ w → s1 ≡ taken_state w.world resting started s → (started ≡ false → s.stack ≡ [])
    → IsTidy w.versions s.stack → IsTidy w1.versions s1.stack
tidy-taken w w1 resting started s s1 same there first tidy =
    subst (λ (u : Setup). IsTidy u.versions s1.stack) (sym same)
    (subst (λ (z : State). IsTidy w.versions z.stack) (sym there) (by resting started first))
  where
    by : (resting started : Bool) → (started ≡ false → s.stack ≡ []) → IsTidy w.versions (taken_state w.world resting started s).stack
    by true false first = tidy-empty w.versions (starts_with w.world).stack (subst (IsTidy w.versions) (first refl) tidy)
    by true true first = tidy
    by false started first = tidy

-- loaded classes are not seen by it
pub tidy-loaded : (w w1 : Setup) (classes : List ℕ) (s s1 : State) → w1 ≡ w → s1 ≡ with_classes_loaded classes s → IsTidy w.versions s.stack → IsTidy w1.versions s1.stack
tidy-loaded w w1 classes s s1 same there tidy =
    subst (λ (u : Setup). IsTidy u.versions s1.stack) (sym same)
    (subst (λ (z : State). IsTidy w.versions z.stack) (sym there) (by classes))
  where
    by : (classes : List ℕ) → IsTidy w.versions (with_classes_loaded classes s).stack
    by [] = tidy
    by (c ∷ more) = tidy
