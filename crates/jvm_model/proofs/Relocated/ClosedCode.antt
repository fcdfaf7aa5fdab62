-- Closed code agrees with itself, so every state of its run is placed.
use Rattle.std.proofs.Common.{◌≡◌, ℕ, ◌<◌, map, Bool, true, false, List, [], ◌∷◌, Option, Some, None, if◌then◌else◌, refl, sym, ap, subst, ◌∙◌}
use Rattle.std.specs.List.{AllByRecursion}
use Rattle.std.specs.Option.{IfSome, option_map, option_and_then}
use Rattle.jvm_model.specs.Basis.Data.{Instruction, Catcher, Listing, World}
use Rattle.jvm_model.specs.Running.Run.{turn_in}
use Rattle.jvm_model.specs.Codes.Moved.{moved_instruction, moved_catcher, IsPlace, HaveBounds, IsMovedListing, at_homes, IsPlaced}
use Rattle.jvm_model.specs.Codes.Closed.{IsWithin, IsClosed, norm_of, laid_out}
use Rattle.jvm_model.proofs.Relocated.StepMoves.{turn_in-placed}

module _ (is_place : ℕ → ℕ → Bool) where
  -- ---- places

  place-fixed : (v at : ℕ) → is_place v at ≡ true → norm_of is_place v at ≡ at
  place-fixed v at e = ap (λ b. if b then at else 0) e

  -- what is left as it is, is a place
  fixed-place : (v at : ℕ) (b : Bool) → is_place v 0 ≡ true → is_place v at ≡ b → (if b then at else 0) ≡ at → is_place v at ≡ true
  fixed-place v at true start e same = e
  fixed-place v at false start e same = ap (is_place v) (sym same) ∙ start

  next-fixed : (v : ℕ) (next : Option ℕ) → IfSome next (λ k. is_place v k ≡ true) → option_map (norm_of is_place v) next ≡ next
  next-fixed v None is = refl
  next-fixed v (Some k) is = ap Some (place-fixed v k is)

  targets-fixed : (v : ℕ) (ks : List ℕ) → AllByRecursion (λ k. is_place v k ≡ true) ks → map (norm_of is_place v) ks ≡ ks
  targets-fixed v [] all = refl
  targets-fixed v (k ∷ ks) all = ap (λ x. x ∷ map (norm_of is_place v) ks) (place-fixed v k all.0) ∙ ap (λ xs. k ∷ xs) (targets-fixed v ks all.1)

  -- ---- instructions

  instruction-fixed : (v : ℕ) (i : Instruction) → IfSome i.next (λ k. is_place v k ≡ true) → AllByRecursion (λ k. is_place v k ≡ true) i.targets
      → moved_instruction (norm_of is_place v) i ≡ i
  instruction-fixed v i next targets =
      ap (λ (n : Option ℕ). record i { next = n; targets = map (norm_of is_place v) i.targets }) (next-fixed v i.next next)
      ∙ ap (λ (ks : List ℕ). record i { targets = ks }) (targets-fixed v i.targets targets)

  lines-fixed : (t : Listing) → IsClosed is_place t → (v at : ℕ) → is_place v at ≡ true → (found : Option Instruction) → t.at v at ≡ found
      → found ≡ option_map (moved_instruction (norm_of is_place v)) found
  lines-fixed t closed v at here None e = refl
  lines-fixed t closed v at here (Some i) e = ap Some (sym (instruction-fixed v i (closed.next v at i here e) (closed.targets v at i here e)))

  -- ---- handlers

  handlers-fixed : (v : ℕ) (hs : List Catcher) → AllByRecursion (IsWithin is_place v) hs → hs ≡ map (moved_catcher (norm_of is_place v)) hs
  handlers-fixed v [] all = refl
  handlers-fixed v (h ∷ hs) all =
      let n : ℕ → ℕ = norm_of is_place v in
      let there : moved_catcher n h ≡ h =
      ap (λ (k : ℕ). record h { start = k; finish = n h.finish; target = n h.target }) (place-fixed v h.start all.0.0)
      ∙ (ap (λ (k : ℕ). record h { finish = k; target = n h.target }) (place-fixed v h.finish all.0.1)
      ∙ ap (λ (k : ℕ). record h { target = k }) (place-fixed v h.target all.0.2)) in
      ap (λ (xs : List Catcher). h ∷ xs) (handlers-fixed v hs all.1) ∙ ap (λ (x : Catcher). x ∷ map (moved_catcher n) hs) (sym there)

  bounds-fixed : (v : ℕ) (hs : List Catcher) → AllByRecursion (IsWithin is_place v) hs → HaveBounds (norm_of is_place) v hs
  bounds-fixed v [] all = tt
  bounds-fixed v (h ∷ hs) all = (place-fixed v h.start all.0.0, place-fixed v h.finish all.0.1, bounds-fixed v hs all.1)

  -- ---- the listing

  closed-place : (t : Listing) → IsClosed is_place t → (v at : ℕ) → IsPlace (norm_of is_place) v at → is_place v at ≡ true
  closed-place t closed v at is = fixed-place v at (is_place v at) (closed.start v) refl is

  pub closed-agrees : (t : Listing) → IsClosed is_place t → IsMovedListing (norm_of is_place) (at_homes (norm_of is_place)) t t
  closed-agrees t closed =
      let n : ℕ → ℕ → ℕ = norm_of is_place in
      record {
        current = λ k. refl;
        first = λ v. sym (place-fixed v (t.first v) (closed.first v));
        lines = λ v at is. ap (t.at v) is ∙ lines-fixed t closed v at (closed-place t closed v at is) (t.at v at) refl;
        handlers = λ v. handlers-fixed v (t.handlers v) (closed.handlers v);
        bounds = λ v. bounds-fixed v (t.handlers v) (closed.handlers v);
        rises = λ v a b some here there less. subst (λ x. x < n v b) (sym here) (subst (λ y. a < y) (sym there) less);
      }

  -- frames stand at places, and return addresses are places, in every state of the run
  pub closed-placed : (w : World) (t : Listing) → IsClosed is_place t → (n : ℕ) → IsPlaced (norm_of is_place) (turn_in w t n).after
  closed-placed w t closed n = turn_in-placed (norm_of is_place) w t (closed-agrees t closed) n

  -- code laid out anew agrees with it, where homes rise over the places and are read backwards
  pub laid_out-agrees : (home : ℕ → ℕ → ℕ) (origin : ℕ → ℕ → Option ℕ) (t : Listing) → IsClosed is_place t
      → ((v at : ℕ) → is_place v at ≡ true → origin v (home v at) ≡ Some at)
      → ((v a b : ℕ) → is_place v a ≡ true → is_place v b ≡ true → a < b → home v a < home v b)
      → IsMovedListing (norm_of is_place) (record { version = λ v. v; home = home }) t (laid_out home origin t)
  laid_out-agrees home origin t closed back rises =
      let place : (v at : ℕ) → IsPlace (norm_of is_place) v at → is_place v at ≡ true = closed-place t closed in
      record {
        current = λ k. refl;
        first = λ v. refl;
        lines = λ v at is. ap (option_and_then (λ k. option_map (moved_instruction (home v)) (t.at v k))) (back v at (place v at is));
        handlers = λ v. refl;
        bounds = λ v. bounds-fixed v (t.handlers v) (closed.handlers v);
        rises = λ v a b some here there less. rises v a b (place v a here) (place v b there) less;
      }
