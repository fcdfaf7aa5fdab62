-- Places of classes in load order.
use Rattle.std.proofs.Common.{◌≡◌, ℕ, zero, suc, ◌<◌, Bool, true, false, List, [], ◌∷◌, ◌++◌, length, take, ap, sym, refl, ◌∙◌, inl, inr}
use Rattle.std.specs.Prelude.{Option, Some, None, is_some, replicate, slice_get, slice_set, ◌==◌, ◌||◌, ◌⊎◌, if◌then◌else◌}
use Rattle.std.specs.Option.{option_map}
use Rattle.std.proofs.lemmas.Bool.{false≢true, or_left, or_right, eqb-true}
use Rattle.std.proofs.lemmas.Option.{none-some, same_Some}
use Rattle.jf_bytes.proofs.Lists.{slice_get-front, slice_get-set_same}
use Rattle.jf_bytes.proofs.Tests.{equals_itself}
use Rattle.jvm_model.specs.Classes.Load.{is_among}
use Rattle.possible_callees.specs.Ranks.{AreDistinct, IsRanked, rank_of}
use Rattle.possible_callees.specs.Tables.{IsPadded}
use Rattle.possible_callees.proofs.Numbers.TableLemmas.{set-other}

pub ranked-nothing : (ranks : List ℕ) → IsRanked ranks []
ranked-nothing ranks rank class e = absurd (none-some class e)

pub distinct : (ranks classes : List ℕ) → IsRanked ranks classes → AreDistinct classes
distinct ranks classes is i j class first second = same_Some i j (sym (is i class first) ∙ is j class second)

-- a class stands at its first place
pub rank-there : (class : ℕ) (classes : List ℕ) (rank : ℕ) → rank_of class classes ≡ Some rank → slice_get classes rank ≡ Some class
rank-there class [] rank e = absurd (none-some rank e)
rank-there class (first ∷ rest) rank e = by (class == first) refl e (rank-there class rest)
  where
    later : (o : Option ℕ) → rank_of class rest ≡ o → ((k : ℕ) → rank_of class rest ≡ Some k → slice_get rest k ≡ Some class) → option_map suc o ≡ Some rank
        → slice_get (first ∷ rest) rank ≡ Some class
    later None is there e = absurd (none-some rank e)
    later (Some k) is there e = ap (slice_get (first ∷ rest)) (sym (same_Some (suc k) rank e)) ∙ there k is

    by : (b : Bool) → (class == first) ≡ b → (if b then Some 0 else option_map suc (rank_of class rest)) ≡ Some rank
        → ((k : ℕ) → rank_of class rest ≡ Some k → slice_get rest k ≡ Some class) → slice_get (first ∷ rest) rank ≡ Some class
    by true same e there = ap (slice_get (first ∷ rest)) (sym (same_Some 0 rank e)) ∙ ap (λ c. Some c) (sym (eqb-true class first same))
    by false other e there = later (rank_of class rest) refl there e

-- what stands somewhere has a first place
pub rank-some : (class : ℕ) (classes : List ℕ) (k : ℕ) → slice_get classes k ≡ Some class → is_some (rank_of class classes) ≡ true
rank-some class [] k e = absurd (none-some class e)
rank-some class (first ∷ rest) k e = by (class == first) refl k e (rank-some class rest)
  where
    mapped : (o : Option ℕ) → is_some o ≡ true → is_some (option_map suc o) ≡ true
    mapped None h = h
    mapped (Some j) h = refl

    by : (b : Bool) → (class == first) ≡ b → (k : ℕ) → slice_get (first ∷ rest) k ≡ Some class
        → ((j : ℕ) → slice_get rest j ≡ Some class → is_some (rank_of class rest) ≡ true) → is_some (if b then Some 0 else option_map suc (rank_of class rest)) ≡ true
    by true same k e later = refl
    by false other zero e later = absurd (false≢true (sym other ∙ (ap (λ c. class == c) (same_Some first class e) ∙ equals_itself class)))
    by false other (suc k) e later = mapped (rank_of class rest) (later k e)

-- of classes none of which stands there twice the first place is the one place
pub rank-is : (class : ℕ) (classes : List ℕ) (k : ℕ) → AreDistinct classes → slice_get classes k ≡ Some class → rank_of class classes ≡ Some k
rank-is class classes k alone e = by (rank_of class classes) refl (rank-some class classes k e)
  where
    by : (o : Option ℕ) → rank_of class classes ≡ o → is_some o ≡ true → rank_of class classes ≡ Some k
    by None is h = absurd (false≢true h)
    by (Some j) is h = is ∙ ap (λ i. Some i) (alone j k class (rank-there class classes j is) e)

pub among-rank : (class : ℕ) (classes : List ℕ) → is_some (rank_of class classes) ≡ is_among class classes
among-rank class [] = refl
among-rank class (first ∷ rest) = by (class == first) (among-rank class rest)
  where
    mapped : (o : Option ℕ) → is_some (option_map suc o) ≡ is_some o
    mapped None = refl
    mapped (Some j) = refl

    by : (b : Bool) → is_some (rank_of class rest) ≡ is_among class rest → is_some (if b then Some 0 else option_map suc (rank_of class rest)) ≡ (b || is_among class rest)
    by true later = refl
    by false later = mapped (rank_of class rest) ∙ later

pub not-that : (a b : ℕ) → (a == b) ≡ false → Some a ≡ Some b → ⊥
not-that a b other e = false≢true (sym other ∙ (ap (λ k. k == b) (same_Some a b e) ∙ equals_itself b))

module _ (ranks classes : List ℕ) (is : IsRanked ranks classes) (class : ℕ) where
  -- a class without a place is none of them
  pub no-rank : slice_get ranks class ≡ None → rank_of class classes ≡ None
  no-rank none = by (rank_of class classes) refl
    where
      by : (o : Option ℕ) → rank_of class classes ≡ o → rank_of class classes ≡ None
      by None e = e
      by (Some k) e = absurd (none-some k (sym none ∙ is k class (rank-there class classes k e)))

  -- nor is one at whose place another one stands
  pub other-rank : (k : ℕ) (o : Option ℕ) → slice_get ranks class ≡ Some k → slice_get classes k ≡ o → (o ≡ Some class → ⊥) → rank_of class classes ≡ None
  other-rank k o kept there other = by (rank_of class classes) refl
    where
      by : (found : Option ℕ) → rank_of class classes ≡ found → rank_of class classes ≡ None
      by None e = e
      by (Some j) e =
          let here = rank-there class classes j e in
          let same : j ≡ k = same_Some j k (sym (is j class here) ∙ kept) in
          absurd (other (sym there ∙ (ap (slice_get classes) (sym same) ∙ here)))

  pub this-rank : (k : ℕ) → slice_get classes k ≡ Some class → rank_of class classes ≡ Some k
  this-rank k there = rank-is class classes k (distinct ranks classes is) there

pub ranked-padded : (before after classes : List ℕ) → IsPadded 0 before after → IsRanked before classes → IsRanked after classes
ranked-padded before after classes padded is rank class e =
    ap (λ l. slice_get l class) padded.is ∙ slice_get-front before (replicate padded.count 0) class rank (is rank class e)

-- what stands behind one more
get-pushed : (xs : List ℕ) (x k y : ℕ) → slice_get (xs ++ x ∷ []) k ≡ Some y → (slice_get xs k ≡ Some y) ⊎ ((k ≡ length xs) × (y ≡ x))
get-pushed [] x zero y e = inr (refl, sym (same_Some x y e))
get-pushed [] x (suc k) y e = absurd (none-some y e)
get-pushed (z ∷ xs) x zero y e = inl e
get-pushed (z ∷ xs) x (suc k) y e =
    elim (get-pushed xs x k y e) [
      | inl h ↦ inl h
      | inr h ↦ inr (ap suc h.0, h.1)
    ]

among-get : (xs : List ℕ) (k x : ℕ) → slice_get xs k ≡ Some x → is_among x xs ≡ true
among-get [] k x e = absurd (none-some x e)
among-get (y ∷ xs) zero x e = or_left (x == y) (is_among x xs) (ap (λ z. x == z) (same_Some y x e) ∙ equals_itself x)
among-get (y ∷ xs) (suc k) x e = or_right (x == y) (is_among x xs) (among-get xs k x e)

pub ranked-more : (ranks classes : List ℕ) (class : ℕ) → IsRanked ranks classes → is_among class classes ≡ false → class < length ranks
    → IsRanked (slice_set ranks class (length classes)) (classes ++ class ∷ [])
ranked-more ranks classes class is fresh within rank other e =
    elim (get-pushed classes class rank other e) [
      | inl old ↦ set-other ranks class other (length classes) (differs old (other == class) refl) ∙ is rank other old
      | inr new ↦
          ap (slice_get (slice_set ranks class (length classes))) new.1
          ∙ (slice_get-set_same ranks class (length classes) within ∙ ap (λ n. Some n) (sym new.0))
    ]
  where
    differs : slice_get classes rank ≡ Some other → (b : Bool) → (other == class) ≡ b → (other == class) ≡ false
    differs old false h = h
    differs old true h =
        absurd (false≢true (sym fresh ∙ (ap (λ c. is_among c classes) (sym (eqb-true other class h)) ∙ among-get classes rank other old)))

get-taken : (n : ℕ) (xs : List ℕ) (k x : ℕ) → slice_get (take n xs) k ≡ Some x → slice_get xs k ≡ Some x
get-taken zero xs k x e = absurd (none-some x e)
get-taken (suc n) [] k x e = e
get-taken (suc n) (y ∷ xs) zero x e = e
get-taken (suc n) (y ∷ xs) (suc k) x e = get-taken n xs k x e

pub ranked-fewer : (ranks classes : List ℕ) (n : ℕ) → IsRanked ranks classes → IsRanked ranks (take n classes)
ranked-fewer ranks classes n is rank class e = is rank class (get-taken n classes rank class e)

-- ---- flags

-- one item more behind it
append-assoc : {A : Type 0} (xs ys zs : List A) → (xs ++ ys) ++ zs ≡ xs ++ (ys ++ zs)
append-assoc [] ys zs = refl
append-assoc (x ∷ xs) ys zs = ap (λ l. x ∷ l) (append-assoc xs ys zs)

replicate-more : {A : Type 0} (n : ℕ) (x : A) → replicate n x ++ x ∷ [] ≡ replicate (suc n) x
replicate-more zero x = refl
replicate-more (suc n) x = ap (λ l. x ∷ l) (replicate-more n x)

pub padded-more : {A : Type 0} (item : A) (before after next : List A) → IsPadded item before after → next ≡ after ++ item ∷ [] → IsPadded item before next
padded-more item before after next padded is = record {
  count = suc padded.count;
  is = is ∙ (ap (λ l. l ++ item ∷ []) padded.is ∙ (append-assoc before (replicate padded.count item) (item ∷ []) ∙ ap (λ l. before ++ l) (replicate-more padded.count item)));
}
