-- Reading items one after the other, as a loop does.
use Rattle.std.proofs.Common.{◌≡◌, ◌≢◌, ℕ, suc, ◌-◌, ◌+◌, ◌≤◌, ◌<◌, List, [], ◌∷◌, ◌++◌, Ok, Err, refl, sym, ap, ◌∙◌, append_assoc, arith}
use Rattle.std.proofs.lemmas.List.{append-nil}
use Rattle.byte_formats.specs.Reading.{◌>>=◌, Read, many_at, with_front}

-- What is made of the items that were read before and of those that are still read. It takes up
-- items one by one.
module _ {E A F B : Type 0} (item : List ℕ → Read E A) (with : F → Read E (List A) → Read E B)
    (more : F → A → F)
    (takes_up : (front : F) (x : A) (read : Read E (List A))
    → with front (read >>= λ others. Ok (x ∷ others.0, others.1)) ≡ with (more front x) read)
    (fails : (front : F) (e : E) → with front (Err e) ≡ Err e) where
  with-many_at : (front : F) (n : ℕ) (bytes : List ℕ) (x : A) (after : List ℕ)
      → item bytes ≡ Ok (x, after)
      → with front (many_at item (suc n) bytes) ≡ with (more front x) (many_at item n after)
  unfolding many_at
  with-many_at front n bytes x after h = rw h (takes_up front x (many_at item n after))

  pub goes_on : (front : F) (count i : ℕ) (bytes : List ℕ) (x : A) (after : List ℕ)
      → (total : Read E B) → i < count → item bytes ≡ Ok (x, after)
      → with front (many_at item (count - i) bytes) ≡ total
      → with (more front x) (many_at item (count - (i + 1)) after) ≡ total
  goes_on front count i bytes x after total lt h so_far =
      let k : count - i ≡ suc (count - (i + 1)) = omega arith in
      let one : with front (many_at item (count - i) bytes)
      ≡ with (more front x) (many_at item (count - (i + 1)) after) =
      rw k (with-many_at front (count - (i + 1)) bytes x after h) in
      sym one ∙ so_far

  pub ends : (want e : E) (front : F) (count i : ℕ) (bytes : List ℕ) (total : Read E B)
      → i < count → (e ≢ want → item bytes ≡ Err e)
      → with front (many_at item (count - i) bytes) ≡ total → e ≢ want → total ≡ Err e
  unfolding many_at
  ends want e front count i bytes total lt failed so_far fault =
      let k : count - i ≡ suc (count - (i + 1)) = omega arith in
      let one : with front (many_at item (count - i) bytes) ≡ Err e =
      rw (k, failed fault) (fails front e) in
      sym so_far ∙ one

-- ---- one list

pub with_front-cons : {E A : Type 0} (front : List A) (x : A) (read : Read E (List A))
    → with_front front (read >>= λ others. Ok (x ∷ others.0, others.1))
    ≡ with_front (front ++ x ∷ []) read
with_front-cons front x (Ok others) = ap (λ (xs : List _). Ok (xs, others.1)) (simp append_assoc)
with_front-cons front x (Err e) = refl

abbrev pub one_more : {A : Type 0} → List A → A → List A
one_more front x = front ++ x ∷ []

pub with_front-fails : {E A : Type 0} (front : List A) (e : E)
    → with_front {A = A} front (Err e) ≡ Err e
with_front-fails front e = refl

module _ {E A : Type 0} (item : List ℕ → Read E A) where
  pub list_goes_on : (front : List A) (count i : ℕ) (bytes : List ℕ) (x : A) (after : List ℕ)
      → (total : Read E (List A)) → i < count → item bytes ≡ Ok (x, after)
      → with_front front (many_at item (count - i) bytes) ≡ total
      → with_front (front ++ x ∷ []) (many_at item (count - (i + 1)) after) ≡ total
  list_goes_on = goes_on item with_front one_more with_front-cons with_front-fails

  pub list_ends : (want e : E) (front : List A) (count i : ℕ) (bytes : List ℕ)
      → (total : Read E (List A)) → i < count → (e ≢ want → item bytes ≡ Err e)
      → with_front front (many_at item (count - i) bytes) ≡ total → e ≢ want → total ≡ Err e
  list_ends = ends item with_front one_more with_front-cons with_front-fails

  pub list_done : (front : List A) (count i : ℕ) (bytes : List ℕ) (total : Read E (List A))
      → count ≤ i → with_front front (many_at item (count - i) bytes) ≡ total
      → total ≡ Ok (front, bytes)
  unfolding many_at
  list_done front count i bytes total le so_far =
      let k : count - i ≡ 0 = omega arith in
      let one : with_front front (many_at item (count - i) bytes) ≡ Ok (front, bytes) =
      rw k (ap (λ (xs : List A). Ok (xs, bytes)) (append-nil front)) in
      sym so_far ∙ one
