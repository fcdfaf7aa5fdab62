-- Reading the entries of a constant pool one after the other, as a loop does.
use Rattle.std.proofs.Common.{◌≡◌, ◌≢◌, ℕ, zero, suc, ◌-◌, ◌+◌, ◌≤◌, ◌<◌, Bool, true, false, List, [], ◌∷◌, ◌++◌, length, Ok, Err, refl, sym, ap, ◌∙◌, append_assoc, arith, length-append, ltb, inl, inr, ◌⊎◌}
use Rattle.std.proofs.lemmas.List.{append-nil}
use Rattle.std.proofs.lemmas.Bool.{ltb-true, ltb-false}
use Rattle.const_pool.specs.declared.pool.Const.{Const}
use Rattle.const_pool.specs.declared.pool.Const.TheVariants.{Gap}
use Rattle.const_pool.specs.Pool.{is_wide}
use Rattle.byte_formats.proofs.Many.{with_front-cons}
use Rattle.class_reader.specs.declared.error.ReadError.{ReadError}
use Rattle.class_reader.specs.declared.error.ReadError.TheVariants.{NoMemory}
use Rattle.class_reader.specs.Reading.{◌>>=◌, Read, with_front, entry_gapped, entry_at, entries_at}

with_front-both : (front : List Const) (c : Const) (read : Read (List Const)) → with_front front (read >>= λ cs. Ok (c ∷ Gap ∷ cs.0, cs.1)) ≡ with_front (front ++ c ∷ Gap ∷ []) read
with_front-both front c (Ok cs) = ap (λ (xs : List Const). Ok (xs, cs.1)) (simp append_assoc)
with_front-both front c (Err e) = refl

module _ (limit : ℕ) (front : List Const) (bytes : List ℕ) (c : Const) (after : List ℕ) (read : entry_at limit bytes ≡ Ok (c, after)) where
  -- an entry of one index, or one in the last place, which has room for no gap
  one_index : (n : ℕ) → (is_wide c ≡ false) ⊎ (n ≡ 0) → with_front front (entries_at (suc n) limit bytes) ≡ with_front (front ++ c ∷ []) (entries_at n limit after)
  unfolding entries_at
  one_index zero h = rw read (with_front-cons front c (Ok ([], after)))
  one_index (suc m) (inl narrow) = rw (read, narrow) (with_front-cons front c (entries_at (suc m) limit after))
  one_index (suc m) (inr none) = absurd (omega arith)

  two_indices : (m : ℕ) → is_wide c ≡ true → with_front front (entries_at (suc (suc m)) limit bytes) ≡ with_front (front ++ c ∷ Gap ∷ []) (entries_at m limit after)
  unfolding entries_at
  two_indices m wide = rw (read, wide) (with_front-both front c (entries_at m limit after))

  -- what was read before, with the entry, where so many indices are taken
  module _ (count : ℕ) (total : Read (List Const)) (lt : length front < count) (so_far : with_front front (entries_at (count - length front) limit bytes) ≡ total) where
    takes_one : (is_wide c ≡ false) ⊎ (count ≤ length front + 1) → with_front (front ++ c ∷ []) (entries_at (count - length (front ++ c ∷ [])) limit after) ≡ total
    takes_one h =
        let k : count - length front ≡ suc (count - (length front + 1)) = omega arith in
        let k' : count - length (front ++ c ∷ []) ≡ count - (length front + 1) = omega (arith, length-append front (c ∷ [])) in
        let last : (is_wide c ≡ false) ⊎ (count - (length front + 1) ≡ 0) = elim h [ inl narrow ↦ inl narrow | inr le ↦ inr (omega arith) ] in
        let one : with_front front (entries_at (count - length front) limit bytes) ≡ with_front (front ++ c ∷ []) (entries_at (count - (length front + 1)) limit after) = rw k (one_index (count - (length front + 1)) last) in
        rw k' (sym one ∙ so_far)

    takes_two : is_wide c ≡ true → length front + 1 < count → with_front (front ++ c ∷ Gap ∷ []) (entries_at (count - length (front ++ c ∷ Gap ∷ [])) limit after) ≡ total
    takes_two wide room =
        let k : count - length front ≡ suc (suc (count - (length front + 2))) = omega arith in
        let k' : count - length (front ++ c ∷ Gap ∷ []) ≡ count - (length front + 2) = omega (arith, length-append front (c ∷ Gap ∷ [])) in
        let one : with_front front (entries_at (count - length front) limit bytes) ≡ with_front (front ++ c ∷ Gap ∷ []) (entries_at (count - (length front + 2)) limit after) = rw k (two_indices (count - (length front + 2)) wide) in
        rw k' (sym one ∙ so_far)

    takes_either : (wide room : Bool) → is_wide c ≡ wide → ltb (length front + 1) count ≡ room
        → with_front (front ++ entry_gapped c (ltb (length front + 1) count)) (entries_at (count - length (front ++ entry_gapped c (ltb (length front + 1) count))) limit after) ≡ total
    takes_either true true w r = rw (w, r) (takes_two w (ltb-true _ _ r))
    takes_either true false w r = rw (w, r) (takes_one (inr (ltb-false _ _ r)))
    takes_either false room w r = rw w (takes_one (inl w))

-- what the loop keeps
pub goes_on : (limit : ℕ) (front : List Const) (count : ℕ) (bytes : List ℕ) (c : Const) (after : List ℕ) (total : Read (List Const)) → length front < count → entry_at limit bytes ≡ Ok (c, after)
    → with_front front (entries_at (count - length front) limit bytes) ≡ total
    → with_front (front ++ entry_gapped c (ltb (length front + 1) count)) (entries_at (count - length (front ++ entry_gapped c (ltb (length front + 1) count))) limit after) ≡ total
goes_on limit front count bytes c after total lt read so_far = takes_either limit front bytes c after read count total lt so_far (is_wide c) (ltb (length front + 1) count) refl refl

entry_fails : (limit : ℕ) (e : ReadError) (front : List Const) (n : ℕ) (bytes : List ℕ) → entry_at limit bytes ≡ Err e → with_front front (entries_at (suc n) limit bytes) ≡ Err e
unfolding entries_at
entry_fails limit e front zero bytes failed = rw failed refl
entry_fails limit e front (suc m) bytes failed = rw failed refl

pub ends : (limit : ℕ) (e : ReadError) (front : List Const) (count : ℕ) (bytes : List ℕ) (total : Read (List Const)) → length front < count → (e ≢ NoMemory → entry_at limit bytes ≡ Err e)
    → with_front front (entries_at (count - length front) limit bytes) ≡ total → e ≢ NoMemory → total ≡ Err e
ends limit e front count bytes total lt failed so_far fault =
    let k : count - length front ≡ suc (count - (length front + 1)) = omega arith in
    let one : with_front front (entries_at (count - length front) limit bytes) ≡ Err e = rw k (entry_fails limit e front (count - (length front + 1)) bytes (failed fault)) in
    sym so_far ∙ one

pub is_done : (limit : ℕ) (front : List Const) (count : ℕ) (bytes : List ℕ) (total : Read (List Const)) → count ≤ length front → with_front front (entries_at (count - length front) limit bytes) ≡ total → total ≡ Ok (front, bytes)
unfolding entries_at
is_done limit front count bytes total le so_far =
    let k : count - length front ≡ 0 = omega arith in
    let one : with_front front (entries_at (count - length front) limit bytes) ≡ Ok (front, bytes) = rw k (ap (λ (xs : List Const). Ok (xs, bytes)) (append-nil front)) in
    sym so_far ∙ one
