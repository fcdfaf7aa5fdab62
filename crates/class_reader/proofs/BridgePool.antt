-- The constant pool: both descriptions spell it with the same bytes, and ask the same of its entries and gaps.
use Rattle.std.proofs.Common.{◌≡◌, ℕ, zero, suc, ◌+◌, ◌-◌, ◌⊎◌, inl, inr, Bool, true, false, not, ◌&&◌, ◌==◌, cond, is_none, List, [], ◌∷◌, ◌++◌, length, Option, Some, None, flat_map, refl, sym, ap, subst, ◌∙◌, append-nil, arith}
use Rattle.std.proofs.lemmas.Bool.{or_parts, or_from, and_left, and_right, not-true, not-false, not_from_true, eqb-false, ne_eqb}
use Rattle.const_pool.specs.declared.pool.Const.{Const}
use Rattle.const_pool.specs.declared.pool.Const.TheVariants.{Gap, Long, Double}
use Rattle.const_pool.specs.Pool.{u2, is_wide, IsEntry, AreEntries, IsPool, entry_bytes, pool_bytes}
use Rattle.const_pool.specs.ClassFile.{IsU2}
use Rattle.class_reader.specs.declared.error.ReadError.TheVariants.{BadIndex}
use Rattle.class_reader.specs.Formats.{Format, value_made, in_turn, either}
use Rattle.class_reader.specs.ClassFormat.{entries, fits_in, lowest_bad_from, lowest_bad, pool_count, all_entries, constant_pool}
use Rattle.byte_formats.proofs.Conditions.{tested_to, tested_from}
use Rattle.class_reader.proofs.BridgeParts.{IsSpelledBy, u2_law, opened, closed, ended, ends, behind, turn, tested_law, either_cases, either_true, either_false}
use Rattle.class_reader.proofs.BridgeEntries.{FitsEntry, entry_law, is_entry, entry_parts}

-- ---- no entry is bad

no_bad : (b : Bool) (i : ℕ) (o : Option ℕ) → cond b (Some i) o ≡ None → (b ≡ false) × (o ≡ None)
no_bad true i o e = absurd cc
no_bad false i o e = (refl, e)

good : (b : Bool) (i : ℕ) (o : Option ℕ) → b ≡ false → o ≡ None → cond b (Some i) o ≡ None
good true i o e h = absurd cc
good false i o e h = h

first_good : (pool : List Const) (i : ℕ) (c : Const) (rest : List Const) → lowest_bad_from pool i (c ∷ rest) ≡ None → (fits_in pool c ≡ true) × (lowest_bad_from pool (i + 1) rest ≡ None)
first_good pool i c rest e =
    let h = no_bad _ _ _ e in
    (not-false _ (or_parts _ _ h.0).0, h.1)

last_good : (pool : List Const) (i : ℕ) (c : Const) → lowest_bad_from pool i (c ∷ []) ≡ None → is_wide c ≡ false
last_good pool i c e = narrow (is_wide c) (or_parts _ _ (no_bad _ _ _ e).0).1
  where
    narrow : (b : Bool) → (b && true) ≡ false → b ≡ false
    narrow true h = h
    narrow false h = refl

good_narrow : (pool : List Const) (i : ℕ) (c : Const) (rest : List Const) → fits_in pool c ≡ true → is_wide c ≡ false → lowest_bad_from pool (i + 1) rest ≡ None → lowest_bad_from pool i (c ∷ rest) ≡ None
good_narrow pool i c rest fits narrow h = good _ i _ (or_from _ _ (not_from_true _ fits) (and_left _ _ narrow)) h

good_wide : (pool : List Const) (i : ℕ) (c : Const) (rest : List Const) → fits_in pool c ≡ true → lowest_bad_from pool (i + 1 + 1) rest ≡ None → lowest_bad_from pool i (c ∷ Gap ∷ rest) ≡ None
good_wide pool i c rest fits h = good _ i _ (or_from _ _ (not_from_true _ fits) (and_right (is_wide c) _ refl)) h

-- ---- entries one after the other

more_narrow : (pool : List Const) (c : Const) (rest : List Const) → is_wide c ≡ false → IsEntry pool c → AreEntries pool rest → AreEntries pool (c ∷ rest)
more_narrow pool (Long n) rest e h hs = absurd cc
more_narrow pool (Double n) rest e h hs = absurd cc
more_narrow pool _ rest e h hs = (h, hs)

more_wide : (pool : List Const) (c : Const) (rest : List Const) → is_wide c ≡ true → IsEntry pool c → AreEntries pool rest → AreEntries pool (c ∷ Gap ∷ rest)
more_wide pool (Long n) rest e h hs = (h, hs)
more_wide pool (Double n) rest e h hs = (h, hs)
more_wide pool _ rest e h hs = absurd cc

-- an entry of one index
record IsNarrow (pool : List Const) (c : Const) (rest : List Const) : Type 0 where
  narrow : is_wide c ≡ false
  first : IsEntry pool c
  others : AreEntries pool rest

-- an entry of two, with its gap
record IsWide (pool : List Const) (c : Const) (rest : List Const) : Type 0 where
  wide : is_wide c ≡ true
  first : IsEntry pool c
  more : List Const
  gap : Gap ∷ more ≡ rest
  others : AreEntries pool more

first_entry : (pool : List Const) (c : Const) (rest : List Const) → AreEntries pool (c ∷ rest) → IsNarrow pool c rest ⊎ IsWide pool c rest
first_entry pool (Long n) (Gap ∷ rest) h = inr (record { wide = refl; first = h.0; more = rest; gap = refl; others = h.1 })
first_entry pool (Double n) (Gap ∷ rest) h = inr (record { wide = refl; first = h.0; more = rest; gap = refl; others = h.1 })
first_entry pool (Long n) _ h = absurd h
first_entry pool (Double n) _ h = absurd h
first_entry pool _ rest h = inl (record { narrow = refl; first = h.0; others = h.1 })

-- what the entries of so many indices are
abbrev Stand : List Const → ℕ → List ℕ → List Const → Type 0
Stand pool n text cs = (text ≡ flat_map entry_bytes cs) × (length cs ≡ n) × AreEntries pool cs

module _ (pool : List Const) where
  last_to : (i : ℕ) (text : List ℕ) (c : Const) → text ≡ entry_bytes c → FitsEntry c → lowest_bad_from pool i (c ∷ []) ≡ None → Stand pool 1 text (c ∷ [])
  last_to i text c e fits low =
      let named = first_good pool i c [] low in
      (e ∙ sym (append-nil (entry_bytes c)), refl, more_narrow pool c [] (last_good pool i c low) (is_entry pool c fits named.0) tt)

  narrow_to : (n : ℕ) (text rest : List ℕ) (c : Const) (cs : List Const) → text ≡ entry_bytes c ++ rest → FitsEntry c → is_wide c ≡ false → fits_in pool c ≡ true
      → Stand pool n rest cs → Stand pool (suc n) text (c ∷ cs)
  narrow_to n text rest c cs e fits narrow named h =
      (behind text (entry_bytes c) rest (flat_map entry_bytes cs) e h.0, ap suc h.1, more_narrow pool c cs narrow (is_entry pool c fits named) h.2)

  wide_to : (n : ℕ) (text rest : List ℕ) (c : Const) (cs : List Const) → text ≡ entry_bytes c ++ rest → FitsEntry c → is_wide c ≡ true → fits_in pool c ≡ true
      → Stand pool n rest cs → Stand pool (suc (suc n)) text (c ∷ Gap ∷ cs)
  wide_to n text rest c cs e fits wide named h =
      (behind text (entry_bytes c) rest (flat_map entry_bytes cs) e h.0, ap (λ (m : ℕ). suc (suc m)) h.1, more_wide pool c cs wide (is_entry pool c fits named) h.2)

  entries_to : (n i : ℕ) (text : List ℕ) (cs : List Const) → (entries n).Spells text cs → lowest_bad_from pool i cs ≡ None → Stand pool n text cs
  entries_to zero i text cs s low = subst (λ (ds : List Const). Stand pool zero text ds) (sym s.0) (s.1, refl, tt)
  entries_to (suc zero) i text cs s low =
      let a = closed entry_law s in
      subst (λ (ds : List Const). lowest_bad_from pool i ds ≡ None → Stand pool 1 text ds) a.is (last_to i text a.x a.spelled a.fits) low
  entries_to (suc (suc n)) i text cs s low =
      let a = opened entry_law s in
      let wide : Format (List Const) = in_turn (entries n) (λ cs. value_made (a.x ∷ Gap ∷ cs)) in
      let narrow : Format (List Const) = in_turn (entries (suc n)) (λ cs. value_made (a.x ∷ cs)) in
      elim (either_cases (is_wide a.x) wide narrow a.rest cs a.second) as (λ _. Stand pool (suc (suc n)) text cs) [
        | inl h ↦ (let b = ended h.1 in
            let low_is : lowest_bad_from pool i (a.x ∷ Gap ∷ b.x) ≡ None = subst (λ (ds : List Const). lowest_bad_from pool i ds ≡ None) (sym b.is) low in
            let named = first_good pool i a.x (Gap ∷ b.x) low_is in
            subst (Stand pool (suc (suc n)) text) b.is (wide_to n text a.rest a.x b.x a.parts a.fits h.0 named.0 (entries_to n (i + 1 + 1) a.rest b.x b.spelled named.1)))
        | inr h ↦ (let b = ended h.1 in
            let low_is : lowest_bad_from pool i (a.x ∷ b.x) ≡ None = subst (λ (ds : List Const). lowest_bad_from pool i ds ≡ None) (sym b.is) low in
            let named = first_good pool i a.x b.x low_is in
            subst (Stand pool (suc (suc n)) text) b.is (narrow_to (suc n) text a.rest a.x b.x a.parts a.fits h.0 named.0 (entries_to (suc n) (i + 1) a.rest b.x b.spelled named.1)))
      ]

-- the text of so many indices, and no entry is bad
abbrev Written : List Const → ℕ → List Const → Type 0
Written pool n cs = (entries n).Spells (flat_map entry_bytes cs) cs × ((i : ℕ) → lowest_bad_from pool i cs ≡ None)

-- what follows an entry
abbrev wide_rest : ℕ → Const → Format (List Const)
wide_rest n c = in_turn (entries n) (λ cs. value_made (c ∷ Gap ∷ cs))

abbrev narrow_rest : ℕ → Const → Format (List Const)
narrow_rest n c = in_turn (entries (suc n)) (λ cs. value_made (c ∷ cs))

module _ (pool : List Const) where
  last_from : (c : Const) → AreEntries pool (c ∷ []) → Written pool 1 (c ∷ [])
  last_from c h = elim (first_entry pool c [] h) as (λ _. Written pool 1 (c ∷ [])) [
    | inl one ↦ (let parts = entry_parts pool c one.first in
        (turn entry_law (λ c. value_made (c ∷ [])) c parts.0 (refl, refl), λ i. good_narrow pool i c [] parts.1 one.narrow refl))
    | inr two ↦ absurd (let gap = two.gap in cc)
  ]

  narrow_from : (n : ℕ) (c : Const) (rest : List Const) → is_wide c ≡ false → IsEntry pool c → Written pool (suc n) rest → Written pool (suc (suc n)) (c ∷ rest)
  narrow_from n c rest narrow h written =
      let parts = entry_parts pool c h in
      let others = ends (entries (suc n)) (λ cs. c ∷ cs) (flat_map entry_bytes rest) rest written.0 in
      let second = either_false (is_wide c) (wide_rest n c) (narrow_rest n c) (flat_map entry_bytes rest) (c ∷ rest) narrow others in
      (turn entry_law (λ c. either (is_wide c) (wide_rest n c) (narrow_rest n c)) c parts.0 second, λ i. good_narrow pool i c rest parts.1 narrow (written.1 (i + 1)))

  wide_from : (n : ℕ) (c : Const) (rest : List Const) → is_wide c ≡ true → IsEntry pool c → Written pool n rest → Written pool (suc (suc n)) (c ∷ Gap ∷ rest)
  wide_from n c rest wide h written =
      let parts = entry_parts pool c h in
      let others = ends (entries n) (λ cs. c ∷ Gap ∷ cs) (flat_map entry_bytes rest) rest written.0 in
      let second = either_true (is_wide c) (wide_rest n c) (narrow_rest n c) (flat_map entry_bytes rest) (c ∷ Gap ∷ rest) wide others in
      (turn entry_law (λ c. either (is_wide c) (wide_rest n c) (narrow_rest n c)) c parts.0 second, λ i. good_wide pool i c rest parts.1 (written.1 (i + 1 + 1)))

  entries_from : (n : ℕ) (cs : List Const) → length cs ≡ n → AreEntries pool cs → Written pool n cs
  entries_from zero [] len h = ((refl, refl), λ i. refl)
  entries_from zero (c ∷ cs) len h = absurd (omega (arith, len))
  entries_from (suc n) [] len h = absurd (omega (arith, len))
  entries_from (suc zero) (c ∷ []) len h = last_from c h
  entries_from (suc zero) (c ∷ d ∷ cs) len h = absurd (omega (arith, len))
  entries_from (suc (suc n)) (c ∷ rest) len h = elim (first_entry pool c rest h) as (λ _. Written pool (suc (suc n)) (c ∷ rest)) [
    | inl one ↦ narrow_from n c rest one.narrow one.first (entries_from (suc n) rest (omega (arith, len)) one.others)
    | inr two ↦ (let same = ap length two.gap in
        subst (λ (r : List Const). Written pool (suc (suc n)) (c ∷ r)) two.gap (wide_from n c two.more two.wide two.first (entries_from n two.more (omega (arith, len, same)) two.others)))
  ]

-- ---- the pool

none_is : (o : Option ℕ) → is_none o ≡ true → o ≡ None
none_is None e = refl
none_is (Some i) e = absurd cc

is_none_from : (o : Option ℕ) → o ≡ None → is_none o ≡ true
is_none_from None e = refl
is_none_from (Some i) e = absurd cc

gap_tail : (entries rest : List Const) → ◌≡◌ {A = List Const} (Gap ∷ entries) (Gap ∷ rest) → entries ≡ rest
gap_tail entries rest e = cc

count_law : IsSpelledBy pool_count u2 (λ count. IsU2 count × (not (count == 0) ≡ true))
count_law = tested_law u2_law (λ count. not (count == 0)) (λ at count. BadIndex 0)

all_to : (count : ℕ) (text rest : List ℕ) (cs : List Const) → IsU2 count → not (count == 0) ≡ true → text ≡ u2 count ++ rest → (entries (count - 1)).Spells rest cs
    → is_none (lowest_bad (Gap ∷ cs)) ≡ true → (text ≡ pool_bytes (Gap ∷ cs)) × IsPool (Gap ∷ cs)
all_to count text rest cs fits some e s low =
    let h = entries_to (Gap ∷ cs) (count - 1) 1 rest cs s (none_is _ low) in
    let nonzero : count ≡ 0 → ⊥ = eqb-false count 0 (not-true _ some) in
    let all : count ≡ suc (length cs) = omega (arith, h.1) in
    let len : text ≡ u2 (suc (length cs)) ++ rest = e ∙ ap (λ (n : ℕ). u2 n ++ rest) all in (
      behind text (u2 (suc (length cs))) rest (flat_map entry_bytes cs) len h.0,
      record { count = subst IsU2 all fits; first = refl; entries = λ more same. subst (AreEntries (Gap ∷ cs)) (gap_tail cs more same) h.2 },
    )

pool_to : (text : List ℕ) (pool : List Const) → constant_pool.Spells text pool → (text ≡ pool_bytes pool) × IsPool pool
pool_to text pool s =
    let t = tested_to all_entries (λ pool. is_none (lowest_bad pool)) text pool s in
    let a = opened count_law t.0 in
    let b = ended a.second in
    let low : is_none (lowest_bad (Gap ∷ b.x)) ≡ true = subst (λ (p : List Const). is_none (lowest_bad p) ≡ true) (sym b.is) t.1 in
    subst (λ (p : List Const). (text ≡ pool_bytes p) × IsPool p) b.is (all_to a.x text a.rest b.x a.fits.0 a.fits.1 a.parts b.spelled low)

all_from : (cs : List Const) → IsPool (Gap ∷ cs) → constant_pool.Spells (pool_bytes (Gap ∷ cs)) (Gap ∷ cs)
all_from cs h =
    let written = entries_from (Gap ∷ cs) (length cs) cs refl (h.entries cs refl) in
    let less : suc (length cs) - 1 ≡ length cs = omega arith in
    let same : (entries (suc (length cs) - 1)).Spells (flat_map entry_bytes cs) cs = subst (λ (n : ℕ). (entries n).Spells (flat_map entry_bytes cs) cs) (sym less) written.0 in
    let some : not (suc (length cs) == 0) ≡ true = ap not (ne_eqb (suc (length cs)) 0 (λ e. omega (arith, e))) in
    let behind_count = ends (entries (suc (length cs) - 1)) (λ cs. Gap ∷ cs) (flat_map entry_bytes cs) cs same in
    let whole = turn count_law (λ count. in_turn (entries (count - 1)) (λ cs. value_made (Gap ∷ cs))) (suc (length cs)) (h.count, some) behind_count in
    tested_from all_entries (λ pool. is_none (lowest_bad pool)) (pool_bytes (Gap ∷ cs)) (Gap ∷ cs) whole (is_none_from _ (written.1 1))

pool_from : (pool : List Const) → IsPool pool → constant_pool.Spells (pool_bytes pool) pool
pool_from [] h = absurd (let first = h.first in cc)
pool_from (c ∷ cs) h =
    let gap : Gap ≡ c = let first = h.first in cc in
    subst (λ (g : Const). IsPool (g ∷ cs) → constant_pool.Spells (pool_bytes (g ∷ cs)) (g ∷ cs)) gap (all_from cs) h

pub pool_law : IsSpelledBy constant_pool pool_bytes IsPool
pool_law = record { «to» = pool_to; «from» = pool_from }
