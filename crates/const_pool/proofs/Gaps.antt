-- Gaps stand exactly where they are due.
use Rattle.std.proofs.Common.{◌≡◌, ℕ, zero, suc, ◌↔◌, inl, inr, Bool, true, false, not, List, [], ◌∷◌, ◌++◌, length, Option, Some, None, IsNone, IsTrue, slice_get, refl, sym, ap, subst, ◌∙◌, arith}
use Rattle.std.specs.Bool.{beq}
use Rattle.std.specs.Option.{option_and_then, option_map}
use Rattle.std.proofs.lemmas.Bool.{and_parts, and_from, true≢false}
use Rattle.std.proofs.lemmas.Option.{slice_get_within, slice_get_cases}
use Rattle.const_pool.specs.declared.pool.Const.{Const}
use Rattle.const_pool.specs.declared.pool.Const.TheVariants.{Gap, Utf8, Integer, Float, Long, Double, Class, Text, Field, Method, InterfaceMethod, NameType}
use Rattle.const_pool.specs.Pool.{entry_of, entry_at, is_gap, is_wide, gaps_due, has_gaps, is_second, IsUnusable, AreEntries, IsPool}
use Rattle.const_pool.proofs.Halts.{some_is}
use Rattle.const_pool.specs.Tail.{tail_entries, with_tail}

-- ---- behind one another

none_due : (due : Bool) (pool : List Const) → not due ≡ true → gaps_due false pool ≡ true → gaps_due due pool ≡ true
none_due true pool e h = absurd (true≢false (sym e))
none_due false pool e h = h

gaps_due-append : (due : Bool) (pool more : List Const) → gaps_due due pool ≡ true → gaps_due false more ≡ true → gaps_due due (pool ++ more) ≡ true
gaps_due-append due [] more h k = none_due due more h k
gaps_due-append due (c ∷ pool) more h k =
    let parts = and_parts _ _ h in
    and_from _ _ parts.0 (gaps_due-append (is_wide c) pool more parts.1 k)

tail_gaps : (count : ℕ) → gaps_due false (tail_entries count) ≡ true
tail_gaps count = refl

pub has_gaps-with_tail : (pool : List Const) → IsTrue (has_gaps pool) → IsTrue (has_gaps (with_tail pool))
has_gaps-with_tail pool h = gaps_due-append true pool (tail_entries (length pool)) h (tail_gaps (length pool))

-- ---- at an index

abbrev due_at : Bool → List Const → ℕ → Bool
due_at due pool zero = due
due_at due pool (suc i) = is_second pool (suc i)

both : (x y : Bool) → beq x y ≡ true → x ≡ y
both true true e = refl
both true false e = absurd (true≢false (sym e))
both false true e = absurd (true≢false (sym e))
both false false e = refl

due_next : (due : Bool) (first : Const) (pool : List Const) (i : ℕ) → due_at (is_wide first) pool i ≡ due_at due (first ∷ pool) (suc i)
due_next due first pool zero = refl
due_next due first pool (suc i) = refl

gap_is_due : (due : Bool) (pool : List Const) (i : ℕ) (c : Const) → gaps_due due pool ≡ true → slice_get pool i ≡ Some c → is_gap c ≡ due_at due pool i
gap_is_due due [] i c h e = absurd cc
gap_is_due due (first ∷ pool) zero c h e = let same : first ≡ c = some_is first c e in ap is_gap (sym same) ∙ both _ _ (and_parts _ _ h).0
gap_is_due due (first ∷ pool) (suc i) c h e = let parts = and_parts _ _ h in gap_is_due (is_wide first) pool i c parts.1 e ∙ due_next due first pool i

index_due : (pool : List Const) (i : ℕ) → due_at true pool i ≡ true → IsUnusable pool i
index_due pool zero h = inl refl
index_due pool (suc i) h = inr (inl h)

unusable_gap : (pool : List Const) (i : ℕ) → IsTrue (has_gaps pool) → slice_get pool i ≡ Some Gap → IsUnusable pool i
unusable_gap pool i h e = index_due pool i (sym (gap_is_due true pool i Gap h e))

not_due : (pool : List Const) (i : ℕ) → is_second pool i ≡ true → due_at true pool i ≡ true
not_due pool zero h = refl
not_due pool (suc i) h = h

gap_from_IsUnusable : (pool : List Const) (i : ℕ) (c : Const) → IsTrue (has_gaps pool) → slice_get pool i ≡ Some c → IsUnusable pool i → is_gap c ≡ true
gap_from_IsUnusable pool i c h e unusable = elim unusable as (λ _. is_gap c ≡ true) [
  | inl zero_is ↦ gap_is_due true pool i c h e ∙ ap (due_at true pool) zero_is
  | inr other ↦ elim other as (λ _. is_gap c ≡ true) [
    | inl second ↦ gap_is_due true pool i c h e ∙ not_due pool i second
    | inr past ↦ absurd (omega (arith, past, slice_get_within pool i c e))
  ]
]

-- an entry that is none
gap_alone : (c : Const) → entry_of c ≡ None → c ≡ Gap
gap_alone Gap e = refl
gap_alone _ e = absurd cc

no_gap : (c entry : Const) → entry_of c ≡ Some entry → is_gap c ≡ true → ⊥
no_gap Gap entry e h = cc
no_gap _ entry e h = true≢false (sym h)

unusable_from : (pool : List Const) (i : ℕ) → IsTrue (has_gaps pool) → entry_at pool i ≡ None → IsUnusable pool i
unusable_from pool i h e = elim (slice_get_cases pool i).1 as (λ _. IsUnusable pool i) [
  | inl found ↦ unusable_gap pool i h (found.2 ∙ ap (λ (c : Const). Some c) (gap_alone found.0 (sym (ap (option_and_then entry_of) found.2) ∙ e)))
  | inr past ↦ inr (inr past.0)
]

not_unusable : (pool : List Const) (i : ℕ) (entry : Const) → IsTrue (has_gaps pool) → entry_at pool i ≡ Some entry → IsUnusable pool i → ⊥
not_unusable pool i entry h e unusable = elim (slice_get_cases pool i).1 as (λ _. ⊥) [
  | inl found ↦ no_gap found.0 entry (sym (ap (option_and_then entry_of) found.2) ∙ e) (gap_from_IsUnusable pool i found.0 h found.2 unusable)
  | inr past ↦ absurd (let none : entry_at pool i ≡ None = ap (option_and_then entry_of) past.1 in let both : Some entry ≡ None = sym e ∙ none in cc)
]

-- what a look-up gives, seen by view, is none exactly at an index that names no entry
pub none_at : {X : Type 0} (view : X → Const) (pool : List Const) (i : ℕ) (found : Option X) → IsTrue (has_gaps pool) → option_map view found ≡ entry_at pool i → IsNone found ↔ IsUnusable pool i
none_at view pool i None h e = (λ _. unusable_from pool i h (sym e), λ _. refl)
none_at view pool i (Some x) h e = (λ none. absurd (true≢false none), λ unusable. absurd (not_unusable pool i (view x) h (sym e) unusable))

-- ---- in the pools of class files

entries_gaps : (pool rest : List Const) → AreEntries pool rest → gaps_due false rest ≡ true
entries_gaps pool [] h = refl
entries_gaps pool (Gap ∷ rest) h = absurd h.0
entries_gaps pool (Long n ∷ Gap ∷ rest) h = entries_gaps pool rest h.1
entries_gaps pool (Double n ∷ Gap ∷ rest) h = entries_gaps pool rest h.1
entries_gaps pool (Long n ∷ rest) h = absurd h
entries_gaps pool (Double n ∷ rest) h = absurd h
entries_gaps pool (Utf8 t ∷ rest) h = entries_gaps pool rest h.1
entries_gaps pool (Integer n ∷ rest) h = entries_gaps pool rest h.1
entries_gaps pool (Float n ∷ rest) h = entries_gaps pool rest h.1
entries_gaps pool (Class i ∷ rest) h = entries_gaps pool rest h.1
entries_gaps pool (Text i ∷ rest) h = entries_gaps pool rest h.1
entries_gaps pool (Field c n ∷ rest) h = entries_gaps pool rest h.1
entries_gaps pool (Method c n ∷ rest) h = entries_gaps pool rest h.1
entries_gaps pool (InterfaceMethod c n ∷ rest) h = entries_gaps pool rest h.1
entries_gaps pool (NameType n d ∷ rest) h = entries_gaps pool rest h.1

pub has_gaps-from_pool : (pool : List Const) → IsPool pool → IsTrue (has_gaps pool)
has_gaps-from_pool [] h = absurd (let first = h.first in cc)
has_gaps-from_pool (c ∷ rest) h =
    let gap : Gap ≡ c = let first = h.first in cc in
    let same : c ∷ rest ≡ Gap ∷ rest = ap (λ (g : Const). g ∷ rest) (sym gap) in
    subst (λ (g : Const). IsTrue (has_gaps (g ∷ rest))) gap (entries_gaps (c ∷ rest) rest (h.entries rest same))
