-- How multianewarray reads its operands, counts slots and makes arrays.
use Rattle.std.proofs.Common.{◌≡◌, ℕ, zero, suc, ◌+◌, ◌-◌, ◌<◌, ◌≤◌, List, [], ◌∷◌, ◌++◌, ap, sym, refl, ◌∙◌, arith}
use Rattle.std.proofs.lemmas.List.{append-nil, append_assoc}
use Rattle.std.specs.Prelude.{◌/◌, length, Option, Some, None, ℤ, pos, negsuc, slice_get}
use Rattle.std.specs.Option.{option_and_then, option_map}
use Rattle.heap_objects.specs.declared.datum.Datum.TheVariants as datum
use Rattle.heap_objects.specs.Heaps.{HeapView, new_array, next_number, with_array, with_slot_at}
use Rattle.heap_objects.specs.declared.Value.TheVariants.{Int, Long, Ref, Addr}
use Rattle.jvm_model.specs.Instructions.CreationRules.{counts_from, counts_of, lengths_of, with_arrays, with_parts}
use Rattle.jvm_model.specs.Basis.KindNumbers.{first_array, user_count}
use Rattle.class_linker.specs.Linkers.{IsLoaded, LinkerView}
use Rattle.jvm_model.specs.Basis.Data.{Operands}
use Rattle.member_selection.specs.Arrays.{AreUsable, int_at, lengths_from}
use Rattle.member_selection.specs.Objects.{AreLoaded, IsUsable}
use Rattle.member_selection.proofs.KindLemmas.{under_usable}
use Rattle.member_selection.proofs.ObjectLemmas.{objects_slot, objects_with}

-- ---- the operands

mapped-none : {A : Type 0} (o : Option A) (f : A → List ℤ → List ℤ) → option_and_then (λ c. option_map (f c) None) o ≡ None
mapped-none None f = refl
mapped-none (Some c) f = refl

-- the lowest of those that are left is read first
counts-lowest : (left : ℕ) (above : List ℤ) (o : Operands)
    → counts_from (suc left) above o ≡ option_and_then (λ c. option_map (λ rest. c ∷ rest) (counts_from left above o)) (int_at (slice_get o left))
counts-lowest zero above [] = refl
counts-lowest zero above (Int d ∷ below) = refl
counts-lowest zero above (Long d ∷ below) = refl
counts-lowest zero above (Ref d ∷ below) = refl
counts-lowest zero above (Addr d ∷ below) = refl
counts-lowest (suc left) above [] = refl
counts-lowest (suc left) above (Int d ∷ below) = counts-lowest left (d ∷ above) below
counts-lowest (suc left) above (Long d ∷ below) = sym (mapped-none (int_at (slice_get below left)) (λ c rest. c ∷ rest))
counts-lowest (suc left) above (Ref d ∷ below) = sym (mapped-none (int_at (slice_get below left)) (λ c rest. c ∷ rest))
counts-lowest (suc left) above (Addr d ∷ below) = sym (mapped-none (int_at (slice_get below left)) (λ c rest. c ∷ rest))

behind : (counts : List ℤ) (c : ℤ) (o : Option (List ℤ))
    → option_map (λ rest. counts ++ rest) (option_map (λ rest. c ∷ rest) o) ≡ option_map (λ rest. (counts ++ c ∷ []) ++ rest) o
behind counts c None = refl
behind counts c (Some rest) = ap Some (sym (append_assoc counts (c ∷ []) rest))

pub count_read : (left : ℕ) (o : Operands) (counts : List ℤ) (c : ℤ) → slice_get o left ≡ Some (Int c)
    → option_map (λ rest. counts ++ rest) (counts_from (suc left) [] o) ≡ option_map (λ rest. (counts ++ c ∷ []) ++ rest) (counts_from left [] o)
count_read left o counts c is =
    ap (λ x. option_map (λ rest. counts ++ rest) x)
    (counts-lowest left [] o ∙ ap (λ v. option_and_then (λ c. option_map (λ rest. c ∷ rest) (counts_from left [] o)) (int_at v)) is)
    ∙ behind counts c (counts_from left [] o)

pub count_missing : (left : ℕ) (o : Operands) (counts : List ℤ) → int_at (slice_get o left) ≡ None
    → option_map (λ rest. counts ++ rest) (counts_from (suc left) [] o) ≡ None
count_missing left o counts is =
    ap (λ x. option_map (λ rest. counts ++ rest) x)
    (counts-lowest left [] o ∙ ap (λ v. option_and_then (λ c. option_map (λ rest. c ∷ rest) (counts_from left [] o)) v) is)

-- ---- lengths

lengths-behind : (counts : List ℤ) (out : List ℕ) → lengths_from out counts ≡ option_map (λ rest. out ++ rest) (lengths_of counts)
lengths-behind [] out = ap Some (sym (append-nil out))
lengths-behind (pos n ∷ more) out = lengths-behind more (out ++ n ∷ []) ∙ by (lengths_of more)
  where
    by : (o : Option (List ℕ)) → option_map (λ rest. (out ++ n ∷ []) ++ rest) o ≡ option_map (λ rest. out ++ rest) (option_map (λ lengths. n ∷ lengths) o)
    by None = refl
    by (Some rest) = ap Some (append_assoc out (n ∷ []) rest)
lengths-behind (negsuc n ∷ more) out = refl

pub lengths_read : (counts : List ℤ) → lengths_from [] counts ≡ lengths_of counts
lengths_read counts = lengths-behind counts [] ∙ by (lengths_of counts)
  where
    by : (o : Option (List ℕ)) → option_map (λ rest. [] ++ rest) o ≡ o
    by None = refl
    by (Some rest) = refl

-- ---- how many

pub lengths_count : (counts : List ℤ) (lengths : List ℕ) → lengths_of counts ≡ Some lengths → length lengths ≡ length counts
lengths_count [] lengths e = ap length (let same : Some [] ≡ Some lengths → lengths ≡ [] = λ e. cc in same e)
lengths_count (pos n ∷ more) lengths e = by (lengths_of more) refl e (lengths_count more)
  where
    by : (o : Option (List ℕ)) → lengths_of more ≡ o → option_map (λ lengths. n ∷ lengths) o ≡ Some lengths
        → ((ls : List ℕ) → lengths_of more ≡ Some ls → length ls ≡ length more) → length lengths ≡ length (pos n ∷ more)
    by None is e rest = absurd (let no : None ≡ Some lengths → ⊥ = λ e. cc in no e)
    by (Some ls) is e rest = ap length (let same : Some (n ∷ ls) ≡ Some lengths → lengths ≡ n ∷ ls = λ e. cc in same e) ∙ ap suc (rest ls is)
lengths_count (negsuc n ∷ more) lengths e = absurd (let no : None ≡ Some lengths → ⊥ = λ e. cc in no e)

counts-length : (n : ℕ) (above : List ℤ) (o : Operands) (counts : List ℤ) → counts_from n above o ≡ Some counts → length counts ≡ n + length above
counts-length zero above o counts e =
    ap length (let same : Some above ≡ Some counts → counts ≡ above = λ e. cc in same e) ∙ (let z : length above ≡ 0 + length above = omega arith in z)
counts-length (suc n) above (Int c ∷ below) counts e = counts-length n (c ∷ above) below counts e ∙ (let s : n + suc (length above) ≡ suc n + length above = omega arith in s)
counts-length (suc n) above [] counts e = absurd (let no : None ≡ Some counts → ⊥ = λ e. cc in no e)
counts-length (suc n) above (Long c ∷ below) counts e = absurd (let no : None ≡ Some counts → ⊥ = λ e. cc in no e)
counts-length (suc n) above (Ref c ∷ below) counts e = absurd (let no : None ≡ Some counts → ⊥ = λ e. cc in no e)
counts-length (suc n) above (Addr c ∷ below) counts e = absurd (let no : None ≡ Some counts → ⊥ = λ e. cc in no e)

pub counts_count : (n : ℕ) (o : Operands) (counts : List ℤ) → counts_of n o ≡ Some counts → length counts ≡ n
counts_count n o counts e = counts-length n [] o counts e ∙ (let z : n + 0 ≡ n = omega arith in z)

-- ---- the operands' room

pub enough_below : (n : ℕ) (o : Operands) (counts : List ℤ) → counts_of n o ≡ Some counts → n ≤ length o
enough_below n o counts e = counted n [] o counts e
  where
    counted : (n : ℕ) (above : List ℤ) (o : Operands) (counts : List ℤ) → counts_from n above o ≡ Some counts → n ≤ length o
    counted zero above o counts e = omega arith
    counted (suc n) above (Int c ∷ below) counts e = let rest = counted n (c ∷ above) below counts e in omega (arith, rest)
    counted (suc n) above [] counts e = absurd (let no : None ≡ Some counts → ⊥ = λ e. cc in no e)
    counted (suc n) above (Long c ∷ below) counts e = absurd (let no : None ≡ Some counts → ⊥ = λ e. cc in no e)
    counted (suc n) above (Ref c ∷ below) counts e = absurd (let no : None ≡ Some counts → ⊥ = λ e. cc in no e)
    counted (suc n) above (Addr c ∷ below) counts e = absurd (let no : None ≡ Some counts → ⊥ = λ e. cc in no e)

-- ---- arrays and their parts

pub arrays_parts : (kind n : ℕ) (rest : List ℕ) (h : HeapView) → 0 < length rest
    → with_arrays kind (n ∷ rest) h
    ≡ with_parts (with_arrays (kind - first_array) rest) (next_number h) 0 n (with_array kind (datum.Int (pos 0)) n h)
arrays_parts kind n [] h some = absurd (let no : 0 < 0 → ⊥ = λ h. omega arith in no some)
arrays_parts kind n (next ∷ more) h some = refl

pub parts_step : (make : HeapView → HeapView) (array at n : ℕ) (h : HeapView) → at < n
    → with_parts make array at (n - at) h ≡ with_parts make array (at + 1) (n - (at + 1)) (make (with_slot_at array at (datum.Ref (next_number h)) h))
parts_step make array at n h more =
    ap (λ left. with_parts make array at left h) (let one : n - at ≡ suc (n - (at + 1)) = omega arith in one)

-- the classes of the arrays are loaded
module _ (l : LinkerView) where
  abbrev Down : ℕ → List ℕ → Type 0
  Down kind lengths = AreUsable l kind lengths

  pub down-first : (kind n : ℕ) (rest : List ℕ) → AreUsable l kind (n ∷ rest) → IsUsable l kind
  down-first kind n [] down = down
  down-first kind n (next ∷ more) down = down.0

  pub down-rest : (kind n : ℕ) (rest : List ℕ) → 0 < length rest → AreUsable l kind (n ∷ rest) → AreUsable l (kind - 16777216) rest
  down-rest kind n [] some down = tt
  down-rest kind n (next ∷ more) some down = down.1

  parts-loaded : (make : HeapView → HeapView) → ((h : HeapView) → AreLoaded l h → AreLoaded l (make h)) → (array at left : ℕ) (h : HeapView)
      → AreLoaded l h → AreLoaded l (with_parts make array at left h)
  parts-loaded make keeps array at zero h are = are
  parts-loaded make keeps array at (suc left) h are =
      parts-loaded make keeps array (at + 1) left (make (with_slot_at array at (datum.Ref (next_number h)) h))
      (keeps (with_slot_at array at (datum.Ref (next_number h)) h) (objects_slot l h array at (datum.Ref (next_number h)) are))

  arrays-loaded : (lengths : List ℕ) (kind : ℕ) → Down kind lengths → (h : HeapView) → AreLoaded l h → AreLoaded l (with_arrays kind lengths h)
  arrays-loaded [] kind down h are = are
  arrays-loaded (n ∷ []) kind down h are = objects_with l h (new_array kind (datum.Int (pos 0)) n) are down
  arrays-loaded (n ∷ next ∷ more) kind down h are =
      parts-loaded (with_arrays (kind - first_array) (next ∷ more)) (arrays-loaded (next ∷ more) (kind - first_array) down.1) (next_number h) 0 n
      (with_array kind (datum.Int (pos 0)) n h) (objects_with l h (new_array kind (datum.Int (pos 0)) n) are down.0)

  downwards : (lengths : List ℕ) (kind depth : ℕ) → kind / 16777216 ≡ depth → length lengths ≤ depth → IsLoaded l (user_count l.program) → IsUsable l kind → Down kind lengths
  downwards [] kind depth is few root usable = tt
  downwards (n ∷ []) kind depth is few root usable = usable
  downwards (n ∷ next ∷ more) kind depth is few root usable =
      (usable, downwards (next ∷ more) (kind - first_array) (depth - 1) (under kind depth is few) (omega arith) root (below_usable kind depth is few root usable))
    where
      under : (kind depth : ℕ) → kind / 16777216 ≡ depth → suc (suc (length more)) ≤ depth → (kind - 16777216) / 16777216 ≡ depth - 1
      under kind depth is few = grind (arith)

      below_usable : (kind depth : ℕ) → kind / 16777216 ≡ depth → suc (suc (length more)) ≤ depth → IsLoaded l (user_count l.program) → IsUsable l kind
          → IsUsable l (kind - 16777216)
      below_usable kind depth is few root usable = under_usable l root kind (grind (arith)) usable

  pub all-usable : (lengths : List ℕ) (kind : ℕ) → length lengths ≤ kind / 16777216 → IsUsable l kind → IsLoaded l (user_count l.program) → AreUsable l kind lengths
  all-usable lengths kind few usable root = downwards lengths kind (kind / 16777216) refl few root usable

-- ---- as the code reads them

pub count_next : (left : ℕ) (o : Operands) (counts : List ℤ) (c : ℤ) → 0 < left → Some c ≡ int_at (slice_get o (left - 1))
    → option_map (λ rest. (counts ++ c ∷ []) ++ rest) (counts_from (left - 1) [] o) ≡ option_map (λ rest. counts ++ rest) (counts_from left [] o)
count_next left o counts c some is =
    sym (ap (λ n. option_map (λ rest. counts ++ rest) (counts_from n [] o)) (let one : left ≡ suc (left - 1) = omega arith in one)
    ∙ (ap (λ x. option_map (λ rest. counts ++ rest) x)
    (counts-lowest (left - 1) [] o ∙ ap (λ v. option_and_then (λ c. option_map (λ rest. c ∷ rest) (counts_from (left - 1) [] o)) v) (sym is))
    ∙ behind counts c (counts_from (left - 1) [] o)))

pub count_none : (left : ℕ) (o : Operands) (counts : List ℤ) → 0 < left → None ≡ int_at (slice_get o (left - 1))
    → None ≡ option_map (λ rest. counts ++ rest) (counts_from left [] o)
count_none left o counts some is =
    sym (ap (λ n. option_map (λ rest. counts ++ rest) (counts_from n [] o)) (let one : left ≡ suc (left - 1) = omega arith in one)
    ∙ count_missing (left - 1) o counts (sym is))
