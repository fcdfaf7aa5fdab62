-- What the arrays of multianewarray use of the heap.
use Rattle.std.proofs.Common.{◌≡◌, ◌∙◌, ℕ, zero, suc, ◌+◌, ◌-◌, ◌*◌, ◌<◌, ◌≤◌, List, [], ◌∷◌, ap, arith, refl}
use Rattle.std.proofs.lemmas.List.{length-replicate}
use Rattle.std.specs.Prelude.{pos}
use Rattle.heap_objects.specs.declared.datum.Datum.{Datum}
use Rattle.heap_objects.specs.declared.datum.Datum.TheVariants as datum
use Rattle.heap_objects.specs.Heaps.{HeapView, next_number, with_array, with_slot_at}
use Rattle.jvm_model.specs.Basis.KindNumbers.{first_array}
use Rattle.jvm_model.specs.Instructions.CreationRules.{slots_of_arrays, with_arrays, with_parts}

-- so many slots more are used, and the limit is as before
record Uses (slots : ℕ) (before after : HeapView) : Type 0 where
  used : after.used ≡ before.used + slots
  limit : after.limit ≡ before.limit

array-uses : (kind : ℕ) (v : Datum) (n : ℕ) (h : HeapView) → Uses (1 + n) h (with_array kind v n h)
array-uses kind v n h = record { used = ap (λ m. h.used + (1 + m)) (length-replicate n _); limit = refl }

parts-use : (make : HeapView → HeapView) (slots : ℕ) → ((h : HeapView) → Uses slots h (make h)) → (array at left : ℕ) (h : HeapView)
    → Uses (left * slots) h (with_parts make array at left h)
parts-use make slots each array at zero h = record { used = omega arith; limit = refl }
parts-use make slots each array at (suc left) h =
    let put = with_slot_at array at (datum.Ref (next_number h)) h in
    let part = each put in
    let rest = parts-use make slots each array (at + 1) left (make put) in
    record { used = grind (arith, part.used, rest.used); limit = rest.limit ∙ part.limit }

arrays-use : (lengths : List ℕ) (kind : ℕ) (h : HeapView) → Uses (slots_of_arrays lengths) h (with_arrays kind lengths h)
arrays-use [] kind h = record { used = omega arith; limit = refl }
arrays-use (n ∷ []) kind h =
    let one = array-uses kind (datum.Int (pos 0)) n h in
    record { used = grind (arith, one.used); limit = refl }
arrays-use (n ∷ next ∷ more) kind h =
    let one = array-uses kind (datum.Int (pos 0)) n h in
    let parts = parts-use (with_arrays (kind - first_array) (next ∷ more)) (slots_of_arrays (next ∷ more))
    (λ g. arrays-use (next ∷ more) (kind - first_array) g) (next_number h) 0 n (with_array kind (datum.Int (pos 0)) n h) in
    record { used = grind (arith, one.used, parts.used); limit = parts.limit }

-- ---- room for the parts that are left

one-less : (n at slots : ℕ) → at < n → (n - at) * slots ≡ slots + (n - (at + 1)) * slots
one-less n at slots more =
    ap (λ left. left * slots) (let one : n - at ≡ suc (n - (at + 1)) = omega arith in one) ∙ by (n - (at + 1))
  where
    by : (left : ℕ) → suc left * slots ≡ slots + left * slots
    by left = grind (arith)

pub room_behind : (kind n at array : ℕ) (v : Datum) (rest : List ℕ) (h put after : HeapView) → at < n → put ≡ with_slot_at array at v h
    → after ≡ with_arrays kind rest put → h.used + (n - at) * slots_of_arrays rest ≤ h.limit
    → after.used + (n - (at + 1)) * slots_of_arrays rest ≤ after.limit
room_behind kind n at array v rest h put after more is made fits =
    let part = arrays-use rest kind put in
    let used : after.used ≡ h.used + slots_of_arrays rest = ap (λ (g : HeapView). g.used) made ∙ (part.used ∙ ap (λ (g : HeapView). g.used + slots_of_arrays rest) is) in
    let limit : after.limit ≡ h.limit = ap (λ (g : HeapView). g.limit) made ∙ (part.limit ∙ ap (λ (g : HeapView). g.limit) is) in
    omega (arith, one-less n at (slots_of_arrays rest) more, fits, used, limit)
