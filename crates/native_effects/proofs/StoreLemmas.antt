-- Values that are put into slots one after the other.
use Rattle.std.proofs.Common.{◌≡◌, ℕ, ◌+◌, ◌<◌, ◌≤◌, List, [], ◌∷◌, Bool, if◌then◌else◌, refl, sym, ap, ◌∙◌, drop}
use Rattle.std.specs.Prelude.{Some, slice_get}
use Rattle.std.proofs.lemmas.Bool.{le-ltb, lt-ltb}
use Rattle.heap_objects.specs.declared.datum.Datum.{Datum}
use Rattle.heap_objects.specs.Changes.{changed_if}
use Rattle.heap_objects.specs.Heaps.{HeapView, has_slot_at, with_slot_at}
use Rattle.native_effects.specs.Inputs.Objects.{size_at}
use Rattle.native_effects.specs.Effects.Making.{put_at, with_values}
use Rattle.native_effects.proofs.ListLemmas.{drop_found}

-- there is no slot more
pub stored_all : (object slot : ℕ) (values : List Datum) (h : HeapView) → size_at object h ≤ slot → with_values object slot values h ≡ h
stored_all object slot [] h past = refl
stored_all object slot (v ∷ values) h past =
    ap (λ b. if b then with_values object (slot + 1) values (put_at object slot v h) else h) (le-ltb slot (size_at object h) past)

stores : (object slot : ℕ) (v : Datum) (values : List Datum) (h : HeapView) → slot < size_at object h
    → with_values object slot (v ∷ values) h ≡ with_values object (slot + 1) values (put_at object slot v h)
stores object slot v values h within =
    ap (λ b. if b then with_values object (slot + 1) values (put_at object slot v h) else h) (lt-ltb slot (size_at object h) within)

-- one value is put
pub stored_one : (object slot place : ℕ) (values : List Datum) (v : Datum) (h new : HeapView) (done : Bool) → slot < size_at object h
    → Some v ≡ slice_get values place → done ≡ has_slot_at object slot h → new ≡ changed_if done (with_slot_at object slot v) h
    → with_values object (slot + 1) (drop (place + 1) values) new ≡ with_values object slot (drop place values) h
stored_one object slot place values v h new done within here answer is =
    let put : new ≡ put_at object slot v h = is ∙ ap (λ b. changed_if b (with_slot_at object slot v) h) answer in
    ap (with_values object (slot + 1) (drop (place + 1) values)) put
    ∙ sym (ap (λ vs. with_values object slot vs h) (drop_found place values v here) ∙ stores object slot v (drop (place + 1) values) h within)
