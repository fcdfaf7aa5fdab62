-- An exception that the machine makes (JVM Specification 2.10), by the kind of its class: object 1 stands for one that
-- does not fit.
use Rattle.std.specs.Prelude.{ℕ, ◌+◌, Bool, List, [], ◌∷◌, length, nat_le, if◌then◌else◌}
use Rattle.heap_objects.specs.declared.datum.Datum.TheVariants.{Ref}
use Rattle.heap_objects.specs.Heaps.{HeapView, next_number, with_instance, with_text}
use Rattle.jvm_model.specs.Basis.SharedState.{null}

-- of this kind, without a message
abbrev pub reference_made : HeapView → ℕ
reference_made h = if nat_le (h.used + 3) h.limit then next_number h else 1

-- with this cause
abbrev pub heap_made : ℕ → ℕ → HeapView → HeapView
heap_made kind cause h = if nat_le (h.used + 3) h.limit then with_instance kind (null ∷ Ref cause ∷ []) h else h

-- behind the text of its message
abbrev pub with_both : ℕ → ℕ → List ℕ → HeapView → HeapView
with_both string kind units h = with_instance kind (Ref (next_number h) ∷ null ∷ []) (with_text string units h)

abbrev pub has_room_for_both : List ℕ → HeapView → Bool
has_room_for_both units h = nat_le (h.used + (1 + length units + 3)) h.limit

abbrev pub reference_of_both : ℕ → List ℕ → HeapView → ℕ
reference_of_both string units h = if has_room_for_both units h then next_number (with_text string units h) else 1

abbrev pub heap_with_both : ℕ → ℕ → List ℕ → HeapView → HeapView
heap_with_both string kind units h = if has_room_for_both units h then with_both string kind units h else h
