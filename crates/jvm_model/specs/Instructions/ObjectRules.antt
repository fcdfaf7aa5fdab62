-- Instructions that see objects: arrays, monitors and athrow (JVM Specification 2.10, 2.11.5, 2.11.10, 6.5). Null is
-- asked first, then the class of the object, then what the instruction asks besides.
use Rattle.std.specs.Prelude.{ℕ, ◌+◌, ◌-◌, Bool, true, false, [], ◌∷◌, drop, nat_le, Option, Some, None, ℤ, pos, negsuc, ◌==◌, ◌||◌, if◌then◌else◌}
use Rattle.std.specs.Option.{option_and_then, option_map, option_map_or}
use Rattle.std.specs.Fmt.{signed_decimal}
use Rattle.heap_objects.specs.declared.datum.Datum.TheVariants as datum
use Rattle.heap_objects.specs.declared.element.ElementType.{ElementType}
use Rattle.heap_objects.specs.declared.element.ElementType.TheVariants as element
use Rattle.heap_objects.specs.declared.Value.TheVariants.{Int, Ref}
use Rattle.heap_objects.specs.Heaps.{HeapView, has_slot_at, kind_at, length_at, next_number, slot_at, with_array, with_slot_at}
use Rattle.heap_objects.specs.Kinds.{element_of}
use Rattle.const_pool.specs.declared.descriptor.Kind.{Kind}
use Rattle.const_pool.specs.declared.descriptor.Kind.TheVariants as kind
use Rattle.jvm_model.specs.Basis.Data.{Datum, Locals, Operands, Program, Shared, World, Next, Outcome, GoesOn, Throws, Raises, Breaks, Done}
use Rattle.jvm_model.specs.Basis.KindNumbers.{first_array, kind_number, kind_parts}
use Rattle.jvm_model.specs.Classes.Kinds.{is_subkind}
use Rattle.jvm_model.specs.Instructions.LocalRules.{replaces}
use Rattle.jvm_model.specs.Classes.Lookup.{is_below}
use Rattle.jvm_model.specs.Basis.SharedState.{class_of, throwable, null_pointer, index_outside, negative_array_size, array_store}
use Rattle.jvm_model.specs.Basis.Values.{as_value, datum_of}

-- nothing that is shared is changed
abbrev pub done : Shared → Outcome → Done
done s outcome = record { shared = s; wrote = []; outcome = outcome }

-- ---- what is asked of an array: arraylength

abbrev pub is_array : ℕ → Bool
is_array kind = nat_le first_array kind

-- how many elements an array has; any other object has none
abbrev pub array_length : ℕ → HeapView → Option ℕ
array_length r h = option_and_then (λ kind. if is_array kind then length_at r h else None) (kind_at r h)

abbrev pub measures : Option ℕ → Shared → Locals → Operands → Outcome
measures None s l o = Breaks false
measures (Some r) s l o =
    if r == 0 then Raises null_pointer None
    else replaces 1 (option_map (λ count. Int (pos count)) (array_length r s.heap)) l o

-- ---- newarray

-- the kind of an array of elements with this code
abbrev pub array_kind : ℕ → ℕ
array_kind code = kind_number (record { dimensions = 1; base = code })

-- an array of so many elements, all 0; where it does not fit object 1 is thrown
abbrev pub makes_array : ℕ → ℕ → Shared → Locals → Operands → Done
makes_array kind count s l o =
    if nat_le (s.heap.used + (1 + count)) s.heap.limit
    then record {
      shared = record s { heap = with_array kind (datum.Int (pos 0)) count s.heap };
      wrote = [];
      outcome = GoesOn l (Ref (next_number s.heap) ∷ drop 1 o) Next;
    }
    else done s (Throws 1)

abbrev pub makes : ℕ → Option ℤ → Shared → Locals → Operands → Done
makes kind None s l o = done s (Breaks false)
makes kind (Some (negsuc n)) s l o = done s (Raises negative_array_size None)
makes kind (Some (pos count)) s l o = makes_array kind count s l o

-- ---- elements: iaload, .., saload, iastore, .., sastore

-- instructions of this kind serve arrays of these elements
abbrev pub serves : Kind → ElementType → Bool
serves kind.Int element.Int = true
serves kind.Long element.Long = true
serves kind.Ref element.Reference = true
serves kind.Byte element.Byte = true
serves kind.Byte element.Boolean = true
serves kind.Char element.Char = true
serves kind.Short element.Short = true
serves k e = false

abbrev pub serves_object : Kind → ℕ → HeapView → Bool
serves_object k r h = option_map_or (λ kind. serves k (element_of kind)) (kind_at r h) false

-- Where an array and an index lead: the array is null, or the object none that the instruction serves, or the index is
-- outside, or it is that of an element.
pub data Access : Type 0 where
  ToNull : Access
  ToAnother : Access
  Outside : Access
  Inside : ℕ → Access

abbrev pub index_in : ℕ → ℤ → HeapView → Access
index_in r (negsuc i) h = Outside
index_in r (pos i) h = if has_slot_at r i h then Inside i else Outside

abbrev pub access_to : Kind → ℕ → ℤ → HeapView → Access
access_to k r i h =
    if r == 0 then ToNull
    else if serves_object k r h then index_in r i h
    else ToAnother

-- what is asked where it leads to no element; the exception tells the index in decimal
abbrev pub access_refused : Access → ℤ → Outcome
access_refused ToNull i = Raises null_pointer None
access_refused ToAnother i = Breaks false
access_refused Outside i = Raises index_outside (Some (signed_decimal i))
access_refused (Inside slot) i = Breaks false

abbrev pub loads_at : Access → ℕ → ℤ → Shared → Locals → Operands → Outcome
loads_at (Inside slot) r i s l o = replaces 2 (option_map as_value (slot_at r slot s.heap)) l o
loads_at access r i s l o = access_refused access i

-- an array and an index
abbrev pub array_element_of : Operands → Option (ℕ × ℤ)
array_element_of (Int i ∷ Ref r ∷ below) = Some (r, i)
array_element_of _ = None

abbrev pub loads_element : Kind → Option (ℕ × ℤ) → Shared → Locals → Operands → Outcome
loads_element k None s l o = Breaks false
loads_element k (Some at) s l o = loads_at (access_to k at.0 at.1 s.heap) at.0 at.1 s l o

-- objects of the first kind can be elements of arrays of the second
abbrev pub is_element : Program → Option ℕ → Option ℕ → Bool
is_element p (Some lower) (Some array) = is_subkind p (kind_parts lower) (kind_parts (array - first_array))
is_element p _ _ = false

-- of aastore: null, or an object of the elements' class
abbrev pub fits_array : Program → Datum → ℕ → HeapView → Bool
fits_array p (datum.Ref v) r h = v == 0 || is_element p (kind_at v h) (kind_at r h)
fits_array p _ r h = true

abbrev pub stores_at : Program → Access → ℕ → ℤ → Datum → Shared → Locals → Operands → Done
stores_at p (Inside slot) r i d s l o =
    if fits_array p d r s.heap
    then record { shared = record s { heap = with_slot_at r slot d s.heap }; wrote = []; outcome = GoesOn l (drop 3 o) Next }
    else done s (Raises array_store None)
stores_at p access r i d s l o = done s (access_refused access i)

-- an array, an index and a value that elements of this kind may have
pub record Storing : Type 0 where
  pub array : ℕ
  pub index : ℤ
  pub datum : Datum

abbrev pub storing_of : Kind → Operands → Option Storing
storing_of k (v ∷ Int i ∷ Ref r ∷ below) = option_map (λ d. record { array = r; index = i; datum = d }) (datum_of k v)
storing_of k _ = None

abbrev pub stores_element : Program → Kind → Option Storing → Shared → Locals → Operands → Done
stores_element p k None s l o = done s (Breaks false)
stores_element p k (Some x) s l o = stores_at p (access_to k x.array x.index s.heap) x.array x.index x.datum s l o

-- ---- monitorenter, monitorexit: of one thread nothing but the null check is left

abbrev pub watches : Option ℕ → Locals → Operands → Outcome
watches None l o = Breaks false
watches (Some r) l o = if r == 0 then Raises null_pointer None else GoesOn l (drop 1 o) Next

-- ---- athrow

abbrev pub throws : World → Shared → Option ℕ → Outcome
throws w s None = Breaks false
throws w s (Some r) =
    if r == 0 then Raises null_pointer None
    else if is_below w.program (class_of w.program s r) throwable then Throws r
    else Breaks false
