-- Heaps by hand: what is there and what is not, the limit, texts that grow, narrow arrays, interned texts.
use Rattle.std.proofs.Common.{◌≡◌, ◌<◌, ◌≤◌, ◌+◌, ℕ, Bool, true, false, List, [], ◌∷◌, Some, None, refl, map, arith}
use Rattle.std.specs.Prelude.{pos, negsuc, replicate, length}
use Rattle.std.specs.Int.{int_wrap}
use Rattle.heap_objects.specs.declared.datum.Datum.{Datum}
use Rattle.heap_objects.specs.declared.datum.Datum.TheVariants.{Int, Long, Ref}
use Rattle.heap_objects.specs.declared.object.Object.{Object}
use Rattle.heap_objects.specs.declared.object.Object.TheVariants.{Instance, Array, Text}
use Rattle.heap_objects.specs.Kinds.{element_of}
use Rattle.heap_objects.specs.Kept.{element_kept}
use Rattle.heap_objects.specs.Objects.{object_at}
use Rattle.heap_objects.specs.Heaps.{HeapView, empty_heap, ExceedsLimit, slot_at, has_slot_at, has_unit_at, kind_at, length_at, units_at, with_instance, with_array, with_text, interned_number, with_interned, with_slot_at, with_unit_at, growth_of, with_units_added, with_units_replaced}

-- the kinds of a class, of its texts, and of arrays of ints
abbrev class : ℕ
class = 256

abbrev text : ℕ
text = 16

abbrev ints : ℕ
ints = 16777226

-- ---- what objects have: an instance, an array and a text

abbrev made : HeapView
made = with_text text (72 ∷ 105 ∷ []) (with_array ints (Int (pos 0)) 2 (with_instance class (Int (negsuc 0) ∷ Long (pos 5) ∷ Ref 0 ∷ []) (empty_heap 100)))

-- 0, the three of them, the next number, and the greatest
abbrev numbers : List ℕ
numbers = 0 ∷ 1 ∷ 2 ∷ 3 ∷ 4 ∷ 4294967295 ∷ []

used : made.used ≡ 10
used = refl

kinds : map (λ object. kind_at object made) numbers ≡ None ∷ Some class ∷ Some ints ∷ Some text ∷ None ∷ None ∷ []
kinds = refl

lengths : map (λ object. length_at object made) numbers ≡ None ∷ Some 3 ∷ Some 2 ∷ Some 2 ∷ None ∷ None ∷ []
lengths = refl

second_slots : map (λ object. slot_at object 1 made) numbers ≡ None ∷ Some (Long (pos 5)) ∷ Some (Int (pos 0)) ∷ None ∷ None ∷ None ∷ []
second_slots = refl

third_slots : map (λ object. has_slot_at object 2 made) numbers ≡ false ∷ true ∷ false ∷ false ∷ false ∷ false ∷ []
third_slots = refl

fourth_slots : map (λ object. has_slot_at object 3 made) numbers ≡ false ∷ false ∷ false ∷ false ∷ false ∷ false ∷ []
fourth_slots = refl

units : map (λ object. units_at object made) numbers ≡ None ∷ None ∷ None ∷ Some (72 ∷ 105 ∷ []) ∷ None ∷ None ∷ []
units = refl

written : slot_at 1 2 (with_slot_at 1 2 (Ref 3) made) ≡ Some (Ref 3)
written = refl

-- ---- a limit of nine slots: an object of eight takes all of them

instance_of_8 : (with_instance class (replicate 8 (Int (pos 1))) (empty_heap 9)).used ≡ 9
instance_of_8 = refl

array_of_8 : (with_array ints (Int (pos 0)) 8 (empty_heap 9)).used ≡ 9
array_of_8 = refl

text_of_8 : (with_text text (replicate 8 1) (empty_heap 9)).used ≡ 9
text_of_8 = refl

interned_of_8 : (with_interned text (replicate 8 1) (empty_heap 9)).used ≡ 9
interned_of_8 = refl

-- what is there takes nothing
interned_again : with_interned text (replicate 8 1) (with_interned text (replicate 8 1) (empty_heap 9)) ≡ with_interned text (replicate 8 1) (empty_heap 9)
interned_again = refl

of_9_is_too_much : ExceedsLimit (1 + 9) (empty_heap 9)
of_9_is_too_much = omega arith

nothing_more : ExceedsLimit (1 + 0) (with_text text (replicate 8 1) (empty_heap 9))
nothing_more = omega arith

greatest_array : ExceedsLimit (1 + 4294967295) (empty_heap 9)
greatest_array = omega arith

-- ---- a text of three units in seven slots

abbrev grown : HeapView
grown = with_text text (1 ∷ 2 ∷ 3 ∷ []) (empty_heap 7)

four_more : ExceedsLimit 4 grown
four_more = omega arith

seven_in_place : growth_of 1 (replicate 7 5) grown ≡ 4
seven_in_place = refl

abbrev with_one : HeapView
with_one = with_units_added 1 (6 ∷ []) grown

one_more : units_at 1 with_one ≡ Some (1 ∷ 2 ∷ 3 ∷ 6 ∷ [])
one_more = refl

abbrev with_six : HeapView
with_six = with_units_replaced 1 (replicate 6 7) with_one

six_in_place : units_at 1 with_six ≡ Some (replicate 6 7)
six_in_place = refl

all_used : with_six.used ≡ 7
all_used = refl

-- no longer than it was, but nothing is given back
abbrev with_two : HeapView
with_two = with_units_replaced 1 (8 ∷ 8 ∷ []) with_six

two_in_place : units_at 1 with_two ≡ Some (8 ∷ 8 ∷ [])
two_in_place = refl

nothing_back : with_two.used ≡ 7
nothing_back = refl

three_in_place : growth_of 1 (8 ∷ 8 ∷ 8 ∷ []) with_two ≡ 1
three_in_place = refl

one_is_too_much : ExceedsLimit 1 with_two
one_is_too_much = omega arith

-- ---- a unit in its place, beside an array

abbrev beside : HeapView
beside = with_text text (1 ∷ 2 ∷ 3 ∷ []) (with_array ints (Int (pos 0)) 5 (empty_heap 100))

unit_places : has_unit_at 0 0 beside ∷ has_unit_at 1 0 beside ∷ has_unit_at 2 0 beside ∷ has_unit_at 2 2 beside ∷ has_unit_at 2 3 beside ∷ has_unit_at 2 4294967295 beside ∷ has_unit_at 3 0 beside ∷ []
    ≡ false ∷ false ∷ true ∷ true ∷ false ∷ false ∷ false ∷ []
unit_places = refl

both_ends : units_at 2 (with_unit_at 2 2 65535 (with_unit_at 2 0 65535 beside)) ≡ Some (65535 ∷ 2 ∷ 65535 ∷ [])
both_ends = refl

-- ---- what an array of a kind keeps of a value

abbrev kept : ℕ → Datum → Datum
kept kind value = element_kept (element_of kind) value

booleans : map (kept 16777220) (Int (pos 6) ∷ Int (negsuc 0) ∷ []) ≡ Int (pos 0) ∷ Int (pos 1) ∷ []
booleans = refl

chars : kept 16777221 (Int (negsuc 0)) ≡ Int (pos 65535)
chars = refl

bytes : kept 16777224 (Int (pos 128)) ≡ Int (negsuc 127)
unfolding int_wrap
bytes = refl

shorts : kept 16777225 (Int (pos 98304)) ≡ Int (negsuc 32767)
unfolding int_wrap
shorts = refl

least_int : kept ints (Int (negsuc 2147483647)) ≡ Int (negsuc 2147483647)
least_int = refl

least_long : kept 16777227 (Long (negsuc 9223372036854775807)) ≡ Long (negsuc 9223372036854775807)
least_long = refl

references : map (λ kind. kept kind (Ref 7)) (16777232 ∷ 33554436 ∷ []) ≡ Ref 7 ∷ Ref 7 ∷ []
references = refl

-- an element past the end is none
past_the_end : slot_at 1 3 (with_array 16777220 (Int (pos 6)) 3 (empty_heap 100)) ≡ None
past_the_end = refl

-- ---- interned texts

-- a text that was made before is not the one that is interned
abbrev first_interned : HeapView
first_interned = with_interned text (9 ∷ []) (with_text text (9 ∷ []) (empty_heap 100))

made_anew : interned_number (9 ∷ []) (with_text text (9 ∷ []) (empty_heap 100)) ≡ 2
made_anew = refl

-- it is found by the units that it had
abbrev grown_interned : HeapView
grown_interned = with_units_added 2 (9 ∷ []) (with_interned text (9 ∷ 9 ∷ []) first_interned)

by_what_it_had : interned_number (9 ∷ []) grown_interned ∷ interned_number (9 ∷ 9 ∷ []) grown_interned ∷ interned_number (0 ∷ 1 ∷ []) grown_interned ∷ [] ≡ 2 ∷ 3 ∷ 4 ∷ []
by_what_it_had = refl
