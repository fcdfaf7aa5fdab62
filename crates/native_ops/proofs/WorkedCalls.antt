-- What calls do on small worlds, computed. Objects are told by their numbers, and methods by theirs.
use Rattle.std.proofs.Common.{◌≡◌, ℕ, List, [], ◌∷◌, ◌++◌, Some, None, refl, ◌==◌, if◌then◌else◌, pos, negsuc}
use Rattle.std.specs.Prelude.{Option, codes, ◌||◌}
use Rattle.std.specs.Fmt.{digits}
use Rattle.std.specs.Int.{int_wrap}
use Rattle.jf_bytes.specs.Unicode.{utf8_of}
use Rattle.heap_objects.specs.declared.datum.Datum.{Datum}
use Rattle.heap_objects.specs.declared.datum.Datum.TheVariants.{Int, Long, Ref}
use Rattle.heap_objects.specs.declared.object.Object.{Object}
use Rattle.heap_objects.specs.declared.object.Object.TheVariants.{Instance, Array, Text}
use Rattle.native_effects.specs.declared.effects.answer.Answer.{Answer}
use Rattle.native_effects.specs.declared.effects.answer.Answer.TheVariants.{Value, Throws, Exit, Bad}
use Rattle.native_effects.specs.Inputs.KindsViews.{KindsView, is_among}
use Rattle.native_effects.specs.Inputs.MadeViews.{nothing_made}
use Rattle.native_ops.specs.Methods.Rows.{rows}
use Rattle.native_effects.specs.Effects.Worlds.{World}
use Rattle.native_ops.specs.Methods.Calls.{answer_by, world_by}

-- the classes: of the program's, 256 and 258 extend java/lang/Enum, and 257 extends 256
abbrev names : ℕ → Option (List ℕ)
names kind = if kind == 23 then Some (codes "java/lang/String") else if kind == 256 then Some (codes "p/Colour") else None

abbrev supers : ℕ → Option ℕ
supers kind =
    if kind == 256 || kind == 258 then Some 35 else
    if kind == 257 then Some 256 else
    if kind == 30 then Some 29 else if kind == 16 then None else Some 16

abbrev classes : KindsView
classes = record { name = names; above = supers; subtype = λ lower upper. lower == upper || upper == 16 }

-- a world with these objects, room for so many slots, and this input
abbrev with : List Object → ℕ → List ℕ → World
with objects room input =
    record {
      heap = record { limit = room; used = 0; objects = objects; interned = [] };
      made = nothing_made;
      input = input;
      read = 0;
      wrote = [];
    }

abbrev abc : World
abc = with (Text 23 (codes "abc") ∷ Text 23 (codes "abd") ∷ Text 24 (codes "ab") ∷ []) 100 []

abbrev objects_after : ℕ → List Datum → World → List Object
objects_after number args w = (world_by number classes args w).heap.objects

abbrev answers : ℕ → List Datum → World → Answer
answers number args w = answer_by number classes args w

abbrev int : ℕ → Answer
int n = Value (Some (Int (pos n)))

abbrev object : ℕ → Answer
object n = Value (Some (Ref n))

-- ---- java/lang/String

substring_inside : answers 22 (Ref 1 ∷ Int (pos 1) ∷ Int (pos 2) ∷ []) abc ≡ object 4
unfolding rows
substring_inside = refl

substring_units : objects_after 22 (Ref 1 ∷ Int (pos 1) ∷ Int (pos 2) ∷ []) abc
    ≡ Text 23 (codes "abc") ∷ Text 23 (codes "abd") ∷ Text 24 (codes "ab") ∷ Text 23 (codes "b") ∷ []
unfolding rows
substring_units = refl

substring_whole : answers 22 (Ref 1 ∷ Int (pos 0) ∷ Int (pos 3) ∷ []) abc ≡ object 1
unfolding rows
substring_whole = refl

substring_outside : answers 22 (Ref 1 ∷ Int (pos 2) ∷ Int (pos 4) ∷ []) abc ≡ Throws 38
unfolding rows
substring_outside = refl

substring_backwards : answers 22 (Ref 1 ∷ Int (pos 2) ∷ Int (pos 1) ∷ []) abc ≡ Throws 38
unfolding rows
substring_backwards = refl

substring_missing : answers 22 (Ref 1 ∷ Int (pos 0) ∷ []) abc ≡ Bad
unfolding rows
substring_missing = refl

substring_of_null : answers 22 (Ref 0 ∷ Int (pos 0) ∷ Int (pos 0) ∷ []) abc ≡ Bad
unfolding rows
substring_of_null = refl

length_of_a_builder : answers 12 (Ref 3 ∷ []) abc ≡ Bad
unfolding rows
length_of_a_builder = refl

hash : answers 16 (Ref 1 ∷ []) abc ≡ int 96354
unfolding rows
hash = refl

compared : answers 18 (Ref 1 ∷ Ref 2 ∷ []) abc ≡ Value (Some (Int (negsuc 0)))
unfolding rows
compared = refl

compared_with_a_builder : answers 19 (Ref 1 ∷ Ref 3 ∷ []) abc ≡ Throws 29
unfolding rows
compared_with_a_builder = refl

equal_to_a_builder : answers 15 (Ref 1 ∷ Ref 3 ∷ []) abc ≡ int 0
unfolding rows
equal_to_a_builder = refl

concat_null : answers 20 (Ref 1 ∷ Ref 0 ∷ []) abc ≡ Throws 34
unfolding rows
concat_null = refl

interned_anew : answers 25 (Ref 1 ∷ []) abc ≡ object 4
unfolding rows
interned_anew = refl

found : answers 23 (Ref 1 ∷ Int (pos 99) ∷ []) abc ≡ int 2
unfolding rows
found = refl

found_pair : answers 23 (Ref 1 ∷ Int (pos 66560) ∷ []) (with (Text 23 (97 ∷ 55297 ∷ 56320 ∷ []) ∷ []) 9 []) ≡ int 1
unfolding rows
found_pair = refl

part_of_an_array : objects_after 11 (Ref 1 ∷ Ref 2 ∷ Int (pos 1) ∷ Int (pos 2) ∷ [])
    (with (Text 23 [] ∷ Array (record { kind = 16777221; items = Int (pos 97) ∷ Int (pos 98) ∷ Int (pos 99) ∷ [] }) ∷ []) 9 [])
    ≡ Text 23 (codes "bc") ∷ Array (record { kind = 16777221; items = Int (pos 97) ∷ Int (pos 98) ∷ Int (pos 99) ∷ [] }) ∷ []
unfolding rows
part_of_an_array = refl

-- ---- the builders

appended_null : objects_after 35 (Ref 3 ∷ Ref 0 ∷ []) abc ≡ Text 23 (codes "abc") ∷ Text 23 (codes "abd") ∷ Text 24 (codes "abnull") ∷ []
unfolding rows
appended_null = refl

appended_int : objects_after 36 (Ref 3 ∷ Int (negsuc 11) ∷ []) abc ≡ Text 23 (codes "abc") ∷ Text 23 (codes "abd") ∷ Text 24 (codes "ab-12") ∷ []
unfolding rows digits
appended_int = refl

appended_long : objects_after 37 (Ref 3 ∷ Long (pos 4294967296) ∷ []) abc
    ≡ Text 23 (codes "abc") ∷ Text 23 (codes "abd") ∷ Text 24 (codes "ab4294967296") ∷ []
unfolding rows digits
appended_long = refl

padded : objects_after 44 (Ref 3 ∷ Int (pos 3) ∷ []) abc
    ≡ Text 23 (codes "abc") ∷ Text 23 (codes "abd") ∷ Text 24 (codes "ab" ++ 0 ∷ []) ∷ []
unfolding rows
padded = refl

cut : objects_after 44 (Ref 3 ∷ Int (pos 1) ∷ []) abc ≡ Text 23 (codes "abc") ∷ Text 23 (codes "abd") ∷ Text 24 (codes "a") ∷ []
unfolding rows
cut = refl

no_room : answers 44 (Ref 3 ∷ Int (pos 103) ∷ []) abc ≡ Throws 51
unfolding rows
no_room = refl

deleted : objects_after 45 (Ref 3 ∷ Int (pos 0) ∷ []) abc ≡ Text 23 (codes "abc") ∷ Text 23 (codes "abd") ∷ Text 24 (codes "b") ∷ []
unfolding rows
deleted = refl

put_in_place : objects_after 43 (Ref 3 ∷ Int (pos 1) ∷ Int (pos 65635) ∷ []) abc ≡ Text 23 (codes "abc") ∷ Text 23 (codes "abd") ∷ Text 24 (codes "ac") ∷ []
unfolding rows
put_in_place = refl

put_answers_nothing : answers 43 (Ref 3 ∷ Int (pos 1) ∷ Int (pos 99) ∷ []) abc ≡ Value None
unfolding rows
put_answers_nothing = refl

put_behind : answers 43 (Ref 3 ∷ Int (pos 2) ∷ Int (pos 99) ∷ []) abc ≡ Throws 38
unfolding rows
put_behind = refl

-- ---- streams and java/lang/System

read : answers 62 (Ref 1 ∷ []) (with (Instance 26 [] ∷ []) 9 (255 ∷ [])) ≡ int 255
unfolding rows is_among
read = refl

read_on : (world_by 62 classes (Ref 1 ∷ []) (with (Instance 26 [] ∷ []) 9 (255 ∷ []))).read ≡ 1
unfolding rows is_among
read_on = refl

-- what is written is that of the call alone
printed : (world_by 74 classes (Ref 1 ∷ Ref 2 ∷ []) (with (Instance 27 [] ∷ Text 23 (codes "abc") ∷ []) 9 [])).wrote
    ≡ utf8_of (codes "abc" ++ 10 ∷ [])
unfolding rows is_among
printed = refl

exits : answers 78 (Int (negsuc 0) ∷ []) abc ≡ Exit (negsuc 0)
unfolding rows
exits = refl

abbrev ints : World
ints = with (Array (record { kind = 16777226; items = Int (pos 1) ∷ Int (pos 2) ∷ Int (pos 3) ∷ [] }) ∷ []) 9 []

copied_over_itself : objects_after 79 (Ref 1 ∷ Int (pos 0) ∷ Ref 1 ∷ Int (pos 1) ∷ Int (pos 2) ∷ []) ints
    ≡ Array (record { kind = 16777226; items = Int (pos 1) ∷ Int (pos 1) ∷ Int (pos 2) ∷ [] }) ∷ []
unfolding rows
copied_over_itself = refl

copied_too_far : answers 79 (Ref 1 ∷ Int (pos 0) ∷ Ref 1 ∷ Int (pos 2) ∷ Int (pos 2) ∷ []) ints ≡ Throws 37
unfolding rows
copied_too_far = refl

-- an array of String, of which one element may not stand in an array of Integer
copied_in_part : objects_after 79 (Ref 1 ∷ Int (pos 0) ∷ Ref 2 ∷ Int (pos 0) ∷ Int (pos 2) ∷ [])
    (with (Array (record { kind = 16777239; items = Ref 0 ∷ Ref 3 ∷ [] }) ∷ Array (record { kind = 16777246; items = Ref 4 ∷ Ref 4 ∷ [] })
    ∷ Text 23 [] ∷ Instance 30 (Int (pos 5) ∷ []) ∷ []) 9 [])
    ≡ Array (record { kind = 16777239; items = Ref 0 ∷ Ref 3 ∷ [] }) ∷ Array (record { kind = 16777246; items = Ref 0 ∷ Ref 4 ∷ [] })
    ∷ Text 23 [] ∷ Instance 30 (Int (pos 5) ∷ []) ∷ []
unfolding rows
copied_in_part = refl

-- ---- numbers

abbrev number : List ℕ → Answer
number text = answers 83 (Ref 1 ∷ []) (with (Text 23 text ∷ []) 9 [])

minus_zero : number (codes "-0") ≡ int 0
unfolding rows
minus_zero = refl

plus_one : number (codes "+1") ≡ Throws 36
unfolding rows
plus_one = refl

minus_alone : number (codes "-") ≡ Throws 36
unfolding rows
minus_alone = refl

nothing : number [] ≡ Throws 36
unfolding rows
nothing = refl

greatest : number (codes "0002147483647") ≡ int 2147483647
unfolding rows
greatest = refl

too_great : number (codes "2147483648") ≡ Throws 36
unfolding rows
too_great = refl

least : number (codes "-2147483648") ≡ Value (Some (Int (negsuc 2147483647)))
unfolding rows
least = refl

no_number : answers 83 (Ref 0 ∷ []) abc ≡ Throws 36
unfolding rows
no_number = refl

hexadecimal : objects_after 85 (Int (negsuc 0) ∷ []) (with [] 9 []) ≡ Text 23 (codes "ffffffff") ∷ []
unfolding rows digits
hexadecimal = refl

no_letter : answers 104 (Int (pos 196) ∷ []) abc ≡ int 0
unfolding rows
no_letter = refl

hash_of_minus_one : answers 98 (Ref 1 ∷ []) (with (Instance 31 (Long (negsuc 0) ∷ []) ∷ []) 9 []) ≡ int 0
unfolding rows is_among
hash_of_minus_one = refl

abbrev boxed : World
boxed = world_by 82 classes (Int (pos 127) ∷ []) (with [] 9 [])

boxed_once : answers 82 (Int (pos 127) ∷ []) boxed ≡ object 1
unfolding rows
boxed_once = refl

boxed_anew : answers 82 (Int (pos 128) ∷ []) (world_by 82 classes (Int (pos 128) ∷ []) (with [] 9 [])) ≡ object 2
unfolding rows
boxed_anew = refl

-- a Long of equal value is another class's
unequal : answers 88 (Ref 1 ∷ Ref 2 ∷ []) (with (Instance 30 (Int (pos 5) ∷ []) ∷ Instance 31 (Long (pos 5) ∷ []) ∷ []) 9 []) ≡ int 0
unfolding rows is_among
unequal = refl

uncompared : answers 91 (Ref 1 ∷ Ref 2 ∷ []) (with (Instance 30 (Int (pos 5) ∷ []) ∷ Instance 31 (Long (pos 5) ∷ []) ∷ []) 9 []) ≡ Throws 29
unfolding rows is_among
uncompared = refl

least_is_its_own : answers 116 (Int (negsuc 2147483647) ∷ []) abc ≡ Value (Some (Int (negsuc 2147483647)))
unfolding rows int_wrap
least_is_its_own = refl

-- ---- java/lang/Enum, java/lang/Throwable

abbrev constants : World
constants = with (Instance 256 (Ref 0 ∷ Int (pos 0) ∷ []) ∷ Instance 257 (Ref 0 ∷ Int (pos 3) ∷ []) ∷ Instance 258 (Ref 0 ∷ Int (pos 1) ∷ []) ∷ []) 9 []

constants_compared : answers 128 (Ref 2 ∷ Ref 1 ∷ []) constants ≡ int 3
unfolding rows is_among int_wrap
constants_compared = refl

constants_of_two_classes : answers 128 (Ref 1 ∷ Ref 3 ∷ []) constants ≡ Throws 29
unfolding rows is_among
constants_of_two_classes = refl

-- the constructor that takes a cause makes the message null
cause_alone : objects_after 133 (Ref 1 ∷ Ref 0 ∷ []) (with (Instance 36 (Ref 9 ∷ Ref 9 ∷ []) ∷ []) 9 [])
    ≡ Instance 36 (Ref 0 ∷ Ref 0 ∷ []) ∷ []
unfolding rows is_among
cause_alone = refl

-- ---- java/lang/Object and java/lang/Class

text_of_object : objects_after 3 (Ref 1 ∷ []) (with (Instance 256 [] ∷ []) 99 []) ≡ Instance 256 [] ∷ Text 23 (codes "p.Colour@1") ∷ []
unfolding rows digits
text_of_object = refl

text_of_array : objects_after 3 (Ref 1 ∷ []) (with (Array (record { kind = 33554455; items = [] }) ∷ []) 99 [])
    ≡ Array (record { kind = 33554455; items = [] }) ∷ Text 23 (codes "[[Ljava.lang.String;@1") ∷ []
unfolding rows digits
text_of_array = refl

-- the Class object of a class is made once
class_once : answers 4 (Ref 1 ∷ []) (world_by 4 classes (Ref 1 ∷ []) (with (Instance 256 [] ∷ []) 9 [])) ≡ object 2
unfolding rows
class_once = refl

no_clone : answers 5 (Ref 1 ∷ []) (with (Instance 256 [] ∷ []) 9 []) ≡ Throws 24
unfolding rows
no_clone = refl

cloned : objects_after 5 (Ref 1 ∷ []) ints
    ≡ Array (record { kind = 16777226; items = Int (pos 1) ∷ Int (pos 2) ∷ Int (pos 3) ∷ [] })
    ∷ Array (record { kind = 16777226; items = Int (pos 1) ∷ Int (pos 2) ∷ Int (pos 3) ∷ [] }) ∷ []
unfolding rows
cloned = refl
