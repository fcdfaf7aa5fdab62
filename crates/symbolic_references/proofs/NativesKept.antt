-- What a native method leaves of what is shared: nothing is changed, or its answer is nothing, an int or a reference.
-- Only a copy of an array may store and then throw.
use Rattle.std.proofs.Common.{◌≡◌, ◌⊎◌, ℕ, ◌+◌, Bool, true, false, List, [], ◌∷◌, inl, inr, refl, sym, ap, subst, ◌∙◌, arith}
use Rattle.std.specs.Prelude.{⊤, Option, Some, None, ℤ, pos, negsuc, zero, suc, slice_get, option_and_then, is_some, IfSome, length, nat_lt, ◌==◌, ◌&&◌, if◌then◌else◌}
use Rattle.std.specs.Option.{option_map_or}
use Rattle.int_ops.specs.Arithmetic.{comparison}
use Rattle.heap_objects.specs.declared.datum.Datum.{Datum}
use Rattle.heap_objects.specs.declared.datum.Datum.TheVariants as datum
use Rattle.heap_objects.specs.Heaps.{HeapView}
use Rattle.native_effects.specs.declared.effects.answer.Answer.TheVariants as answer
use Rattle.native_effects.specs.declared.effects.effect.NativeEffect.{NativeEffect}
use Rattle.native_effects.specs.declared.effects.effect.NativeEffect.TheVariants.{Answers, MakesText, MakesArray, MakesInstance, Appends, Replaces, PutsUnit, Resizes, Interns, Prints, Reads, Stores, SetsFields, GivesClass, GivesBox}
use Rattle.native_ops.specs.declared.methods.method.Method.{Method}
use Rattle.native_ops.specs.declared.methods.method.Method.TheVariants as method
use Rattle.native_ops.specs.declared.methods.method.ObjectMethod.{ObjectMethod}
use Rattle.native_ops.specs.declared.methods.method.ObjectMethod.TheVariants as object
use Rattle.native_ops.specs.declared.methods.method.ClassMethod.{ClassMethod}
use Rattle.native_ops.specs.declared.methods.method.ClassMethod.TheVariants as class
use Rattle.native_ops.specs.declared.methods.method.StringMethod.{StringMethod}
use Rattle.native_ops.specs.declared.methods.method.StringMethod.TheVariants as string
use Rattle.native_ops.specs.declared.methods.method.BuilderMethod.{BuilderMethod}
use Rattle.native_ops.specs.declared.methods.method.BuilderMethod.TheVariants as builder
use Rattle.native_ops.specs.declared.methods.method.InputMethod.{InputMethod}
use Rattle.native_ops.specs.declared.methods.method.InputMethod.TheVariants as input
use Rattle.native_ops.specs.declared.methods.method.PrintMethod.{PrintMethod}
use Rattle.native_ops.specs.declared.methods.method.PrintMethod.TheVariants as output
use Rattle.native_ops.specs.declared.methods.method.SystemMethod.{SystemMethod}
use Rattle.native_ops.specs.declared.methods.method.SystemMethod.TheVariants as system
use Rattle.native_ops.specs.declared.methods.method.IntegerMethod.{IntegerMethod}
use Rattle.native_ops.specs.declared.methods.method.IntegerMethod.TheVariants as integer
use Rattle.native_ops.specs.declared.methods.method.LongMethod.{LongMethod}
use Rattle.native_ops.specs.declared.methods.method.LongMethod.TheVariants as long
use Rattle.native_ops.specs.declared.methods.method.CharacterMethod.{CharacterMethod}
use Rattle.native_ops.specs.declared.methods.method.CharacterMethod.TheVariants as character
use Rattle.native_ops.specs.declared.methods.method.BooleanMethod.{BooleanMethod}
use Rattle.native_ops.specs.declared.methods.method.BooleanMethod.TheVariants as boolean
use Rattle.native_ops.specs.declared.methods.method.MathMethod.{MathMethod}
use Rattle.native_ops.specs.declared.methods.method.MathMethod.TheVariants as math
use Rattle.native_ops.specs.declared.methods.method.EnumMethod.{EnumMethod}
use Rattle.native_ops.specs.declared.methods.method.EnumMethod.TheVariants as enum
use Rattle.native_ops.specs.declared.methods.method.ThrowableMethod.{ThrowableMethod}
use Rattle.native_ops.specs.declared.methods.method.ThrowableMethod.TheVariants as throwable
use Rattle.native_ops.specs.declared.methods.rows.Row.{Row}
use Rattle.native_effects.specs.Inputs.Numbers.{string_kind, integer_kind, long_kind, character_kind, cloneable_kind, enum_kind, first_array_kind, clone_not_supported_exception, class_cast_exception, null_pointer_exception, string_index_out_of_bounds_exception}
use Rattle.native_effects.specs.Inputs.Arguments.{int_in, long_in, reference_in, char_in}
use Rattle.native_effects.specs.Inputs.Objects.{text_at, size_at, kind_or_none, values_at, has_kind, int_field, long_field}
use Rattle.native_effects.specs.Inputs.KindsViews.{KindsView, is_instance}
use Rattle.native_effects.specs.Inputs.MadeViews.{MadeView}
use Rattle.native_effects.specs.Effects.Answers.{gives_int, gives_long, gives_reference, throws, unless_null}
use Rattle.native_effects.specs.Inputs.Places.{place_in, range_in, range_from, counted_range, between}
use Rattle.native_effects.specs.Inputs.Shown.{is_null_array}
use Rattle.native_effects.specs.Inputs.Parsing.{number_parsed}
use Rattle.native_ops.specs.Classes.Boxes.{small_place, char_place, box_of, compared_if}
use Rattle.native_ops.specs.Classes.Roots.{clone, object_effect, class_effect}
use Rattle.native_ops.specs.Classes.Strings.{init_text, char_at, part_of, substring, string_effect}
use Rattle.native_ops.specs.Classes.Builders.{init_capacity, set_length, builder_effect}
use Rattle.native_ops.specs.Classes.Streams.{input_effect, print_effect}
use Rattle.native_ops.specs.Classes.Copying.{system_effect}
use Rattle.native_ops.specs.Classes.Integers.{integer_effect}
use Rattle.native_ops.specs.Classes.Longs.{long_effect}
use Rattle.native_ops.specs.Classes.Characters.{character_effect, boolean_effect, math_effect}
use Rattle.native_ops.specs.Classes.Enums.{declaring_class, compare_constants, enum_effect}
use Rattle.native_ops.specs.Classes.Throwables.{throwable_effect}
use Rattle.native_ops.specs.Methods.Signatures.{parameters_of, fit}
use Rattle.native_ops.specs.Methods.Rows.{rows}
use Rattle.native_effects.specs.Effects.Worlds.{World}
use Rattle.native_ops.specs.Methods.Calls.{method_effect, row_effect, effect_of}
use Rattle.std.specs.Bool.{beq}
use Rattle.std.specs.Cmp.{booleans_Decides}
use Rattle.std.proofs.lemmas.Bool.{false≢true, and_parts}
use Rattle.native_effects.specs.declared.effects.answer.Answer.{Answer}
use Rattle.heap_objects.specs.Heaps.{growth_of, has_unit_at, units_at}
use Rattle.heap_objects.specs.Interning.{number_of}
use Rattle.native_effects.specs.Effects.Making.{is_full, units_resized}
use Rattle.native_effects.specs.Inputs.MadeViews.{object_of_box, object_of_class}
use Rattle.native_effects.specs.Inputs.Numbers.{out_of_memory_error}
use Rattle.native_effects.specs.Effects.Worlds.{after, answer_of}
use Rattle.native_ops.specs.Methods.Calls.{answer_by, world_by}

-- ---- answers that have room in place of an argument

abbrev pub IsNarrowValue : Option Datum → Type 0
IsNarrowValue (Some (datum.Long n)) = ⊥
IsNarrowValue (Some (datum.Int n)) = ⊤
IsNarrowValue (Some (datum.Ref r)) = ⊤
IsNarrowValue None = ⊤

abbrev pub IsNarrow : Answer → Type 0
IsNarrow (answer.Value value) = IsNarrowValue value
IsNarrow (answer.Throws class) = ⊥
IsNarrow (answer.Exit status) = ⊥
IsNarrow answer.Bad = ⊥

-- an effect that stores no values, and whose own answer is such a one where it changes a text
abbrev pub IsStill : NativeEffect → Type 0
IsStill (Stores array place values answer) = ⊥
IsStill (Replaces object units value) = IsNarrowValue value
IsStill (Answers answer) = ⊤
IsStill (MakesText units) = ⊤
IsStill (MakesArray kind values) = ⊤
IsStill (MakesInstance kind fields) = ⊤
IsStill (Appends object units) = ⊤
IsStill (PutsUnit object at unit) = ⊤
IsStill (Resizes object size) = ⊤
IsStill (Interns units) = ⊤
IsStill (Prints units) = ⊤
IsStill Reads = ⊤
IsStill (SetsFields object first second) = ⊤
IsStill (GivesClass kind) = ⊤
IsStill (GivesBox kind place value) = ⊤

-- the one method that stores values
abbrev is_copying : SystemMethod → Bool
is_copying system.Exit = false
is_copying system.Arraycopy = true
is_copying system.IdentityHashCode = false

abbrev copies : Method → Bool
copies (method.System m) = is_copying m
copies (method.Object m) = false
copies (method.Class m) = false
copies (method.Text m) = false
copies (method.Builder m) = false
copies (method.Input m) = false
copies (method.Output m) = false
copies (method.Integer m) = false
copies (method.Long m) = false
copies (method.Character m) = false
copies (method.Boolean m) = false
copies (method.Math m) = false
copies (method.Enum m) = false
copies (method.Throwable m) = false

-- it stands at this place alone
abbrev copy_at : ℕ → List Row → Bool
copy_at at [] = true
copy_at at (row ∷ rest) = beq (copies row.method) (at == 79) && copy_at (at + 1) rest

copy_there : copy_at 0 rows ≡ true
unfolding rows
copy_there = refl

copying : (rs : List Row) (from number : ℕ) → copy_at from rs ≡ true → IfSome (slice_get rs number) (λ row. copies row.method ≡ (from + number == 79))
copying [] from number all = tt
copying (row ∷ rs) from zero all =
    (booleans_Decides (copies row.method) (from == 79)).0 (and_parts (beq (copies row.method) (from == 79)) (copy_at (from + 1) rs) all).0
    ∙ ap (λ n. n == 79) (let e : from ≡ from + zero = omega arith in e)
copying (row ∷ rs) from (suc number) all =
    subst (λ n. IfSome (slice_get rs number) (λ row. copies row.method ≡ (n == 79))) (let e : from + 1 + number ≡ from + suc number = omega arith in e)
    (copying rs (from + 1) number (and_parts (beq (copies row.method) (from == 79)) (copy_at (from + 1) rs) all).1)

-- ---- effects by cases

either : (b : Bool) (x y : NativeEffect) → IsStill x → IsStill y → IsStill (if b then x else y)
either true x y one other = one
either false x y one other = other

found : {A : Type 0} (f : A → NativeEffect) (o : Option A) (x : NativeEffect) → ((a : A) → IsStill (f a)) → IsStill x → IsStill (option_map_or f o x)
found f None x each other = other
found f (Some a) x each other = each a

not-null : (argument : ℕ) (x : NativeEffect) → IsStill x → IsStill (unless_null argument x)
not-null argument x is = either (argument == 0) (throws null_pointer_exception) x tt is

-- ---- java/lang/Object and java/lang/Class

clone-still : (kinds : KindsView) (kind object : ℕ) (h : HeapView) → IsStill (clone kinds kind object h)
clone-still kinds kind object h =
    either (nat_lt kind first_array_kind) (if kinds.subtype kind cloneable_kind then MakesInstance kind (values_at object h) else throws clone_not_supported_exception)
    (MakesArray kind (values_at object h))
    (either (kinds.subtype kind cloneable_kind) (MakesInstance kind (values_at object h)) (throws clone_not_supported_exception) tt tt) tt

object-still : (m : ObjectMethod) (kinds : KindsView) (args : List Datum) (h : HeapView) → IsStill (object_effect m kinds args h)
object-still object.Init kinds args h = tt
object-still object.Equals kinds args h = tt
object-still object.HashCode kinds args h = tt
object-still object.ToText kinds args h = tt
object-still object.GetClass kinds args h = tt
object-still object.Clone kinds args h = clone-still kinds (kind_or_none (reference_in args 0) h) (reference_in args 0) h

class-still : (m : ClassMethod) (kinds : KindsView) (args : List Datum) (made : MadeView) → IsStill (class_effect m kinds args made)
class-still class.GetName kinds args made = tt
class-still class.DesiredAssertionStatus kinds args made = tt

-- ---- java/lang/String, the builders and the streams

init-still : (object from : ℕ) (h : HeapView) → IsStill (init_text object from h)
init-still object from h = not-null from (Replaces object (text_at from h) None) tt

char-still : (object : ℕ) (place : ℤ) (h : HeapView) → IsStill (char_at object place h)
char-still object place h =
    found (λ u. gives_int (pos u)) (option_and_then (slice_get (text_at object h)) (place_in place (length (text_at object h))))
    (throws string_index_out_of_bounds_exception) (λ u. tt) tt

part-still : (object : ℕ) (units : List ℕ) (range : Option (ℕ × ℕ)) → IsStill (substring object units range)
part-still object units range =
    found (part_of object units) range (throws string_index_out_of_bounds_exception)
    (λ r. either (r.0 == 0 && r.1 == length units) (gives_reference object) (MakesText (between r.0 r.1 units)) tt tt) tt

string-still : (m : StringMethod) (args : List Datum) (h : HeapView) → IsStill (string_effect m args h)
string-still string.Init args h = tt
string-still string.InitText args h = init-still (reference_in args 0) (reference_in args 1) h
string-still string.InitChars args h = not-null (reference_in args 1) _ tt
string-still string.InitPart args h =
    not-null (reference_in args 1) _ (found _ (counted_range (int_in args 2) (int_in args 3) (size_at (reference_in args 1) h)) _ (λ r. tt) tt)
string-still string.Length args h = tt
string-still string.CharAt args h = char-still (reference_in args 0) (int_in args 1) h
string-still string.IsEmpty args h = tt
string-still string.Equals args h = tt
string-still string.HashCode args h = tt
string-still string.Same args h = tt
string-still string.CompareTo args h = not-null (reference_in args 1) _ tt
string-still string.CompareToObject args h = not-null (reference_in args 1) _ (either (has_kind string_kind (reference_in args 1) h) _ _ tt tt)
string-still string.Concat args h = not-null (reference_in args 1) _ (either (length (text_at (reference_in args 1) h) == 0) _ _ tt tt)
string-still string.SubstringFrom args h =
    part-still (reference_in args 0) (text_at (reference_in args 0) h) (range_from (int_in args 1) (length (text_at (reference_in args 0) h)))
string-still string.Substring args h =
    part-still (reference_in args 0) (text_at (reference_in args 0) h) (range_in (int_in args 1) (int_in args 2) (length (text_at (reference_in args 0) h)))
string-still string.IndexOf args h = tt
string-still string.StartsWith args h = not-null (reference_in args 1) _ tt
string-still string.Intern args h = tt
string-still string.ToCharArray args h = tt
string-still (string.ValueOf what) args h = either (is_null_array what 0 args) _ _ tt tt

capacity-still : (object : ℕ) (n : ℤ) → IsStill (init_capacity object n)
capacity-still object (pos n) = tt
capacity-still object (negsuc n) = tt

length-still : (object : ℕ) (n : ℤ) → IsStill (set_length object n)
length-still object (pos n) = tt
length-still object (negsuc n) = tt

builder-still : (m : BuilderMethod) (args : List Datum) (h : HeapView) → IsStill (builder_effect m args h)
builder-still builder.Init args h = tt
builder-still builder.InitCapacity args h = capacity-still (reference_in args 0) (int_in args 1)
builder-still builder.InitText args h = init-still (reference_in args 0) (reference_in args 1) h
builder-still (builder.Append what) args h = either (is_null_array what 1 args) _ _ tt tt
builder-still builder.Length args h = tt
builder-still builder.CharAt args h = char-still (reference_in args 0) (int_in args 1) h
builder-still builder.SetCharAt args h = found _ (place_in (int_in args 1) (length (text_at (reference_in args 0) h))) _ (λ i. tt) tt
builder-still builder.SetLength args h = length-still (reference_in args 0) (int_in args 1)
builder-still builder.DeleteCharAt args h = found _ (place_in (int_in args 1) (length (text_at (reference_in args 0) h))) _ (λ i. tt) tt
builder-still builder.ToText args h = tt

input-still : (m : InputMethod) → IsStill (input_effect m)
input-still input.Read = tt
input-still input.Close = tt

print-still : (m : PrintMethod) (args : List Datum) (h : HeapView) → IsStill (print_effect m args h)
print-still (output.Print what) args h = either (is_null_array what 1 args) _ _ tt tt
print-still (output.Println what) args h = either (is_null_array what 1 args) _ _ tt tt
print-still output.EndLine args h = tt
print-still output.Flush args h = tt

-- ---- java/lang/System

system-still : (m : SystemMethod) (kinds : KindsView) (args : List Datum) (h : HeapView) → is_copying m ≡ false → IsStill (system_effect m kinds args h)
system-still system.Exit kinds args h other = tt
system-still system.Arraycopy kinds args h other = absurd (false≢true (sym other))
system-still system.IdentityHashCode kinds args h other = tt

-- ---- the classes of single values

box-still : (kind : ℕ) (place : Option ℕ) (value : Datum) → IsStill (box_of kind place value)
box-still kind place value = found (λ p. GivesBox kind p value) place (MakesInstance kind (value ∷ [])) (λ p. tt) tt

compared-still : (other : ℕ) (same : Bool) (comparison : ℤ) → IsStill (compared_if other same comparison)
compared-still other same comparison =
    either (other == 0) (throws null_pointer_exception) (if same then gives_int comparison else throws class_cast_exception) tt
    (either same (gives_int comparison) (throws class_cast_exception) tt tt)

integer-still : (m : IntegerMethod) (kinds : KindsView) (args : List Datum) (h : HeapView) → IsStill (integer_effect m kinds args h)
integer-still integer.ValueOf kinds args h = box-still integer_kind (small_place (int_in args 0)) (datum.Int (int_in args 0))
integer-still integer.Parse kinds args h =
    found gives_int (if reference_in args 0 == 0 then None else number_parsed 31 (text_at (reference_in args 0) h)) _ (λ n. tt) tt
integer-still integer.TextOf kinds args h = tt
integer-still integer.HexOf kinds args h = tt
integer-still integer.IntValue kinds args h = tt
integer-still integer.LongValue kinds args h = tt
integer-still integer.Equals kinds args h = tt
integer-still integer.HashCode kinds args h = tt
integer-still integer.ToText kinds args h = tt
integer-still integer.CompareTo kinds args h =
    compared-still (reference_in args 1) (is_instance kinds integer_kind (reference_in args 1) h)
    (comparison (int_field (reference_in args 0) 0 h) (int_field (reference_in args 1) 0 h))

long-still : (m : LongMethod) (kinds : KindsView) (args : List Datum) (h : HeapView) → IsStill (long_effect m kinds args h)
long-still long.ValueOf kinds args h = box-still long_kind (small_place (long_in args 0)) (datum.Long (long_in args 0))
long-still long.Parse kinds args h =
    found gives_long (if reference_in args 0 == 0 then None else number_parsed 63 (text_at (reference_in args 0) h)) _ (λ n. tt) tt
long-still long.TextOf kinds args h = tt
long-still long.IntValue kinds args h = tt
long-still long.LongValue kinds args h = tt
long-still long.Equals kinds args h = tt
long-still long.HashCode kinds args h = tt
long-still long.ToText kinds args h = tt
long-still long.CompareTo kinds args h =
    compared-still (reference_in args 1) (is_instance kinds long_kind (reference_in args 1) h)
    (comparison (long_field (reference_in args 0) 0 h) (long_field (reference_in args 1) 0 h))

character-still : (m : CharacterMethod) (kinds : KindsView) (args : List Datum) (h : HeapView) → IsStill (character_effect m kinds args h)
character-still character.ValueOf kinds args h =
    box-still character_kind (char_place (char_in args 0)) (datum.Int (pos (char_in args 0)))
character-still character.TextOf kinds args h = tt
character-still character.IsDigit kinds args h = tt
character-still character.IsLetter kinds args h = tt
character-still character.IsWhitespace kinds args h = tt
character-still character.CharValue kinds args h = tt
character-still character.Equals kinds args h = tt
character-still character.HashCode kinds args h = tt
character-still character.ToText kinds args h = tt

boolean-still : (m : BooleanMethod) (kinds : KindsView) (args : List Datum) (h : HeapView) → IsStill (boolean_effect m kinds args h)
boolean-still boolean.ValueOf kinds args h = tt
boolean-still boolean.Parse kinds args h = tt
boolean-still boolean.BooleanValue kinds args h = tt
boolean-still boolean.Equals kinds args h = tt
boolean-still boolean.HashCode kinds args h = tt
boolean-still boolean.ToText kinds args h = tt

math-still : (m : MathMethod) (args : List Datum) → IsStill (math_effect m args)
math-still math.AbsInt args = tt
math-still math.MaxInt args = tt
math-still math.MinInt args = tt
math-still math.AbsLong args = tt
math-still math.MaxLong args = tt
math-still math.MinLong args = tt

-- ---- java/lang/Enum and java/lang/Throwable

constants-still : (kinds : KindsView) (object other : ℕ) (h : HeapView) → IsStill (compare_constants kinds object other h)
constants-still kinds object other h =
    either (declaring_class kinds (kind_or_none object h) == declaring_class kinds (kind_or_none other h)) _ _ tt tt

enum-still : (m : EnumMethod) (kinds : KindsView) (args : List Datum) (h : HeapView) → IsStill (enum_effect m kinds args h)
enum-still enum.Init kinds args h = tt
enum-still enum.Name kinds args h = tt
enum-still enum.Ordinal kinds args h = tt
enum-still enum.TextOf kinds args h = tt
enum-still enum.Equals kinds args h = tt
enum-still enum.HashCode kinds args h = tt
enum-still enum.CompareTo kinds args h = not-null (reference_in args 1) _ (constants-still kinds (reference_in args 0) (reference_in args 1) h)
enum-still enum.CompareToObject kinds args h =
    not-null (reference_in args 1) _
    (either (is_instance kinds enum_kind (reference_in args 1) h) _ _ (constants-still kinds (reference_in args 0) (reference_in args 1) h) tt)

throwable-still : (m : ThrowableMethod) (args : List Datum) (h : HeapView) → IsStill (throwable_effect m args h)
throwable-still throwable.Init args h = tt
throwable-still throwable.InitMessage args h = tt
throwable-still throwable.InitMessageCause args h = tt
throwable-still throwable.InitCause args h = tt
throwable-still throwable.InitDetail args h = tt
throwable-still throwable.GetMessage args h = tt
throwable-still throwable.GetCause args h = tt

-- ---- all methods

method-still : (m : Method) (kinds : KindsView) (args : List Datum) (h : HeapView) (made : MadeView) → copies m ≡ false
    → IsStill (method_effect m kinds args h made)
method-still (method.Object m) kinds args h made other = object-still m kinds args h
method-still (method.Class m) kinds args h made other = class-still m kinds args made
method-still (method.Text m) kinds args h made other = string-still m args h
method-still (method.Builder m) kinds args h made other = builder-still m args h
method-still (method.Input m) kinds args h made other = input-still m
method-still (method.Output m) kinds args h made other = print-still m args h
method-still (method.System m) kinds args h made other = system-still m kinds args h other
method-still (method.Integer m) kinds args h made other = integer-still m kinds args h
method-still (method.Long m) kinds args h made other = long-still m kinds args h
method-still (method.Character m) kinds args h made other = character-still m kinds args h
method-still (method.Boolean m) kinds args h made other = boolean-still m kinds args h
method-still (method.Math m) kinds args h made other = math-still m args
method-still (method.Enum m) kinds args h made other = enum-still m kinds args h
method-still (method.Throwable m) kinds args h made other = throwable-still m args h

-- ---- the methods by number

row-still : (row : Row) (kinds : KindsView) (args : List Datum) (h : HeapView) (made : MadeView) → copies row.method ≡ false → IsStill (row_effect row kinds args h made)
row-still row kinds args h made other =
    either (fit row.receiver (parameters_of row.parameters) kinds args h) (method_effect row.method kinds args h made) (Answers answer.Bad)
    (method-still row.method kinds args h made other) tt

pub effect-still : (number : ℕ) (kinds : KindsView) (args : List Datum) (w : World) → (number == 79) ≡ false → IsStill (effect_of number kinds args w)
effect-still number kinds args w other = by (slice_get rows number) (copying rows 0 number copy_there)
  where
    by : (r : Option Row) → IfSome r (λ row. copies row.method ≡ (0 + number == 79))
        → IsStill (option_map_or (λ row. row_effect row kinds args w.heap w.made) r (Answers answer.Bad))
    by None is = tt
    by (Some row) is = row-still row kinds args w.heap w.made (is ∙ (ap (λ n. n == 79) (let e : 0 + number ≡ number = omega arith in e) ∙ other))

-- ---- what is left

abbrev pub Keeps : Answer → World → World → Type 0
Keeps a left w = (left ≡ w) ⊎ IsNarrow a

-- where so much passes the limit nothing is changed
full-keeps : (full : Bool) (w : World) (new : HeapView) (a : Answer) → IsNarrow a
    → Keeps (if full then answer.Throws out_of_memory_error else a) (record w { heap = if full then w.heap else new }) w
full-keeps true w new a narrow = inl refl
full-keeps false w new a narrow = inr narrow

text-keeps : (text full : Bool) (w : World) (new : HeapView) (a : Answer) → IsNarrow a
    → Keeps (if text then (if full then answer.Throws out_of_memory_error else a) else answer.Bad)
    (record w { heap = if text then (if full then w.heap else new) else w.heap }) w
text-keeps true full w new a narrow = full-keeps full w new a narrow
text-keeps false full w new a narrow = inl refl

unit-keeps : (has : Bool) (w : World) (new : HeapView) → Keeps (if has then answer.Value None else answer.Bad) (record w { heap = if has then new else w.heap }) w
unit-keeps true w new = inr tt
unit-keeps false w new = inl refl

interned-keeps : (found full : Bool) (w : World) (new : HeapView) (known : ℕ) (a : Answer) → IsNarrow a
    → Keeps (if found then answer.Value (Some (datum.Ref known)) else if full then answer.Throws out_of_memory_error else a)
    (record w { heap = if found then w.heap else if full then w.heap else new }) w
interned-keeps true full w new known a narrow = inr tt
interned-keeps false full w new known a narrow = full-keeps full w new a narrow

made-keeps : (found full : Bool) (w : World) (new : HeapView) (more : MadeView) (known : ℕ) (a : Answer) → IsNarrow a
    → Keeps (if found then answer.Value (Some (datum.Ref known)) else if full then answer.Throws out_of_memory_error else a)
    (record w { heap = if found then w.heap else if full then w.heap else new; made = if found then w.made else if full then w.made else more }) w
made-keeps true full w new more known a narrow = inr tt
made-keeps false true w new more known a narrow = inl refl
made-keeps false false w new more known a narrow = inr narrow

pub still-keeps : (e : NativeEffect) (w : World) → IsStill e → Keeps (answer_of e w) (after e w) w
still-keeps (Answers answer) w still = inl refl
still-keeps (MakesText units) w still = full-keeps (is_full (1 + length units) w.heap) w _ _ tt
still-keeps (MakesArray kind values) w still = full-keeps (is_full (1 + length values) w.heap) w _ _ tt
still-keeps (MakesInstance kind fields) w still = full-keeps (is_full (1 + length fields) w.heap) w _ _ tt
still-keeps (Appends object units) w still = text-keeps (is_some (units_at object w.heap)) (is_full (length units) w.heap) w _ _ tt
still-keeps (Replaces object units value) w still = text-keeps (is_some (units_at object w.heap)) (is_full (growth_of object units w.heap) w.heap) w _ _ still
still-keeps (PutsUnit object at unit) w still = unit-keeps (has_unit_at object at w.heap) w _
still-keeps (Resizes object size) w still =
    text-keeps (is_some (units_at object w.heap)) (is_full (growth_of object (units_resized size (text_at object w.heap)) w.heap) w.heap) w _ _ tt
still-keeps (Interns units) w still = interned-keeps (is_some (number_of units w.heap.interned)) (is_full (1 + length units) w.heap) w _ _ _ tt
still-keeps (Prints units) w still = inr tt
still-keeps Reads w still = inr tt
still-keeps (Stores array place values answer) w still = absurd still
still-keeps (SetsFields object first second) w still = inr tt
still-keeps (GivesClass kind) w still = made-keeps (is_some (object_of_class kind w.made.classes)) (is_full 1 w.heap) w _ _ _ _ tt
still-keeps (GivesBox kind place value) w still = made-keeps (is_some (object_of_box kind place w.made.boxes)) (is_full 2 w.heap) w _ _ _ _ tt

-- a method other than the copy of an array changes nothing, or answers so
pub call-keeps : (number : ℕ) (kinds : KindsView) (args : List Datum) (w : World) → (number == 79) ≡ false
    → Keeps (answer_by number kinds args w) (world_by number kinds args w) w
call-keeps number kinds args w other = still-keeps (effect_of number kinds args w) w (effect-still number kinds args w other)
