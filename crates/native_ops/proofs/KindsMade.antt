-- Of which kinds the objects are that native methods make: each of a few built-in classes, or of the kind of an object
-- that is there.
use Rattle.std.proofs.Common.{◌≡◌, ℕ, ◌-◌, Bool, true, false, List, [], ◌∷◌, refl, drop}
use Rattle.std.specs.Prelude.{⊤, Option, Some, None, ℤ, pos, negsuc, zero, suc, slice_get, option_and_then, unwrap_or, is_some, IfSome, length, nat_lt, not, ◌==◌, ◌&&◌, ◌||◌, if◌then◌else◌}
use Rattle.std.specs.List.{AllByRecursion}
use Rattle.std.specs.Option.{option_map, option_map_or}
use Rattle.std.proofs.lemmas.Bool.{and_parts, false≢true}
use Rattle.int_ops.specs.Arithmetic.{comparison}
use Rattle.heap_objects.specs.declared.datum.Datum.{Datum}
use Rattle.heap_objects.specs.declared.datum.Datum.TheVariants as datum
use Rattle.heap_objects.specs.declared.object.Object.{Object}
use Rattle.heap_objects.specs.Objects.{kind_of}
use Rattle.heap_objects.specs.Kept.{reference_of}
use Rattle.heap_objects.specs.Heaps.{HeapView, kind_at}
use Rattle.native_effects.specs.declared.effects.answer.Answer.TheVariants as answer
use Rattle.native_effects.specs.declared.effects.effect.NativeEffect.{NativeEffect}
use Rattle.native_effects.specs.declared.effects.effect.NativeEffect.TheVariants.{Answers, MakesText, MakesArray, MakesInstance, Appends, Replaces, PutsUnit, Resizes, Interns, Prints, Reads, Stores, SetsFields, GivesClass, GivesBox}
use Rattle.native_ops.specs.declared.methods.method.Method.{Method}
use Rattle.native_ops.specs.declared.methods.method.Method.TheVariants as method
use Rattle.native_ops.specs.declared.methods.method.ObjectMethod.{ObjectMethod}
use Rattle.native_ops.specs.declared.methods.method.ObjectMethod.TheVariants as object
use Rattle.native_ops.specs.declared.methods.method.ClassMethod.{ClassMethod}
use Rattle.native_ops.specs.declared.methods.method.ClassMethod.TheVariants as class
use Rattle.native_ops.specs.declared.methods.method.StringMethod.{StringMethod}
use Rattle.native_ops.specs.declared.methods.method.StringMethod.TheVariants as string
use Rattle.native_ops.specs.declared.methods.method.BuilderMethod.{BuilderMethod}
use Rattle.native_ops.specs.declared.methods.method.BuilderMethod.TheVariants as builder
use Rattle.native_ops.specs.declared.methods.method.InputMethod.{InputMethod}
use Rattle.native_ops.specs.declared.methods.method.InputMethod.TheVariants as input
use Rattle.native_ops.specs.declared.methods.method.PrintMethod.{PrintMethod}
use Rattle.native_ops.specs.declared.methods.method.PrintMethod.TheVariants as output
use Rattle.native_ops.specs.declared.methods.method.SystemMethod.{SystemMethod}
use Rattle.native_ops.specs.declared.methods.method.SystemMethod.TheVariants as system
use Rattle.native_ops.specs.declared.methods.method.IntegerMethod.{IntegerMethod}
use Rattle.native_ops.specs.declared.methods.method.IntegerMethod.TheVariants as integer
use Rattle.native_ops.specs.declared.methods.method.LongMethod.{LongMethod}
use Rattle.native_ops.specs.declared.methods.method.LongMethod.TheVariants as long
use Rattle.native_ops.specs.declared.methods.method.CharacterMethod.{CharacterMethod}
use Rattle.native_ops.specs.declared.methods.method.CharacterMethod.TheVariants as character
use Rattle.native_ops.specs.declared.methods.method.BooleanMethod.{BooleanMethod}
use Rattle.native_ops.specs.declared.methods.method.BooleanMethod.TheVariants as boolean
use Rattle.native_ops.specs.declared.methods.method.MathMethod.{MathMethod}
use Rattle.native_ops.specs.declared.methods.method.MathMethod.TheVariants as math
use Rattle.native_ops.specs.declared.methods.method.EnumMethod.{EnumMethod}
use Rattle.native_ops.specs.declared.methods.method.EnumMethod.TheVariants as enum
use Rattle.native_ops.specs.declared.methods.method.ThrowableMethod.{ThrowableMethod}
use Rattle.native_ops.specs.declared.methods.method.ThrowableMethod.TheVariants as throwable
use Rattle.native_ops.specs.declared.methods.rows.Row.{Row}
use Rattle.native_ops.specs.declared.methods.signature.Parameter.{Parameter}
use Rattle.native_ops.specs.declared.methods.signature.Receiver.{Receiver}
use Rattle.native_ops.specs.declared.methods.signature.Receiver.TheVariants as receiver
use Rattle.native_effects.specs.Inputs.Numbers.{string_kind, class_kind, chars_kind, integer_kind, long_kind, character_kind, boolean_kind, cloneable_kind, enum_kind, first_array_kind, clone_not_supported_exception, class_cast_exception, null_pointer_exception, string_index_out_of_bounds_exception}
use Rattle.native_effects.specs.Inputs.Arguments.{int_in, long_in, reference_in, char_in}
use Rattle.native_effects.specs.Inputs.Objects.{text_at, size_at, kind_or_none, values_at, has_kind, int_field, long_field}
use Rattle.native_effects.specs.Inputs.KindsViews.{KindsView, is_instance}
use Rattle.native_effects.specs.Inputs.MadeViews.{MadeView}
use Rattle.native_effects.specs.Effects.Answers.{gives_int, gives_long, gives_reference, throws, unless_null}
use Rattle.native_effects.specs.Inputs.Places.{place_in, range_in, range_from, counted_range, between}
use Rattle.native_effects.specs.Inputs.Shown.{is_null_array}
use Rattle.native_effects.specs.Inputs.Parsing.{number_parsed}
use Rattle.native_ops.specs.Classes.Boxes.{small_place, char_place, box_of, compared_if}
use Rattle.native_ops.specs.Classes.Roots.{clone, object_effect, class_effect}
use Rattle.native_ops.specs.Classes.Strings.{init_text, char_at, part_of, substring, string_effect}
use Rattle.native_ops.specs.Classes.Builders.{init_capacity, set_length, builder_effect}
use Rattle.native_ops.specs.Classes.Streams.{input_effect, print_effect}
use Rattle.native_ops.specs.Classes.Copying.{can_copy, copy_ranges, arraycopy, system_effect}
use Rattle.native_ops.specs.Classes.Integers.{integer_effect}
use Rattle.native_ops.specs.Classes.Longs.{long_effect}
use Rattle.native_ops.specs.Classes.Characters.{character_effect, boolean_effect, math_effect}
use Rattle.native_ops.specs.Classes.Enums.{declaring_class, compare_constants, enum_effect}
use Rattle.native_ops.specs.Classes.Throwables.{throwable_effect}
use Rattle.native_ops.specs.Methods.Signatures.{parameters_of, fits_receiver, fit_all, fit}
use Rattle.native_ops.specs.Methods.Rows.{rows}
use Rattle.native_effects.specs.Effects.Worlds.{World}
use Rattle.native_ops.specs.Methods.Calls.{method_effect, row_effect, effect_of}

-- the kinds that native methods make objects of by themselves
pub record AreMade (P : ℕ → Type 0) : Type 0 where
  pub text : P string_kind
  pub class : P class_kind
  pub chars : P chars_kind
  pub integer : P integer_kind
  pub long : P long_kind
  pub character : P character_kind
  pub boolean : P boolean_kind

-- each object is of such a kind
abbrev pub HaveKinds : (ℕ → Type 0) → List Object → Type 0
HaveKinds P objects = AllByRecursion (λ o. P (kind_of o)) objects

-- the kind of what an effect makes is such a kind, where the effect names it
abbrev pub IsMadeOf : (ℕ → Type 0) → NativeEffect → Type 0
IsMadeOf P (Answers answer) = ⊤
IsMadeOf P (MakesText units) = ⊤
IsMadeOf P (MakesArray kind values) = P kind
IsMadeOf P (MakesInstance kind fields) = P kind
IsMadeOf P (Appends object units) = ⊤
IsMadeOf P (Replaces object units value) = ⊤
IsMadeOf P (PutsUnit object at unit) = ⊤
IsMadeOf P (Resizes object size) = ⊤
IsMadeOf P (Interns units) = ⊤
IsMadeOf P (Prints units) = ⊤
IsMadeOf P Reads = ⊤
IsMadeOf P (Stores array place values answer) = ⊤
IsMadeOf P (SetsFields object first second) = ⊤
IsMadeOf P (GivesClass kind) = ⊤
IsMadeOf P (GivesBox kind place value) = P kind

-- ---- the one method that makes an object of the kind of another takes that object as its receiver

abbrev clones : ObjectMethod → Bool
clones object.Init = false
clones object.Equals = false
clones object.HashCode = false
clones object.ToText = false
clones object.GetClass = false
clones object.Clone = true

abbrev is_clone : Method → Bool
is_clone (method.Object m) = clones m
is_clone (method.Class m) = false
is_clone (method.Text m) = false
is_clone (method.Builder m) = false
is_clone (method.Input m) = false
is_clone (method.Output m) = false
is_clone (method.System m) = false
is_clone (method.Integer m) = false
is_clone (method.Long m) = false
is_clone (method.Character m) = false
is_clone (method.Boolean m) = false
is_clone (method.Math m) = false
is_clone (method.Enum m) = false
is_clone (method.Throwable m) = false

abbrev is_any : Receiver → Bool
is_any receiver.Absent = false
is_any receiver.Any = true
is_any (receiver.Exactly kind) = false
is_any (receiver.Extending kind) = false

abbrev takes_object : Row → Bool
takes_object row = not (is_clone row.method) || is_any row.receiver

abbrev all_take_object : List Row → Bool
all_take_object [] = true
all_take_object (row ∷ rest) = takes_object row && all_take_object rest

all_take : all_take_object rows ≡ true
unfolding rows
all_take = refl

any-there : (clone any : Bool) → clone ≡ true → (not clone || any) ≡ true → any ≡ true
any-there true any is either = either
any-there false any is either = absurd (false≢true is)

taken : (rs : List Row) (number : ℕ) → all_take_object rs ≡ true → IfSome (slice_get rs number) (λ row. takes_object row ≡ true)
taken [] number all = tt
taken (row ∷ rs) zero all = (and_parts (takes_object row) (all_take_object rs) all).0
taken (row ∷ rs) (suc number) all = taken rs number (and_parts (takes_object row) (all_take_object rs) all).1

module _ (P : ℕ → Type 0) where
  -- ---- effects by cases

  either : (b : Bool) (x y : NativeEffect) → IsMadeOf P x → IsMadeOf P y → IsMadeOf P (if b then x else y)
  either true x y one other = one
  either false x y one other = other

  found : {A : Type 0} (f : A → NativeEffect) (o : Option A) (x : NativeEffect) → ((a : A) → IsMadeOf P (f a)) → IsMadeOf P x → IsMadeOf P (option_map_or f o x)
  found f None x each other = other
  found f (Some a) x each other = each a

  not-null : (argument : ℕ) (x : NativeEffect) → IsMadeOf P x → IsMadeOf P (unless_null argument x)
  not-null argument x is = either (argument == 0) (throws null_pointer_exception) x tt is

  -- ---- java/lang/Object and java/lang/Class

  clone-made : (kinds : KindsView) (kind object : ℕ) (h : HeapView) → P kind → IsMadeOf P (clone kinds kind object h)
  clone-made kinds kind object h is =
      either (nat_lt kind first_array_kind) (if kinds.subtype kind cloneable_kind then MakesInstance kind (values_at object h) else throws clone_not_supported_exception)
      (MakesArray kind (values_at object h))
      (either (kinds.subtype kind cloneable_kind) (MakesInstance kind (values_at object h)) (throws clone_not_supported_exception) is tt) is

  object-made : (m : ObjectMethod) (kinds : KindsView) (args : List Datum) (h : HeapView) → (clones m ≡ true → P (kind_or_none (reference_in args 0) h))
      → IsMadeOf P (object_effect m kinds args h)
  object-made object.Init kinds args h is = tt
  object-made object.Equals kinds args h is = tt
  object-made object.HashCode kinds args h is = tt
  object-made object.ToText kinds args h is = tt
  object-made object.GetClass kinds args h is = tt
  object-made object.Clone kinds args h is = clone-made kinds (kind_or_none (reference_in args 0) h) (reference_in args 0) h (is refl)

  class-made : (m : ClassMethod) (kinds : KindsView) (args : List Datum) (made : MadeView) → IsMadeOf P (class_effect m kinds args made)
  class-made class.GetName kinds args made = tt
  class-made class.DesiredAssertionStatus kinds args made = tt

  -- ---- java/lang/String, the builders and the streams

  init-made : (object from : ℕ) (h : HeapView) → IsMadeOf P (init_text object from h)
  init-made object from h = not-null from (Replaces object (text_at from h) None) tt

  char-made : (object : ℕ) (place : ℤ) (h : HeapView) → IsMadeOf P (char_at object place h)
  char-made object place h =
      found (λ u. gives_int (pos u)) (option_and_then (slice_get (text_at object h)) (place_in place (length (text_at object h))))
      (throws string_index_out_of_bounds_exception) (λ u. tt) tt

  part-made : (object : ℕ) (units : List ℕ) (range : Option (ℕ × ℕ)) → IsMadeOf P (substring object units range)
  part-made object units range =
      found (part_of object units) range (throws string_index_out_of_bounds_exception)
      (λ r. either (r.0 == 0 && r.1 == length units) (gives_reference object) (MakesText (between r.0 r.1 units)) tt tt) tt

  string-made : (m : StringMethod) (args : List Datum) (h : HeapView) → AreMade P → IsMadeOf P (string_effect m args h)
  string-made string.Init args h are = tt
  string-made string.InitText args h are = init-made (reference_in args 0) (reference_in args 1) h
  string-made string.InitChars args h are = not-null (reference_in args 1) _ tt
  string-made string.InitPart args h are =
      not-null (reference_in args 1) _ (found _ (counted_range (int_in args 2) (int_in args 3) (size_at (reference_in args 1) h)) _ (λ r. tt) tt)
  string-made string.Length args h are = tt
  string-made string.CharAt args h are = char-made (reference_in args 0) (int_in args 1) h
  string-made string.IsEmpty args h are = tt
  string-made string.Equals args h are = tt
  string-made string.HashCode args h are = tt
  string-made string.Same args h are = tt
  string-made string.CompareTo args h are = not-null (reference_in args 1) _ tt
  string-made string.CompareToObject args h are = not-null (reference_in args 1) _ (either (has_kind string_kind (reference_in args 1) h) _ _ tt tt)
  string-made string.Concat args h are = not-null (reference_in args 1) _ (either (length (text_at (reference_in args 1) h) == 0) _ _ tt tt)
  string-made string.SubstringFrom args h are =
      part-made (reference_in args 0) (text_at (reference_in args 0) h) (range_from (int_in args 1) (length (text_at (reference_in args 0) h)))
  string-made string.Substring args h are =
      part-made (reference_in args 0) (text_at (reference_in args 0) h) (range_in (int_in args 1) (int_in args 2) (length (text_at (reference_in args 0) h)))
  string-made string.IndexOf args h are = tt
  string-made string.StartsWith args h are = not-null (reference_in args 1) _ tt
  string-made string.Intern args h are = tt
  string-made string.ToCharArray args h are = are.chars
  string-made (string.ValueOf what) args h are = either (is_null_array what 0 args) _ _ tt tt

  capacity-made : (object : ℕ) (n : ℤ) → IsMadeOf P (init_capacity object n)
  capacity-made object (pos n) = tt
  capacity-made object (negsuc n) = tt

  length-made : (object : ℕ) (n : ℤ) → IsMadeOf P (set_length object n)
  length-made object (pos n) = tt
  length-made object (negsuc n) = tt

  builder-made : (m : BuilderMethod) (args : List Datum) (h : HeapView) → IsMadeOf P (builder_effect m args h)
  builder-made builder.Init args h = tt
  builder-made builder.InitCapacity args h = capacity-made (reference_in args 0) (int_in args 1)
  builder-made builder.InitText args h = init-made (reference_in args 0) (reference_in args 1) h
  builder-made (builder.Append what) args h = either (is_null_array what 1 args) _ _ tt tt
  builder-made builder.Length args h = tt
  builder-made builder.CharAt args h = char-made (reference_in args 0) (int_in args 1) h
  builder-made builder.SetCharAt args h = found _ (place_in (int_in args 1) (length (text_at (reference_in args 0) h))) _ (λ i. tt) tt
  builder-made builder.SetLength args h = length-made (reference_in args 0) (int_in args 1)
  builder-made builder.DeleteCharAt args h = found _ (place_in (int_in args 1) (length (text_at (reference_in args 0) h))) _ (λ i. tt) tt
  builder-made builder.ToText args h = tt

  input-made : (m : InputMethod) → IsMadeOf P (input_effect m)
  input-made input.Read = tt
  input-made input.Close = tt

  print-made : (m : PrintMethod) (args : List Datum) (h : HeapView) → IsMadeOf P (print_effect m args h)
  print-made (output.Print what) args h = either (is_null_array what 1 args) _ _ tt tt
  print-made (output.Println what) args h = either (is_null_array what 1 args) _ _ tt tt
  print-made output.EndLine args h = tt
  print-made output.Flush args h = tt

  -- ---- java/lang/System

  ranges-made : (kinds : KindsView) (from to : ℕ) (source target : Option (ℕ × ℕ)) (h : HeapView) → IsMadeOf P (copy_ranges kinds from to source target h)
  ranges-made kinds from to (Some source) (Some target) h = tt
  ranges-made kinds from to (Some source) None h = tt
  ranges-made kinds from to None target h = tt

  copy-made : (kinds : KindsView) (from : ℕ) (from_place : ℤ) (to : ℕ) (to_place count : ℤ) (h : HeapView)
      → IsMadeOf P (arraycopy kinds from from_place to to_place count h)
  copy-made kinds from from_place to to_place count h =
      either (from == 0 || to == 0) _ _ tt
      (either (can_copy (kind_or_none from h) (kind_or_none to h)) _ _
      (ranges-made kinds from to (counted_range from_place count (size_at from h)) (counted_range to_place count (size_at to h)) h) tt)

  system-made : (m : SystemMethod) (kinds : KindsView) (args : List Datum) (h : HeapView) → IsMadeOf P (system_effect m kinds args h)
  system-made system.Exit kinds args h = tt
  system-made system.Arraycopy kinds args h =
      copy-made kinds (reference_in args 0) (int_in args 1) (reference_in args 2) (int_in args 3) (int_in args 4) h
  system-made system.IdentityHashCode kinds args h = tt

  -- ---- the classes of single values

  box-made : (kind : ℕ) (place : Option ℕ) (value : Datum) → P kind → IsMadeOf P (box_of kind place value)
  box-made kind place value is = found (λ p. GivesBox kind p value) place (MakesInstance kind (value ∷ [])) (λ p. is) is

  compared-made : (other : ℕ) (same : Bool) (comparison : ℤ) → IsMadeOf P (compared_if other same comparison)
  compared-made other same comparison =
      either (other == 0) (throws null_pointer_exception) (if same then gives_int comparison else throws class_cast_exception) tt
      (either same (gives_int comparison) (throws class_cast_exception) tt tt)

  integer-made : (m : IntegerMethod) (kinds : KindsView) (args : List Datum) (h : HeapView) → AreMade P → IsMadeOf P (integer_effect m kinds args h)
  integer-made integer.ValueOf kinds args h are = box-made integer_kind (small_place (int_in args 0)) (datum.Int (int_in args 0)) are.integer
  integer-made integer.Parse kinds args h are =
      found gives_int (if reference_in args 0 == 0 then None else number_parsed 31 (text_at (reference_in args 0) h)) _ (λ n. tt) tt
  integer-made integer.TextOf kinds args h are = tt
  integer-made integer.HexOf kinds args h are = tt
  integer-made integer.IntValue kinds args h are = tt
  integer-made integer.LongValue kinds args h are = tt
  integer-made integer.Equals kinds args h are = tt
  integer-made integer.HashCode kinds args h are = tt
  integer-made integer.ToText kinds args h are = tt
  integer-made integer.CompareTo kinds args h are =
      compared-made (reference_in args 1) (is_instance kinds integer_kind (reference_in args 1) h)
      (comparison (int_field (reference_in args 0) 0 h) (int_field (reference_in args 1) 0 h))

  long-made : (m : LongMethod) (kinds : KindsView) (args : List Datum) (h : HeapView) → AreMade P → IsMadeOf P (long_effect m kinds args h)
  long-made long.ValueOf kinds args h are = box-made long_kind (small_place (long_in args 0)) (datum.Long (long_in args 0)) are.long
  long-made long.Parse kinds args h are =
      found gives_long (if reference_in args 0 == 0 then None else number_parsed 63 (text_at (reference_in args 0) h)) _ (λ n. tt) tt
  long-made long.TextOf kinds args h are = tt
  long-made long.IntValue kinds args h are = tt
  long-made long.LongValue kinds args h are = tt
  long-made long.Equals kinds args h are = tt
  long-made long.HashCode kinds args h are = tt
  long-made long.ToText kinds args h are = tt
  long-made long.CompareTo kinds args h are =
      compared-made (reference_in args 1) (is_instance kinds long_kind (reference_in args 1) h)
      (comparison (long_field (reference_in args 0) 0 h) (long_field (reference_in args 1) 0 h))

  character-made : (m : CharacterMethod) (kinds : KindsView) (args : List Datum) (h : HeapView) → AreMade P → IsMadeOf P (character_effect m kinds args h)
  character-made character.ValueOf kinds args h are =
      box-made character_kind (char_place (char_in args 0)) (datum.Int (pos (char_in args 0))) are.character
  character-made character.TextOf kinds args h are = tt
  character-made character.IsDigit kinds args h are = tt
  character-made character.IsLetter kinds args h are = tt
  character-made character.IsWhitespace kinds args h are = tt
  character-made character.CharValue kinds args h are = tt
  character-made character.Equals kinds args h are = tt
  character-made character.HashCode kinds args h are = tt
  character-made character.ToText kinds args h are = tt

  boolean-made : (m : BooleanMethod) (kinds : KindsView) (args : List Datum) (h : HeapView) → AreMade P → IsMadeOf P (boolean_effect m kinds args h)
  boolean-made boolean.ValueOf kinds args h are = are.boolean
  boolean-made boolean.Parse kinds args h are = tt
  boolean-made boolean.BooleanValue kinds args h are = tt
  boolean-made boolean.Equals kinds args h are = tt
  boolean-made boolean.HashCode kinds args h are = tt
  boolean-made boolean.ToText kinds args h are = tt

  math-made : (m : MathMethod) (args : List Datum) → IsMadeOf P (math_effect m args)
  math-made math.AbsInt args = tt
  math-made math.MaxInt args = tt
  math-made math.MinInt args = tt
  math-made math.AbsLong args = tt
  math-made math.MaxLong args = tt
  math-made math.MinLong args = tt

  -- ---- java/lang/Enum and java/lang/Throwable

  constants-made : (kinds : KindsView) (object other : ℕ) (h : HeapView) → IsMadeOf P (compare_constants kinds object other h)
  constants-made kinds object other h =
      either (declaring_class kinds (kind_or_none object h) == declaring_class kinds (kind_or_none other h)) _ _ tt tt

  enum-made : (m : EnumMethod) (kinds : KindsView) (args : List Datum) (h : HeapView) → IsMadeOf P (enum_effect m kinds args h)
  enum-made enum.Init kinds args h = tt
  enum-made enum.Name kinds args h = tt
  enum-made enum.Ordinal kinds args h = tt
  enum-made enum.TextOf kinds args h = tt
  enum-made enum.Equals kinds args h = tt
  enum-made enum.HashCode kinds args h = tt
  enum-made enum.CompareTo kinds args h = not-null (reference_in args 1) _ (constants-made kinds (reference_in args 0) (reference_in args 1) h)
  enum-made enum.CompareToObject kinds args h =
      not-null (reference_in args 1) _
      (either (is_instance kinds enum_kind (reference_in args 1) h) _ _ (constants-made kinds (reference_in args 0) (reference_in args 1) h) tt)

  throwable-made : (m : ThrowableMethod) (args : List Datum) (h : HeapView) → IsMadeOf P (throwable_effect m args h)
  throwable-made throwable.Init args h = tt
  throwable-made throwable.InitMessage args h = tt
  throwable-made throwable.InitMessageCause args h = tt
  throwable-made throwable.InitCause args h = tt
  throwable-made throwable.InitDetail args h = tt
  throwable-made throwable.GetMessage args h = tt
  throwable-made throwable.GetCause args h = tt

  -- ---- all methods

  method-made : (m : Method) (kinds : KindsView) (args : List Datum) (h : HeapView) (made : MadeView) → AreMade P
      → (is_clone m ≡ true → P (kind_or_none (reference_in args 0) h)) → IsMadeOf P (method_effect m kinds args h made)
  method-made (method.Object m) kinds args h made are is = object-made m kinds args h is
  method-made (method.Class m) kinds args h made are is = class-made m kinds args made
  method-made (method.Text m) kinds args h made are is = string-made m args h are
  method-made (method.Builder m) kinds args h made are is = builder-made m args h
  method-made (method.Input m) kinds args h made are is = input-made m
  method-made (method.Output m) kinds args h made are is = print-made m args h
  method-made (method.System m) kinds args h made are is = system-made m kinds args h
  method-made (method.Integer m) kinds args h made are is = integer-made m kinds args h are
  method-made (method.Long m) kinds args h made are is = long-made m kinds args h are
  method-made (method.Character m) kinds args h made are is = character-made m kinds args h are
  method-made (method.Boolean m) kinds args h made are is = boolean-made m kinds args h are
  method-made (method.Math m) kinds args h made are is = math-made m args
  method-made (method.Enum m) kinds args h made are is = enum-made m kinds args h
  method-made (method.Throwable m) kinds args h made are is = throwable-made m args h

  -- ---- the receiver of a clone is an object that is there

  kind-there : (os : List Object) (at : ℕ) (b : Bool) → HaveKinds P os → (is_some (option_map kind_of (slice_get os at)) && b) ≡ true
      → P (unwrap_or (option_map kind_of (slice_get os at)) 0)
  kind-there [] at b each is = absurd (false≢true is)
  kind-there (o ∷ os) zero b each is = each.0
  kind-there (o ∷ os) (suc at) b each is = kind-there os at b each.1 is

  object-there : (r : ℕ) (h : HeapView) (b : Bool) → HaveKinds P h.objects → (is_some (kind_at r h) && b) ≡ true → P (kind_or_none r h)
  object-there r h b have is = by (r == 0) is
    where
      by : (c : Bool) → (is_some (option_map kind_of (if c then None else slice_get h.objects (r - 1))) && b) ≡ true
          → P (unwrap_or (option_map kind_of (if c then None else slice_get h.objects (r - 1))) 0)
      by true is = absurd (false≢true is)
      by false is = kind-there h.objects (r - 1) b have is

  first-there : (v : Option Datum) (kinds : KindsView) (h : HeapView) (b : Bool) → HaveKinds P h.objects
      → (option_map_or (λ d. fits_receiver receiver.Any kinds d h) v false && b) ≡ true → P (kind_or_none (option_map_or reference_of v 0) h)
  first-there None kinds h b have is = absurd (false≢true is)
  first-there (Some (datum.Int n)) kinds h b have is = absurd (false≢true is)
  first-there (Some (datum.Long n)) kinds h b have is = absurd (false≢true is)
  first-there (Some (datum.Ref r)) kinds h b have is = object-there r h b have is

  receiver-there : (r : Receiver) (parameters : List Parameter) (kinds : KindsView) (args : List Datum) (h : HeapView) → is_any r ≡ true
      → HaveKinds P h.objects → fit r parameters kinds args h ≡ true → P (kind_or_none (reference_in args 0) h)
  receiver-there receiver.Absent parameters kinds args h any have is = absurd (false≢true any)
  receiver-there receiver.Any parameters kinds args h any have is =
      first-there (slice_get args 0) kinds h (fit_all parameters kinds (drop 1 args) h) have is
  receiver-there (receiver.Exactly kind) parameters kinds args h any have is = absurd (false≢true any)
  receiver-there (receiver.Extending kind) parameters kinds args h any have is = absurd (false≢true any)

  -- ---- rows

  row-made : (row : Row) (kinds : KindsView) (args : List Datum) (h : HeapView) (made : MadeView) → AreMade P → HaveKinds P h.objects
      → takes_object row ≡ true → IsMadeOf P (row_effect row kinds args h made)
  row-made row kinds args h made are have takes = by (fit row.receiver (parameters_of row.parameters) kinds args h) refl
    where
      by : (b : Bool) → fit row.receiver (parameters_of row.parameters) kinds args h ≡ b
          → IsMadeOf P (if b then method_effect row.method kinds args h made else Answers answer.Bad)
      by true is =
          method-made row.method kinds args h made are
          (λ clone. receiver-there row.receiver (parameters_of row.parameters) kinds args h (any-there (is_clone row.method) (is_any row.receiver) clone takes) have is)
      by false is = tt

  pub effect-made : (number : ℕ) (kinds : KindsView) (args : List Datum) (w : World) → AreMade P → HaveKinds P w.heap.objects
      → IsMadeOf P (effect_of number kinds args w)
  effect-made number kinds args w are have = by (slice_get rows number) (taken rows number all_take)
    where
      by : (r : Option Row) → IfSome r (λ row. takes_object row ≡ true)
          → IsMadeOf P (option_map_or (λ row. row_effect row kinds args w.heap w.made) r (Answers answer.Bad))
      by None takes = tt
      by (Some row) takes = row-made row kinds args w.heap w.made are have takes
