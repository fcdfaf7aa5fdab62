-- java/lang/Object and java/lang/Class: what their native methods do, and the names of classes and arrays. The receiver
-- is the argument at place 0.
use Rattle.std.specs.Prelude.{ℕ, ◌-◌, ◌/◌, ◌%◌, ◌==◌, pos, false, List, [], ◌∷◌, ◌++◌, map, replicate, unwrap_or, slice_get, nat_lt, codes, if◌then◌else◌}
use Rattle.std.specs.Fmt.{digits}
use Rattle.heap_objects.specs.declared.datum.Datum.{Datum}
use Rattle.heap_objects.specs.Heaps.{HeapView}
use Rattle.native_effects.specs.declared.effects.effect.NativeEffect.{NativeEffect}
use Rattle.native_effects.specs.declared.effects.effect.NativeEffect.TheVariants.{MakesText, MakesArray, MakesInstance, GivesClass}
use Rattle.native_ops.specs.declared.methods.method.ObjectMethod.{ObjectMethod}
use Rattle.native_ops.specs.declared.methods.method.ObjectMethod.TheVariants.{Init, Equals, HashCode, ToText, GetClass, Clone}
use Rattle.native_ops.specs.declared.methods.method.ClassMethod.{ClassMethod}
use Rattle.native_ops.specs.declared.methods.method.ClassMethod.TheVariants.{GetName, DesiredAssertionStatus}
use Rattle.native_effects.specs.Inputs.Numbers.{clone_not_supported_exception, cloneable_kind, first_array_kind}
use Rattle.native_effects.specs.Inputs.Arguments.{reference_in}
use Rattle.native_effects.specs.Inputs.Objects.{kind_or_none, values_at, number_as_int}
use Rattle.native_effects.specs.Inputs.KindsViews.{KindsView}
use Rattle.native_effects.specs.Inputs.MadeViews.{MadeView, class_of_object}
use Rattle.native_effects.specs.Effects.Answers.{gives_nothing, gives_int, gives_boolean, throws}

-- ---- names

abbrev pub with_dot : ℕ → ℕ
with_dot u = if u == 47 then 46 else u

-- a class's name, with dots for slashes
abbrev pub class_name : KindsView → ℕ → List ℕ
class_name kinds class = map with_dot (unwrap_or (kinds.name class) [])

-- the letter of a primitive type in a descriptor, by the type's code of newarray
abbrev pub letter_of : ℕ → ℕ
letter_of code = unwrap_or (slice_get (codes "ZCFDBSIJ") (code - 4)) 63

abbrev pub element_name : KindsView → ℕ → List ℕ
element_name kinds element =
    if nat_lt element 16 then letter_of element ∷ [] else 76 ∷ (class_name kinds element ++ 59 ∷ [])

abbrev pub array_name : KindsView → ℕ → ℕ → List ℕ
array_name kinds dimensions element = replicate dimensions 91 ++ element_name kinds element

-- the name of a class or an array, which is the array's descriptor
abbrev pub name_of_kind : KindsView → ℕ → List ℕ
name_of_kind kinds kind =
    if nat_lt kind first_array_kind
    then class_name kinds kind
    else array_name kinds (kind / first_array_kind) (kind % first_array_kind)

-- ---- java/lang/Object

-- the name, `@`, and the object's number in hexadecimal
abbrev pub object_text : KindsView → ℕ → HeapView → List ℕ
object_text kinds object h = name_of_kind kinds (kind_or_none object h) ++ 64 ∷ digits 16 false object

-- a copy of an array or of an instance of a class that allows it, which has the same values
abbrev pub clone : KindsView → ℕ → ℕ → HeapView → NativeEffect
clone kinds kind object h =
    if nat_lt kind first_array_kind
    then (if kinds.subtype kind cloneable_kind
    then MakesInstance kind (values_at object h)
    else throws clone_not_supported_exception)
    else MakesArray kind (values_at object h)

abbrev pub object_effect : ObjectMethod → KindsView → List Datum → HeapView → NativeEffect
object_effect Init kinds args h = gives_nothing
object_effect Equals kinds args h = gives_boolean (reference_in args 0 == reference_in args 1)
object_effect HashCode kinds args h = gives_int (number_as_int (reference_in args 0))
object_effect ToText kinds args h = MakesText (object_text kinds (reference_in args 0) h)
object_effect GetClass kinds args h = GivesClass (kind_or_none (reference_in args 0) h)
object_effect Clone kinds args h = clone kinds (kind_or_none (reference_in args 0) h) (reference_in args 0) h

-- ---- java/lang/Class

abbrev pub class_effect : ClassMethod → KindsView → List Datum → MadeView → NativeEffect
class_effect GetName kinds args m =
    MakesText (name_of_kind kinds (unwrap_or (class_of_object (reference_in args 0) m.classes) 0))
class_effect DesiredAssertionStatus kinds args m = gives_int (pos 0)
