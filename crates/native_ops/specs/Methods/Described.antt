-- What a descriptor says of the arguments (JVM Specification 4.3.3), as native methods take them: of the types that
-- they have.
use Rattle.std.specs.Prelude.{ℕ, ◌==◌, Bool, true, false, not, List, [], ◌∷◌, ◌++◌, filter, drop, bit_and, codes, if◌then◌else◌}
use Rattle.std.specs.List.{flat_map}
use Rattle.std.specs.Str.{bytes_eq}
use Rattle.base_classes.specs.Declarations.{MemberDeclaration, ClassDeclaration}
use Rattle.base_classes.specs.BuiltInClasses.{built_in_classes}
use Rattle.base_classes.specs.Natives.{is_native}
use Rattle.native_ops.specs.declared.methods.signature.Parameter.{Parameter}
use Rattle.native_ops.specs.declared.methods.signature.Parameter.TheVariants.{Int, Long, Reference, Exactly, Below, Extending}
use Rattle.native_ops.specs.declared.methods.signature.Receiver.{Receiver}
use Rattle.native_ops.specs.declared.methods.signature.Receiver.TheVariants as receiver
use Rattle.native_effects.specs.Inputs.Numbers.{string_kind, chars_kind, enum_kind, throwable_kind}

abbrev pub parameter_of_class : List ℕ → Parameter
parameter_of_class name =
    if bytes_eq name (codes "java/lang/Object") then Reference else
    if bytes_eq name (codes "java/lang/String") then Exactly string_kind else
    if bytes_eq name (codes "java/lang/Enum") then Extending enum_kind else Below throwable_kind

-- in front of a type, behind `[`, and within the name of a class, of which so much is read
pub data DescriptorPosition : Type 0 where
  outside : DescriptorPosition
  in_array : DescriptorPosition
  in_class : List ℕ → DescriptorPosition

-- I, C and Z are ints here; the one type of array is [C
abbrev pub parameters_from : DescriptorPosition → List ℕ → List Parameter
parameters_from outside [] = []
parameters_from in_array [] = []
parameters_from (in_class name) [] = []
parameters_from outside (u ∷ units) =
    if u == 41 then [] else
    if u == 76 then parameters_from (in_class []) units else
    if u == 91 then parameters_from in_array units else
    if u == 74 then Long ∷ parameters_from outside units else Int ∷ parameters_from outside units
parameters_from in_array (u ∷ units) = Exactly chars_kind ∷ parameters_from outside units
parameters_from (in_class name) (u ∷ units) =
    if u == 59
    then parameter_of_class name ∷ parameters_from outside units
    else parameters_from (in_class (name ++ u ∷ [])) units

-- behind `(`
abbrev pub parameters_in : List ℕ → List Parameter
parameters_in descriptor = parameters_from outside (drop 1 descriptor)

-- ACC_STATIC (4.6)
abbrev pub is_static : MemberDeclaration → Bool
is_static m = not (bit_and m.access 0x0008 == 0)

-- the native methods of the built-in classes, with their flags
unfoldable pub native_members : List MemberDeclaration
native_members = flat_map (λ (d : ClassDeclaration). filter is_native d.methods) built_in_classes

abbrev pub is_absent : Receiver → Bool
is_absent receiver.Absent = true
is_absent receiver.Any = false
is_absent (receiver.Exactly kind) = false
is_absent (receiver.Extending kind) = false
