-- Method descriptors (JVM Specification 4.3.2, 4.3.3): what a method of a descriptor takes and gives. The grammar
-- itself is const_pool's IsMethod.
use Rattle.std.specs.Prelude.{ℕ, zero, suc, Bool, List, [], ◌∷◌, Option, Some, None, codes, nat_le, ◌==◌, if◌then◌else◌}
use Rattle.std.specs.Option.{option_and_then, option_map}
use Rattle.std.specs.Str.{bytes_eq}
use Rattle.const_pool.specs.declared.descriptor.Kind.{Kind}
use Rattle.const_pool.specs.declared.descriptor.Kind.TheVariants.{Ref}
use Rattle.const_pool.specs.declared.descriptor.Shape.{Shape}
use Rattle.const_pool.specs.Descriptors.{slot_count}
use Rattle.const_pool.specs.Stages.{letter_kind}

-- a text of these characters
abbrev pub same_text : List ℕ → List ℕ → Bool
same_text = bytes_eq

abbrev pub main_name : List ℕ
main_name = codes "main"

abbrev pub main_descriptor : List ℕ
main_descriptor = codes "([Ljava/lang/String;)V"

-- ---- a type in front of a text (4.3.2)

-- what it holds, and the text behind it
pub record Typed : Type 0 where
  pub kind : Kind
  pub rest : List ℕ

abbrev pub type_parsed : Kind → List ℕ → Typed
type_parsed kind rest = record { kind = kind; rest = rest }

-- an array is held by reference
abbrev pub array_of : Typed → Typed
array_of t = type_parsed Ref t.rest

-- behind the next `;`
abbrev pub name_rest : List ℕ → Option (List ℕ)
name_rest [] = None
name_rest (unit ∷ rest) = if unit == 59 then Some rest else name_rest rest

-- behind a class's name, which is not empty, and its `;`
abbrev pub class_rest : List ℕ → Option (List ℕ)
class_rest [] = None
class_rest (unit ∷ rest) = if unit == 59 then None else name_rest rest

-- `L` and a class, or the letter of a primitive type
abbrev pub base_front : ℕ → List ℕ → Option Typed
base_front unit rest =
    if unit == 76 then option_map (type_parsed Ref) (class_rest rest)
    else option_map (λ kind. type_parsed kind rest) (letter_kind unit)

-- with at most so many `[` before it
abbrev pub type_front : ℕ → List ℕ → Option Typed
type_front zero [] = None
type_front zero (unit ∷ rest) = base_front unit rest
type_front (suc n) [] = None
type_front (suc n) (unit ∷ rest) = if unit == 91 then option_map array_of (type_front n rest) else base_front unit rest

abbrev pub first_type : List ℕ → Option Typed
first_type text = type_front 255 text

-- ---- parameters and result (4.3.3)

-- the parameters' kinds, and the text behind `)`
pub record Params : Type 0 where
  pub kinds : List Kind
  pub rest : List ℕ

abbrev pub with_param : Kind → Params → Params
with_param kind p = record { kinds = kind ∷ p.kinds; rest = p.rest }

abbrev pub parameters_closed : List ℕ → Option Params
parameters_closed [] = None
parameters_closed (unit ∷ rest) = if unit == 41 then Some (record { kinds = []; rest = rest }) else None

-- where a type stands in front, it is one parameter more; else the list is closed
abbrev pub params_by : (List ℕ → Option Params) → List ℕ → Option Typed → Option Params
params_by others text None = parameters_closed text
params_by others text (Some t) = option_map (with_param t.kind) (others t.rest)

-- at most so many
abbrev pub params_front : ℕ → List ℕ → Option Params
params_front zero text = parameters_closed text
params_front (suc n) text = params_by (params_front n) text (first_type text)

-- a type with nothing behind it, or `V`
abbrev pub only_type : Kind → List ℕ → Option (Option Kind)
only_type kind [] = Some (Some kind)
only_type kind (unit ∷ rest) = None

abbrev pub result_by : List ℕ → Option Typed → Option (Option Kind)
result_by text None = if same_text text (codes "V") then Some None else None
result_by text (Some t) = only_type t.kind t.rest

abbrev pub result_of : List ℕ → Option (Option Kind)
result_of text = result_by text (first_type text)

-- ---- the whole descriptor

abbrev pub shape_with : List Kind → Option Kind → Shape
shape_with kinds result = record { params = kinds; result = result }

abbrev pub with_result : Params → Option Shape
with_result p = option_map (shape_with p.kinds) (result_of p.rest)

-- a call's arguments take 255 slots at most
abbrev pub with_room : Shape → Option Shape
with_room shape = if nat_le (slot_count shape.params) 255 then Some shape else None

-- Each parameter takes a slot, so there are at most 255.
abbrev pub shape_of : List ℕ → Option Shape
shape_of [] = None
shape_of (unit ∷ rest) = if unit == 40 then option_and_then with_room (option_and_then with_result (params_front 255 rest)) else None
