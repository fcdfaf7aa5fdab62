-- Which methods of a program words name, and how classes and methods are shown.
use Rattle.std.specs.Prelude.{ℕ, ◌+◌, Bool, false, List, [], ◌∷◌, ◌++◌, Option, Some, None, position, slice_get, nat_lt, encode_utf8, if◌then◌else◌, ◌&&◌}
use Rattle.std.specs.List.{flat_map}
use Rattle.std.specs.Option.{option_and_then, option_map_or}
use Rattle.const_pool.specs.declared.class.ClassFile.{ClassFile}
use Rattle.const_pool.specs.declared.class.Member.{Member}
use Rattle.const_pool.specs.References.{named_text, same_text_at}
use Rattle.jf_bytes.specs.Unicode.{utf16_of}
use Rattle.jvm_model.specs.declared.event.Mark.{Mark}
use Rattle.jvm_model.specs.declared.event.Mark.TheVariants.{Off, Plain, Root}
use Rattle.jvm_model.specs.declared.program.Program.{Program}
use Rattle.jvm_model.specs.declared.program.MethodPlace.{MethodPlace}
use Rattle.jvm_model.specs.Basis.Programs.{class_at, has_name, name_at, place_of_method}
use Rattle.played_rows.specs.declared.revelation.names.CalledMethod.{CalledMethod}
use Rattle.played_rows.specs.Names.{in_32_bits}
use Rattle.played_rows.specs.Words.{front_of, rest_after}

-- ---- found

-- the class and the name that a word says: what stands before its first point, and behind it
abbrev pub name_said : List ℕ → CalledMethod
name_said word = record { class = utf16_of (front_of 46 word); name = utf16_of (rest_after 46 word) }

-- the method at a position of a class has this name
abbrev pub has_method : List ℕ → ClassFile → ℕ → Bool
has_method name c at =
    option_map_or (λ (m : Member). same_text_at c.pool m.name name) (slice_get c.methods at) false

abbrev pub is_called : Program → CalledMethod → MethodPlace → Bool
is_called p wanted place =
    option_map_or (λ (c : ClassFile). has_name wanted.class c && has_method wanted.name c place.position) (class_at p place.class) false

-- the number of the first method of this name, whatever its descriptor
abbrev pub method_called : Program → List ℕ → Option ℕ
method_called p word = in_32_bits (position (is_called p (name_said word)) p.methods)

-- ---- shown

-- a unit as a character, where it is one of the first 256, and else a question mark
abbrev pub unit_shown : ℕ → ℕ
unit_shown unit = if nat_lt unit 256 then unit else 63

abbrev pub text_shown : Option (List ℕ) → List ℕ
text_shown None = []
text_shown (Some units) = flat_map (λ unit. encode_utf8 (unit_shown unit)) units

-- a space and the name of the class at this position
abbrev pub class_shown : Program → ℕ → List ℕ
class_shown p class = 32 ∷ text_shown (name_at p class)

abbrev pub member_name : ClassFile → ℕ → Option (List ℕ)
member_name c at = option_and_then (λ (m : Member). named_text c.pool m.name) (slice_get c.methods at)

-- and the name of the method behind a point
abbrev pub place_shown : Program → MethodPlace → List ℕ
place_shown p place =
    class_shown p place.class ++ (46 ∷ text_shown (option_and_then (λ c. member_name c place.position) (class_at p place.class)))

abbrev pub method_shown : Program → ℕ → List ℕ
method_shown p method = option_map_or (place_shown p) (place_of_method p method) []

-- a method that is marked, with a `!` behind that of a root
abbrev pub mark_shown : Program → ℕ → Mark → List ℕ
mark_shown p method Off = []
mark_shown p method Plain = method_shown p method
mark_shown p method Root = method_shown p method ++ (33 ∷ [])

-- the methods that are marked, by the marks of all from this number on
abbrev pub marks_shown_from : Program → ℕ → List Mark → List ℕ
marks_shown_from p n [] = []
marks_shown_from p n (mark ∷ rest) = mark_shown p n mark ++ marks_shown_from p (n + 1) rest
