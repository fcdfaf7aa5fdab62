-- The words of a line, and what single words say.
use Rattle.std.specs.Prelude.{ℕ, ◌^◌, ℤ, Bool, List, [], ◌∷◌, ◌++◌, length, Option, Some, None, nat_lt, nat_le, codes, ◌==◌, ◌&&◌, if◌then◌else◌}
use Rattle.std.specs.Char.{is_ascii_digit}
use Rattle.std.specs.List.{list_all}
use Rattle.std.specs.Option.{option_map}
use Rattle.std.specs.Str.{bytes_eq}
use Rattle.std.specs.Str.Parse.{digits_value, signed_digits_value, starts_with_minus, without_leading_plus, without_leading_sign}
use Rattle.class_reader.specs.declared.error.ReadError.{ReadError}
use Rattle.class_reader.specs.declared.error.ReadError.TheVariants.{BadMagic, Truncated}
use Rattle.class_shape.specs.declared.error.SwapError.{SwapError}
use Rattle.class_shape.specs.declared.error.SwapError.TheVariants.{NotSameShape, Unreadable}
use Rattle.jvm_model.specs.declared.event.EventKind.{EventKind}
use Rattle.jvm_model.specs.declared.event.EventKind.TheVariants as kind
use Rattle.jvm_model.specs.declared.event.Mark.{Mark}
use Rattle.jvm_model.specs.declared.event.Mark.TheVariants as mark
use Rattle.played_rows.specs.Words.{all_found, front_of, rest_after}

-- ---- words

-- the first word of a text, and what stands behind the space that ends it
unfoldable pub word_of : List ℕ → List ℕ
word_of text = front_of 32 text

unfoldable pub rest_of : List ℕ → List ℕ
rest_of text = rest_after 32 text

-- ---- numbers

-- one decimal digit or more, and nothing else
abbrev pub is_numeral : List ℕ → Bool
is_numeral digits = nat_lt 0 (length digits) && list_all is_ascii_digit digits

-- the number of so many bits that a word writes, where a plus may stand first
unfoldable pub number_said : ℕ → List ℕ → Option ℕ
number_said bits word =
    let digits = without_leading_plus word in
    if is_numeral digits && nat_lt (digits_value 10 digits) (2 ^ bits) then Some (digits_value 10 digits) else None

-- a number of 32 bits with a sign has a size of at most 2 ^ 31 behind a minus, and of less without
abbrev pub has_room : Bool → ℕ → Bool
has_room minus size = if minus then nat_le size (2 ^ 31) else nat_lt size (2 ^ 31)

-- the number of 32 bits that a word writes, where a plus or a minus may stand first
unfoldable pub status_said : List ℕ → Option ℤ
status_said word =
    let digits = without_leading_sign word in
    if is_numeral digits && has_room (starts_with_minus word) (digits_value 10 digits) then Some (signed_digits_value 10 word) else None

-- ---- other words

-- a letter for the mark of a method
abbrev pub mark_said : ℕ → Option Mark
mark_said letter =
    if letter == 79 then Some mark.Off
    else if letter == 80 then Some mark.Plain
    else if letter == 82 then Some mark.Root
    else None

abbrev pub marks_said : List ℕ → Option (List Mark)
marks_said word = all_found mark_said word

abbrev pub kind_said : List ℕ → Option EventKind
kind_said word =
    if bytes_eq word (codes "root") then Some kind.Root
    else if bytes_eq word (codes "enter") then Some kind.Enter
    else if bytes_eq word (codes "leave") then Some kind.Leave
    else if bytes_eq word (codes "unwind") then Some kind.Unwind
    else None

-- why bytes are no class file
abbrev pub fault_said : List ℕ → Option ReadError
fault_said words =
    if bytes_eq (word_of words) (codes "Truncated") then option_map (λ at. Truncated at) (number_said 64 (rest_of words))
    else if bytes_eq (word_of words) (codes "BadMagic") then Some BadMagic
    else None

-- why bytes redefine no class
abbrev pub cause_said : List ℕ → Option SwapError
cause_said words =
    if bytes_eq (word_of words) (codes "NotSameShape") then option_map (λ at. NotSameShape at) (number_said 16 (rest_of words))
    else if bytes_eq (word_of words) (codes "Unreadable") then option_map (λ fault. Unreadable fault) (fault_said (rest_of words))
    else None

-- what a program has written: this line, or nothing
abbrev pub output_said : List ℕ → List ℕ
output_said text = if length text == 0 then [] else text ++ 10 ∷ []
