-- What the words say of a class file.
use Rattle.std.specs.Prelude.{ℕ, Bool, List, [], ◌∷◌, length, Option, Some, None, nat_le, ◌==◌, ◌&&◌, if◌then◌else◌}
use Rattle.std.specs.Char.{is_ascii_digit}
use Rattle.std.specs.List.{list_all}
use Rattle.std.specs.Str.Parse.{digits_value}
use Rattle.jvm_model.specs.declared.event.Mark.{Mark}
use Rattle.jvm_model.specs.declared.event.Mark.TheVariants.{Off, Plain, Root}

-- 1 to 13 decimal digits
abbrev pub is_number_word : List ℕ → Bool
is_number_word word = (nat_le 1 (length word) && nat_le (length word) 13) && list_all is_ascii_digit word

-- the number of the first method with Code, where it is one that a class can have
abbrev pub first_said : List ℕ → Option ℕ
first_said word =
    let value = digits_value 10 word in
    if is_number_word word && nat_le value 2147418112 then Some value else None

-- O, P and R
abbrev pub mark_said : ℕ → Option Mark
mark_said letter = if letter == 79 then Some Off else if letter == 80 then Some Plain else if letter == 82 then Some Root else None

abbrev pub with_mark : Option Mark → Option (List Mark) → Option (List Mark)
with_mark (Some mark) (Some marks) = Some (mark ∷ marks)
with_mark (Some mark) None = None
with_mark None marks = None

-- a letter for each method
abbrev pub marks_said : List ℕ → Option (List Mark)
marks_said [] = Some []
marks_said (letter ∷ rest) = with_mark (mark_said letter) (marks_said rest)
