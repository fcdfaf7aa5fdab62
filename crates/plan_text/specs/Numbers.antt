-- Numbers in a plan's text.
use Rattle.std.specs.Prelude.{ℕ, Bool, List, length, ◌&&◌, Option, Some, None, nat_le, if◌then◌else◌}
use Rattle.std.specs.Option.{option_and_then}
use Rattle.std.specs.List.{list_all}
use Rattle.std.specs.Char.{is_ascii_digit}
use Rattle.std.specs.Str.Parse.{digits_value}

-- 1 to 13 decimal digits, of which the first ones may be zeros; a sign or a space is no digit
abbrev pub is_number : List ℕ → Bool
is_number word = (nat_le 1 (length word) && nat_le (length word) 13) && list_all is_ascii_digit word

-- the number that a word spells, where it is at most so great
abbrev pub number_of : ℕ → List ℕ → Option ℕ
number_of most word =
    let value = digits_value 10 word in
    if is_number word && nat_le value most then Some value else None

-- the greatest budget, and the greatest moment
abbrev pub greatest_steps : ℕ
greatest_steps = 1000000000000

abbrev pub least_heap : ℕ
least_heap = 1024

abbrev pub greatest_heap : ℕ
greatest_heap = 67108864

-- the heap slots that a word spells
abbrev pub heap_of : List ℕ → Option ℕ
heap_of word = option_and_then (λ slots. if nat_le least_heap slots then Some slots else None) (number_of greatest_heap word)
