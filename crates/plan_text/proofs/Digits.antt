-- Words that are numbers.
use Rattle.std.proofs.Common.{◌≡◌, ◌≢◌, ℕ, ◌<◌, ◌≤◌, ◌^◌, Bool, true, false, List, length, Option, Some, None, refl, sym, subst, arith, rules}
use Rattle.std.specs.Prelude.{Result, Err, nat_le, ◌&&◌, if◌then◌else◌}
use Rattle.std.specs.List.{list_all}
use Rattle.std.specs.Char.{is_ascii_digit}
use Rattle.std.specs.Result.{OkIff}
use Rattle.std.specs.Str.Parse.{ParsesUnsigned, digits_value}
use Rattle.std.proofs.lemmas.Bool.{and_parts, leb-true}
use Rattle.std.proofs.lemmas.Str.Parse.{IsNumeralModel, numerals_by_value, parse_digits}
use Rattle.plan_text.specs.Numbers.{is_number, number_of}

digits : IsNumeralModel (λ ds. list_all is_ascii_digit ds ≡ true) (digits_value 10)
digits = numerals_by_value _ (search rules)

none_of : (test : Bool) (given : Option ℕ) → test ≢ true → (if test then given else None) ≡ None
none_of true given fails = absurd (fails refl)
none_of false given fails = refl

-- a number that k bits do not hold is too great
pub not_held : {E : Type 0} (k most : ℕ) (word : List ℕ) (parse : Result ℕ E) (e : E)
    → parse ≡ Err e → is_number word ≡ true → most < 2 ^ k → ParsesUnsigned k 10 word parse
    → None ≡ number_of most word
not_held {E = E} k most word parse e failed number fits parsed =
    let value : ℕ = digits_value 10 word in
    let form = and_parts (nat_le 1 (length word) && nat_le (length word) 13)
    (list_all is_ascii_digit word) number in
    let some : 1 ≤ length word =
    leb-true 1 (length word)
    (and_parts (nat_le 1 (length word)) (nat_le (length word) 13) form.0).0 in
    let outside = subst (λ (r : Result ℕ E). OkIff r ((0 < length word) × (value < 2 ^ k)) value)
    failed (parse_digits digits k word parse parsed form.1) in
    sym (none_of (is_number word && nat_le value most) (Some value) (λ test.
    let small : value ≤ most =
    leb-true value most (and_parts (is_number word) (nat_le value most) test).1 in
    outside (omega (arith, some), omega (arith, small, fits))))
