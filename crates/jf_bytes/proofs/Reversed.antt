-- The top of a stack is the end of the list that holds it.
use Rattle.std.proofs.Common.{◌≡◌, ℕ, ◌-◌, ◌≤◌, List, ◌++◌, length, take, drop, sym, ap, ◌∙◌, arith}
use Rattle.std.specs.Prelude.{reverse}
use Rattle.std.proofs.lemmas.List.{reverse-append, length-reverse, take_at, drop_at, take-append-drop, length-drop}

-- the list, in two parts from the end
split : {X : Type 0} (xs : List X) (n : ℕ) → reverse xs ≡ reverse (drop n xs) ++ reverse (take n xs)
split xs n = ap reverse (sym (take-append-drop n xs)) ∙ reverse-append (take n xs) (drop n xs)

pub take-reverse : {X : Type 0} (xs : List X) (count : ℕ) → count ≤ length xs → take count (reverse xs) ≡ reverse (drop (length xs - count) xs)
take-reverse xs count le =
    let n : ℕ = length xs - count in
    let len : length (reverse (drop n xs)) ≡ count = omega (arith, length-reverse (drop n xs), length-drop n xs) in
    ap (take count) (split xs n) ∙ take_at (reverse (drop n xs)) (reverse (take n xs)) count len

pub drop-reverse : {X : Type 0} (xs : List X) (count : ℕ) → count ≤ length xs → drop count (reverse xs) ≡ reverse (take (length xs - count) xs)
drop-reverse xs count le =
    let n : ℕ = length xs - count in
    let len : length (reverse (drop n xs)) ≡ count = omega (arith, length-reverse (drop n xs), length-drop n xs) in
    ap (drop count) (split xs n) ∙ drop_at (reverse (drop n xs)) (reverse (take n xs)) count len
