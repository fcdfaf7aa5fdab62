-- Puts one after the other, for what is put in parts.
use Rattle.std.proofs.Common.{◌≡◌, ◌+◌, ℕ, List, ◌++◌, Option, None, Some, length, take, refl, sym, ap, ◌∙◌, append_assoc, append-nil, arith, length-append}
use Rattle.std.proofs.lemmas.List.{take-append-le}
use Rattle.std.proofs.Math.Seq.{take-append-add, take-length}
use Rattle.std.specs.Io.KnownBytes.{append_known}
use Rattle.byte_streams.specs.Streams.{PutsPrefix}

-- two parts, one after the other, are both together
pub append_known-append : (old : Option (List ℕ)) (xs ys : List ℕ) → append_known (append_known old xs) ys ≡ append_known old (xs ++ ys)
append_known-append None xs ys = refl
append_known-append (Some known) xs ys = ap Some (append_assoc known xs ys)

-- nothing was put
pub PutsPrefix-nothing : (old : Option (List ℕ)) (bytes : List ℕ) → PutsPrefix old old bytes
PutsPrefix-nothing None bytes = (0, omega arith, refl)
PutsPrefix-nothing (Some known) bytes = (0, omega arith, ap Some (sym (append-nil known)))

-- all bytes were put
pub PutsPrefix-all : (old new : Option (List ℕ)) (bytes : List ℕ) → new ≡ append_known old bytes → PutsPrefix old new bytes
PutsPrefix-all old new bytes all = (length bytes, omega arith, all ∙ ap (append_known old) (sym (take-length bytes)))

-- the first part was not put whole
pub PutsPrefix-first : (old new : Option (List ℕ)) (xs ys : List ℕ) → PutsPrefix old new xs → PutsPrefix old new (xs ++ ys)
PutsPrefix-first old new xs ys front =
    (front.0, omega (arith, front.1, length-append xs ys), front.2 ∙ ap (append_known old) (sym (take-append-le front.0 xs ys front.1)))

-- the first part was put whole, and the second in part
pub PutsPrefix-second : (old mid new : Option (List ℕ)) (xs ys : List ℕ) → mid ≡ append_known old xs → PutsPrefix mid new ys → PutsPrefix old new (xs ++ ys)
PutsPrefix-second old mid new xs ys first front = (
  length xs + front.0,
  omega (arith, front.1, length-append xs ys),
  front.2 ∙ ap (λ known. append_known known (take front.0 ys)) first ∙ append_known-append old xs (take front.0 ys)
      ∙ ap (append_known old) (sym (take-append-add xs ys front.0)),
)
