-- What is fetched of a file: all of it, or of a longer one a front that is too long itself.
use Rattle.std.proofs.Common.{◌≡◌, ℕ, ◌+◌, ◌<◌, ◌≤◌, List, length, take, Option, Some, None, sym, ap, ◌∙◌, arith}
use Rattle.std.specs.Prelude.{IsSomeAnd}
use Rattle.std.specs.Option.{option_map}
use Rattle.std.proofs.lemmas.List.{length-take, take_all}
use Rattle.byte_streams.specs.Streams.{Told, contents_at, IsFetched, IsToldAs, HasTold}
use Rattle.map_rows.specs.Files.{most}

abbrev some : List ℕ → Option (List ℕ)
some bytes = Some bytes

some_is : (x y : List ℕ) → some x ≡ some y → x ≡ y
some_is x y e = cc

whole : (contents bytes : List ℕ) → take (most + 1) contents ≡ bytes → length bytes ≤ most → contents ≡ bytes
whole contents bytes e short =
    sym (take_all (most + 1) contents (omega (arith, length-take (most + 1) contents, ap length e, short))) ∙ e

whole_at : (o : Option (List ℕ)) (bytes : List ℕ) → option_map (take (most + 1)) o ≡ some bytes → length bytes ≤ most → o ≡ some bytes
whole_at None bytes e short = e
whole_at (Some contents) bytes e short = ap some (whole contents bytes (some_is (take (most + 1) contents) bytes e) short)

-- what was fetched and is not too long is all of the contents
pub told_whole : (files : Option Told) (name bytes : List ℕ) → IsFetched files name most bytes → length bytes ≤ most → IsToldAs files name bytes
told_whole None name bytes fetched short = tt
told_whole (Some told) name bytes fetched short = whole_at (contents_at told name) bytes fetched short

long_at : (o : Option (List ℕ)) (bytes : List ℕ) → option_map (take (most + 1)) o ≡ some bytes → most < length bytes → IsSomeAnd o (λ t. most < length t)
long_at None bytes e long = absurd (cc)
long_at (Some contents) bytes e long =
    omega (arith, length-take (most + 1) contents, ap length (some_is (take (most + 1) contents) bytes e), long)

-- what was fetched and is too long is so as it is
pub told_long : (files : Option Told) (name bytes : List ℕ) → IsFetched files name most bytes → most < length bytes
    → HasTold files name (λ t. most < length t)
told_long None name bytes fetched long = tt
told_long (Some told) name bytes fetched long = long_at (contents_at told name) bytes fetched long
