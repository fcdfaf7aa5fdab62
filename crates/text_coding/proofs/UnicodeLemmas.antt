-- Characters and their units, one after the other.
use Rattle.std.proofs.Common.{◌≡◌, ℕ, ◌<◌, inl, inr, List, [], ◌∷◌, ◌++◌, true, false, ◌&&◌, Some, length, get_or, drop, refl, arith}
use Rattle.std.proofs.lemmas.Bool.{and_parts, lt-ltb, le-ltb, cases_lt}
use lib.Utf8.{scalar, scalars, scalar_cases}
use Rattle.std.specs.List.{flat_map}
use Rattle.std.specs.Char.Escape.{encode_utf16}
use Rattle.std.specs.Char.Utf16.{is_high_surrogate, is_low_surrogate, surrogate_pair_char, lone_unit_char, utf16_chars}
use Rattle.text_coding.specs.Spelling.{IsUnits}
use Rattle.jf_bytes.specs.Unicode.{utf8_of}

-- two surrogates that are a pair are the first character
pub utf16_chars-pair : (units : List ℕ) → (is_high_surrogate (get_or units 0 0) && is_low_surrogate (get_or units 1 0)) ≡ true
    → utf16_chars units ≡ Some (surrogate_pair_char (get_or units 0 0) (get_or units 1 0)) ∷ utf16_chars (drop 2 units)
unfolding utf16_chars
utf16_chars-pair [] pair = cc
utf16_chars-pair (u ∷ []) pair =
    let low : false ≡ true = (and_parts (is_high_surrogate u) false pair).1 in
    cc
utf16_chars-pair (u ∷ v ∷ units) pair = rw pair

-- a unit that is in no pair is the first character
pub utf16_chars-lone : (units : List ℕ) → 0 < length units → (is_high_surrogate (get_or units 0 0) && is_low_surrogate (get_or units 1 0)) ≡ false
    → utf16_chars units ≡ lone_unit_char (get_or units 0 0) ∷ utf16_chars (drop 1 units)
unfolding utf16_chars
utf16_chars-lone [] some apart = absurd (omega arith)
utf16_chars-lone (u ∷ []) some apart = refl
utf16_chars-lone (u ∷ v ∷ units) some apart = rw apart

-- of no units there is nothing to show
pub utf8_of-nil : (units : List ℕ) → length units ≡ 0 → utf8_of units ≡ []
unfolding utf16_chars
utf8_of-nil [] none = refl
utf8_of-nil (u ∷ units) none = absurd (omega arith)

-- the units of a character are units
char_fit : (c : ℕ) → scalar c ≡ true → (rest : List ℕ) → IsUnits rest → IsUnits (encode_utf16 c ++ rest)
char_fit c is rest h = elim (cases_lt c 65536) [
  | inl low ↦ rw (lt-ltb c 65536 low) (low, h)
  | inr high ↦
      let below : c < 1114112 = elim (scalar_cases c is) [ inl low ↦ omega arith | inr m ↦ m.1 ] in
      rw (le-ltb c 65536 high) (omega arith, (omega arith, h))
]

pub chars_fit : (cs : List ℕ) → scalars cs ≡ true → IsUnits (flat_map encode_utf16 cs)
chars_fit [] is = tt
chars_fit (c ∷ cs) is =
    let parts = and_parts (scalar c) (scalars cs) is in
    char_fit c parts.0 (flat_map encode_utf16 cs) (chars_fit cs parts.1)
