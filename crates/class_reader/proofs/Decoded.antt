-- What is decoded is what the bytes spell, and where they spell no text, the offset is that of the first bad byte.
use Rattle.std.proofs.Common.{◌≡◌, ℕ, zero, suc, ◌+◌, ◌*◌, ◌%◌, ◌<◌, ◌≤◌, ◌⊎◌, inl, inr, true, false, eqb, List, [], ◌∷◌, length, get_or, take, drop, Result, Ok, Err, refl, sym, ap, ◌∙◌, subst, arith, append-nil, length-drop, length-take}
use Rattle.std.proofs.lemmas.Bool.{cond_both, and_parts, and_from, leb-true, le-leb, eqb-true, eqb-false, both_ways}
use Rattle.std.proofs.lemmas.List.{take-append-drop}
use Rattle.jf_bytes.specs.ModifiedUtf8.{unit_bytes}
use Rattle.text_coding.specs.Spelling.{IsSpelling, IsFirstBad, BeginsWith, IsDoubleLead, IsTripleLead}
use Rattle.text_coding.proofs.UnitLemmas.{unit_bytes-one, unit_bytes-some, double_spelled, triple_spelled}
use Rattle.text_coding.proofs.FrontLemmas.{bad_first, no_begin, double_bad, triple_bad, tail_bad}
use Rattle.text_coding.proofs.SpellingLemmas.{IsSpelling-append, spelling_same, first_bad-behind, first_bad-one}
use Rattle.class_reader.specs.Decoding.{is_between, double_unit, triple_unit, front_unit, after_unit, then_decoded, decoded_from, text_decoded}

between-true : (least byte most : ℕ) → is_between least byte most ≡ true → (least ≤ byte) × (byte ≤ most)
between-true least byte most e =
    let parts = and_parts _ _ e in
    (leb-true least byte parts.0, leb-true byte most parts.1)

between-false : (least byte most : ℕ) → is_between least byte most ≡ false → ¬ ((least ≤ byte) × (byte ≤ most))
between-false least byte most e h =
    both_ways _ e (and_from _ _ (le-leb least byte h.0) (le-leb byte most h.1))

-- ---- the unit at the front

-- what the front must be for this unit, or for this offset
abbrev IsFront : List ℕ → Result ℕ ℕ → Type 0
IsFront bytes (Ok unit) = BeginsWith bytes unit
IsFront bytes (Err at) = IsFirstBad bytes at

single_begins : (bytes : List ℕ) → (1 ≤ get_or bytes 0 0) × (get_or bytes 0 0 ≤ 127) → BeginsWith bytes (get_or bytes 0 0)
single_begins [] h = absurd (omega (arith, h.0))
single_begins (a ∷ rest) h = record {
  fits = omega (arith, h.1);
  prefix = rw (unit_bytes-one a (omega (arith, h.0)) (omega (arith, h.1))) refl;
}

double_begins : (bytes : List ℕ) (most : ℕ) → IsDoubleLead (get_or bytes 0 0) most
    → (128 ≤ get_or bytes 1 0) × (get_or bytes 1 0 ≤ most)
    → BeginsWith bytes ((get_or bytes 0 0 % 32) * 64 + get_or bytes 1 0 % 64)
double_begins [] most lead h = absurd (omega (arith, h.0))
double_begins (a ∷ []) most lead h = absurd (omega (arith, h.0))
double_begins (a ∷ b ∷ rest) most lead h =
    let kind : ((a ≡ 192) × (b ≡ 128)) ⊎ ((194 ≤ a) × (a < 224) × (128 ≤ b) × (b < 192)) = elim lead [
      | inl z ↦ inl (z.0, omega (arith, z.1, h.0, h.1))
      | inr m ↦ inr (m.0, m.1, h.0, omega (arith, m.2, h.1))
    ] in
    record { fits = omega arith; prefix = rw (double_spelled a b kind) refl }

triple_begins : (bytes : List ℕ) (least : ℕ) → IsTripleLead (get_or bytes 0 0) least
    → (least ≤ get_or bytes 1 0) × (get_or bytes 1 0 ≤ 191) → (128 ≤ get_or bytes 2 0) × (get_or bytes 2 0 ≤ 191)
    → BeginsWith bytes ((get_or bytes 0 0 % 16) * 4096 + (get_or bytes 1 0 % 64) * 64 + get_or bytes 2 0 % 64)
triple_begins [] least lead h k = absurd (omega (arith, k.0))
triple_begins (a ∷ []) least lead h k = absurd (omega (arith, k.0))
triple_begins (a ∷ b ∷ []) least lead h k = absurd (omega (arith, k.0))
triple_begins (a ∷ b ∷ c ∷ rest) least lead h k =
    let kind : ((a ≡ 224) × (160 ≤ b)) ⊎ ((225 ≤ a) × (128 ≤ b)) = elim lead [
      | inl z ↦ inl (z.0, omega (arith, z.1, h.0))
      | inr m ↦ inr (m.0, omega (arith, m.2, h.0))
    ] in
    let below : a < 240 = elim lead [ inl z ↦ omega (arith, z.0) | inr m ↦ m.1 ] in
    let spelled = triple_spelled a b c kind below (omega (arith, h.1)) k.0 (omega (arith, k.1)) in
    record { fits = omega arith; prefix = rw spelled refl }

double_front : (bytes : List ℕ) (most : ℕ) → 0 < length bytes → IsDoubleLead (get_or bytes 0 0) most
    → IsFront bytes (double_unit (get_or bytes 0 0) (get_or bytes 1 0) most)
double_front bytes most some lead = cond_both (is_between 128 (get_or bytes 1 0) most) _ _ (IsFront bytes)
    (λ e. double_begins bytes most lead (between-true _ _ _ e))
    (λ e. double_bad bytes most some lead (between-false _ _ _ e))

triple_front : (bytes : List ℕ) (least : ℕ) → 0 < length bytes → IsTripleLead (get_or bytes 0 0) least
    → IsFront bytes (triple_unit (get_or bytes 0 0) (get_or bytes 1 0) (get_or bytes 2 0) least)
triple_front bytes least some lead = cond_both (is_between least (get_or bytes 1 0) 191) _ _ (IsFront bytes)
    (λ e. cond_both (is_between 128 (get_or bytes 2 0) 191) _ _ (IsFront bytes)
    (λ d. triple_begins bytes least lead (between-true _ _ _ e) (between-true _ _ _ d))
    (λ d. tail_bad bytes least lead (between-true _ _ _ e) (between-false _ _ _ d)))
    (λ e. triple_bad bytes least some lead (between-false _ _ _ e))

double_lead : (a : ℕ) → (194 ≤ a) × (a ≤ 223) → IsDoubleLead a 191
double_lead a h = inr (h.0, omega (arith, h.1), refl)

triple_lead : (a : ℕ) → (225 ≤ a) × (a ≤ 239) → IsTripleLead a 128
triple_lead a h = inr (h.0, omega (arith, h.1), refl)

-- the first bytes that are none of the five kinds
apart : (a : ℕ) → ¬ ((1 ≤ a) × (a ≤ 127)) → ¬ (a ≡ 192) → ¬ ((194 ≤ a) × (a ≤ 223)) → ¬ (a ≡ 224)
    → ¬ ((225 ≤ a) × (a ≤ 239))
    → (a < 1) ⊎ (((128 ≤ a) × (a < 194) × (a ≡ 192 → ⊥)) ⊎ (240 ≤ a))
apart a one zeroth two least three = grind arith

fronts : (bytes : List ℕ) → 0 < length bytes → IsFront bytes (front_unit bytes)
fronts bytes some =
    let a = get_or bytes 0 0 in
    cond_both (is_between 1 a 127) _ _ (IsFront bytes)
    (λ e. single_begins bytes (between-true _ _ _ e)) (λ no_single.
    cond_both (eqb a 192) _ _ (IsFront bytes)
    (λ e. double_front bytes 128 some (inl (eqb-true a 192 e, refl))) (λ no_zero.
    cond_both (is_between 194 a 223) _ _ (IsFront bytes)
    (λ e. double_front bytes 191 some (double_lead a (between-true _ _ _ e))) (λ no_double.
    cond_both (eqb a 224) _ _ (IsFront bytes)
    (λ e. triple_front bytes 160 some (inl (eqb-true a 224 e, refl))) (λ no_least.
    cond_both (is_between 225 a 239) _ _ (IsFront bytes)
    (λ e. triple_front bytes 128 some (triple_lead a (between-true _ _ _ e))) (λ no_triple.
    let none = apart a (between-false _ _ _ no_single) (eqb-false a 192 no_zero) (between-false _ _ _ no_double)
    (eqb-false a 224 no_least) (between-false _ _ _ no_triple) in
    bad_first bytes some (λ b c. no_begin a b c none))))))

-- ---- the units one after the other

-- what the bytes must be for these units, or for this offset
abbrev IsAnswer : List ℕ → Result (List ℕ) ℕ → Type 0
IsAnswer bytes (Ok units) = IsSpelling bytes units
IsAnswer bytes (Err at) = IsFirstBad bytes at

-- a unit's bytes are there, and they are a text
begins_text : (bytes : List ℕ) (unit : ℕ) → BeginsWith bytes unit
    → (length (unit_bytes unit) ≤ length bytes) × IsSpelling (take (length (unit_bytes unit)) bytes) (unit ∷ [])
begins_text bytes unit begins =
    let size = length (unit_bytes unit) in
    let within : size ≤ length bytes = omega (arith, length-take size bytes, ap length begins.prefix) in
    (within, record { fit = (begins.fits, tt); spelled = append-nil (unit_bytes unit) ∙ sym begins.prefix })

-- what is behind a unit's bytes gives what they give together
after_one : (bytes : List ℕ) (unit : ℕ) (rest : Result (List ℕ) ℕ) → BeginsWith bytes unit
    → IsAnswer (drop (length (unit_bytes unit)) bytes) rest → IsAnswer bytes (after_unit unit rest)
after_one bytes unit (Ok units) begins answer =
    let size = length (unit_bytes unit) in
    let whole = IsSpelling-append (take size bytes) (drop size bytes) (unit ∷ []) units (begins_text bytes unit begins).1 answer in
    subst (λ t. IsSpelling t (unit ∷ units)) (take-append-drop size bytes) whole
after_one bytes unit (Err at) begins answer =
    let text = begins_text bytes unit begins in
    first_bad-behind bytes (unit ∷ []) (length (unit_bytes unit)) at text.0 text.1 answer

-- behind a unit there are fewer bytes
fewer : (bytes : List ℕ) (unit fuel : ℕ) → BeginsWith bytes unit → length bytes ≤ suc fuel
    → length (drop (length (unit_bytes unit)) bytes) ≤ fuel
fewer bytes unit fuel begins enough =
    omega (arith, unit_bytes-some unit begins.fits, length-drop (length (unit_bytes unit)) bytes)

-- one turn
turn : (rest : List ℕ → Result (List ℕ) ℕ) (fuel : ℕ) → ((bytes : List ℕ) → length bytes ≤ fuel → IsAnswer bytes (rest bytes))
    → (bytes : List ℕ) → length bytes ≤ suc fuel → (front : Result ℕ ℕ) → IsFront bytes front
    → IsAnswer bytes (then_decoded rest bytes front)
turn rest fuel others bytes enough (Ok unit) begins =
    after_one bytes unit _ begins (others (drop (length (unit_bytes unit)) bytes) (fewer bytes unit fuel begins enough))
turn rest fuel others bytes enough (Err at) bad = bad

answers_from : (fuel : ℕ) (bytes : List ℕ) → length bytes ≤ fuel → IsAnswer bytes (decoded_from fuel bytes)
unfolding decoded_from
answers_from fuel [] enough = record { fit = tt; spelled = refl }
answers_from zero (byte ∷ bytes) enough = absurd (omega (arith, enough))
answers_from (suc fuel) (byte ∷ bytes) enough =
    turn (decoded_from fuel) fuel (answers_from fuel) (byte ∷ bytes) enough _ (fronts (byte ∷ bytes) (omega arith))

answers : (bytes : List ℕ) → IsAnswer bytes (text_decoded bytes)
unfolding text_decoded
answers bytes = answers_from (length bytes) bytes (omega arith)

-- a text has one answer, and so have bytes that are none
only_text : (bytes units : List ℕ) (answer : Result (List ℕ) ℕ) → IsAnswer bytes answer → IsSpelling bytes units
    → answer ≡ Ok units
only_text bytes units (Ok found) spelling h =
    ap Ok (spelling_same found units spelling.fit h.fit (spelling.spelled ∙ sym h.spelled))
only_text bytes units (Err at) bad h = absurd (bad.no_text units h)

only_bad : (bytes : List ℕ) (at : ℕ) (answer : Result (List ℕ) ℕ) → IsAnswer bytes answer → IsFirstBad bytes at
    → answer ≡ Err at
only_bad bytes at (Ok found) spelling h = absurd (h.no_text found spelling)
only_bad bytes at (Err good) bad h = ap Err (first_bad-one bytes good at bad h)

-- ---- the laws

pub decoded-spelling : (bytes units : List ℕ) → text_decoded bytes ≡ Ok units → IsSpelling bytes units
decoded-spelling bytes units e = subst (IsAnswer bytes) e (answers bytes)

pub decoded-first_bad : (bytes : List ℕ) (at : ℕ) → text_decoded bytes ≡ Err at → IsFirstBad bytes at
decoded-first_bad bytes at e = subst (IsAnswer bytes) e (answers bytes)

pub spelling-decoded : (bytes units : List ℕ) → IsSpelling bytes units → text_decoded bytes ≡ Ok units
spelling-decoded bytes units h = only_text bytes units (text_decoded bytes) (answers bytes) h

pub first_bad-decoded : (bytes : List ℕ) (at : ℕ) → IsFirstBad bytes at → text_decoded bytes ≡ Err at
first_bad-decoded bytes at h = only_bad bytes at (text_decoded bytes) (answers bytes) h

-- ---- by computing

-- a letter, U+0000 in its two bytes, and U+1F600 as two surrogates
four_units : text_decoded (0x41 ∷ 0xC0 ∷ 0x80 ∷ 0xED ∷ 0xA0 ∷ 0xBD ∷ 0xED ∷ 0xB8 ∷ 0x80 ∷ [])
    ≡ Ok (0x41 ∷ 0 ∷ 0xD83D ∷ 0xDE00 ∷ [])
unfolding text_decoded decoded_from
four_units = refl

byte_zero : text_decoded (0 ∷ []) ≡ Err 0
unfolding text_decoded decoded_from
byte_zero = refl

overlong_double : text_decoded (0xC0 ∷ 0x81 ∷ []) ≡ Err 1
unfolding text_decoded decoded_from
overlong_double = refl

overlong_triple : text_decoded (0xE0 ∷ 0x80 ∷ 0x80 ∷ []) ≡ Err 1
unfolding text_decoded decoded_from
overlong_triple = refl

ends_early : text_decoded (0xC2 ∷ []) ≡ Err 1
unfolding text_decoded decoded_from
ends_early = refl

-- behind a letter, the offset counts from the first byte
ends_late : text_decoded (0x41 ∷ 0xE2 ∷ 0x82 ∷ []) ≡ Err 3
unfolding text_decoded decoded_from
ends_late = refl
