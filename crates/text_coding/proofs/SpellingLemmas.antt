-- Texts that begin alike: spelling is one to one, and what goes on after a text goes on alone.
use Rattle.std.proofs.Common.{◌≡◌, ℕ, ◌+◌, ◌-◌, ◌^◌, ◌<◌, ◌≤◌, List, [], ◌∷◌, ◌++◌, length, take, drop, refl, sym, ap, ◌∙◌, subst, arith, append_assoc, append-nil, length-append, length-drop, length-take}
use Rattle.std.proofs.lemmas.List.{take-append-drop, take-take, take_all, take_rest}
use Rattle.std.proofs.lemmas.Grind.{flat_map-append}
use Rattle.std.proofs.Math.Seq.{take-add}
use Rattle.jf_bytes.specs.ModifiedUtf8.{unit_bytes, modified_utf8}
use Rattle.text_coding.specs.Spelling.{IsUnits, IsSpelling, GoesOn, IsFirstBad, BeginsWith}
use Rattle.text_coding.proofs.UnitLemmas.{unit_same, unit_bytes-some}

pub modified_utf8-append : (xs ys : List ℕ) → modified_utf8 (xs ++ ys) ≡ modified_utf8 xs ++ modified_utf8 ys
modified_utf8-append xs ys = flat_map-append unit_bytes xs ys

IsUnits-append : (xs ys : List ℕ) → IsUnits xs → IsUnits ys → IsUnits (xs ++ ys)
IsUnits-append [] ys h k = k
IsUnits-append (x ∷ xs) ys h k = (h.0, IsUnits-append xs ys h.1 k)

pub IsSpelling-append : (p q xs ys : List ℕ) → IsSpelling p xs → IsSpelling q ys → IsSpelling (p ++ q) (xs ++ ys)
IsSpelling-append p q xs ys h k = record {
  fit = IsUnits-append xs ys h.fit k.fit;
  spelled = modified_utf8-append xs ys ∙ (λ i. h.spelled i ++ k.spelled i);
}

-- no unit has no bytes
nothing_spelled : (unit : ℕ) (xs : List ℕ) → unit < 2 ^ 16 → [] ≡ unit_bytes unit ++ xs → ⊥
nothing_spelled unit xs fits e = omega (arith, unit_bytes-some unit fits, length-append (unit_bytes unit) xs, ap length e)

-- a text has one spelling
pub spelling_same : (xs ys : List ℕ) → IsUnits xs → IsUnits ys → modified_utf8 xs ≡ modified_utf8 ys → xs ≡ ys
spelling_same [] [] h k e = refl
spelling_same [] (y ∷ ys) h k e = absurd (nothing_spelled y _ k.0 e)
spelling_same (x ∷ xs) [] h k e = absurd (nothing_spelled x _ h.0 (sym e))
spelling_same (x ∷ xs) (y ∷ ys) h k e =
    let s = unit_same x y _ _ h.0 k.0 e in
    let rest = spelling_same xs ys h.1 k.1 s.1 in
    (λ i. s.0 i ∷ rest i)

-- what follows some units in a text is spelled by the others
has_rest : (xs ys more : List ℕ) → IsUnits xs → IsUnits ys → modified_utf8 ys ≡ modified_utf8 xs ++ more → (rest : List ℕ) × IsSpelling more rest
has_rest [] ys more h k e = (ys, record { fit = k; spelled = e })
has_rest (x ∷ xs) [] more h k e = absurd (nothing_spelled x _ h.0 (e ∙ append_assoc (unit_bytes x) (modified_utf8 xs) more))
has_rest (x ∷ xs) (y ∷ ys) more h k e =
    let s = unit_same y x _ _ k.0 h.0 (e ∙ append_assoc (unit_bytes x) (modified_utf8 xs) more) in
    has_rest xs ys more h.1 k.1 s.1

pub rest_spelled : (p q xs ys : List ℕ) → IsSpelling p xs → IsSpelling (p ++ q) ys → (rest : List ℕ) × IsSpelling q rest
rest_spelled p q xs ys h k = has_rest xs ys q h.fit k.fit (k.spelled ∙ ap (λ t. t ++ q) (sym h.spelled))

-- behind a text, what goes on goes on, and nothing else
pub goes_on-behind : (p xs front : List ℕ) → IsSpelling p xs → GoesOn front → GoesOn (p ++ front)
goes_on-behind p xs front h g = record {
  more = g.more;
  units = xs ++ g.units;
  spelling = subst (λ t. IsSpelling t (xs ++ g.units)) (sym (append_assoc p front g.more)) (IsSpelling-append p (front ++ g.more) xs g.units h g.spelling);
}

pub goes_on-alone : (p xs front : List ℕ) → IsSpelling p xs → GoesOn (p ++ front) → GoesOn front
goes_on-alone p xs front h g =
    let r = rest_spelled p (front ++ g.more) xs g.units h (subst (λ t. IsSpelling t g.units) (append_assoc p front g.more) g.spelling) in
    record { more = g.more; units = r.0; spelling = r.1 }

-- the front of what goes on
pub goes_on-front : (front rest : List ℕ) → GoesOn (front ++ rest) → GoesOn front
goes_on-front front rest g = record {
  more = rest ++ g.more;
  units = g.units;
  spelling = subst (λ t. IsSpelling t g.units) (append_assoc front rest g.more) g.spelling;
}

-- the first bad byte behind a text
pub first_bad-behind : (bytes xs : List ℕ) (at good : ℕ) → at ≤ length bytes → IsSpelling (take at bytes) xs → IsFirstBad (drop at bytes) good → IsFirstBad bytes (at + good)
first_bad-behind bytes xs at good within h bad =
    let long = length-drop at bytes in
    record {
      within = omega (arith, bad.within);
      no_text = λ ys k.
          let r = rest_spelled (take at bytes) (drop at bytes) xs ys h (subst (λ t. IsSpelling t ys) (sym (take-append-drop at bytes)) k) in
          bad.no_text r.0 r.1;
      goes_on = subst GoesOn (sym (take-add at good bytes)) (goes_on-behind (take at bytes) xs (take good (drop at bytes)) h bad.goes_on);
      stops = λ more g.
          let next : at + good + 1 ≡ at + (good + 1) = omega arith in
          let front = subst (λ n. GoesOn (take n bytes)) next g in
          bad.stops (omega arith) (goes_on-alone (take at bytes) xs (take (good + 1) (drop at bytes)) h (subst GoesOn (take-add at (good + 1) bytes) front));
    }

-- only one byte is the first
not_below : (bytes : List ℕ) (a b : ℕ) → IsFirstBad bytes a → IsFirstBad bytes b → a < b → ⊥
not_below bytes a b bad bad' below =
    let within = bad'.within in
    let front : take (a + 1) bytes ++ drop (a + 1) (take b bytes) ≡ take b bytes = ap (λ t. t ++ drop (a + 1) (take b bytes)) (sym (take-take (a + 1) b bytes (omega arith))) ∙ take-append-drop (a + 1) (take b bytes) in
    bad.stops (omega arith) (goes_on-front (take (a + 1) bytes) (drop (a + 1) (take b bytes)) (subst GoesOn (sym front) bad'.goes_on))

pub first_bad-one : (bytes : List ℕ) (a b : ℕ) → IsFirstBad bytes a → IsFirstBad bytes b → a ≡ b
first_bad-one bytes a b bad bad' =
    let low = not_below bytes a b bad bad' in
    let high = not_below bytes b a bad' bad in
    omega (arith, low, high)

-- one unit more
pub spelling-more : (bytes xs : List ℕ) (unit at : ℕ) → IsSpelling (take at bytes) xs → BeginsWith (drop at bytes) unit
    → IsSpelling (take (at + length (unit_bytes unit)) bytes) (xs ++ unit ∷ [])
spelling-more bytes xs unit at h begins =
    let one : IsSpelling (take (length (unit_bytes unit)) (drop at bytes)) (unit ∷ []) = record { fit = (begins.fits, tt); spelled = append-nil (unit_bytes unit) ∙ sym begins.prefix } in
    subst (λ t. IsSpelling t (xs ++ unit ∷ [])) (sym (take-add at (length (unit_bytes unit)) bytes)) (IsSpelling-append (take at bytes) _ xs (unit ∷ []) h one)

-- the unit's bytes are there
pub begins-within : (bytes : List ℕ) (unit at : ℕ) → BeginsWith (drop at bytes) unit → at ≤ length bytes → at + length (unit_bytes unit) ≤ length bytes
begins-within bytes unit at begins within =
    omega (arith, length-drop at bytes, length-take (length (unit_bytes unit)) (drop at bytes), ap length begins.prefix)

-- where all bytes are read, the units so far are the only text
pub spelling_all : (bytes xs ys : List ℕ) (at : ℕ) → length bytes ≤ at → IsSpelling (take at bytes) xs → IsSpelling bytes ys → xs ≡ ys
spelling_all bytes xs ys at past h k = spelling_same xs ys h.fit k.fit (h.spelled ∙ take_all at bytes past ∙ sym k.spelled)

-- what is left, as a slice from `at` on is seen
abbrev pub left : List ℕ → ℕ → List ℕ
left bytes at = take (length bytes - at) (drop at bytes)

pub first_bad-left : (bytes xs : List ℕ) (at good : ℕ) → IsSpelling (take at bytes) xs → at ≤ length bytes → IsFirstBad (left bytes at) good → IsFirstBad bytes (at + good)
first_bad-left bytes xs at good h within bad =
    first_bad-behind bytes xs at good within h (subst (λ rest. IsFirstBad rest good) (take_rest bytes at) bad)

pub begins-left : (bytes : List ℕ) (unit at : ℕ) → BeginsWith (left bytes at) unit → BeginsWith (drop at bytes) unit
begins-left bytes unit at begins = subst (λ rest. BeginsWith rest unit) (take_rest bytes at) begins
