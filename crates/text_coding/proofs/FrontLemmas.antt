-- What the first three bytes tell: the unit that they spell, or the first of them with which no text goes on.
use Rattle.std.proofs.Common.{◌≡◌, ℕ, ◌+◌, ◌*◌, ◌%◌, ◌^◌, ◌<◌, ◌≤◌, ◌⊎◌, inl, inr, List, [], ◌∷◌, ◌++◌, length, get_or, take, refl, ap, ◌∙◌, subst, arith, append-nil, length-append}
use Rattle.jf_bytes.specs.ModifiedUtf8.{unit_bytes, modified_utf8}
use Rattle.text_coding.specs.Spelling.{IsSpelling, GoesOn, IsFirstBad, IsDoubleLead, IsTripleLead}
use Rattle.text_coding.proofs.UnitLemmas.{Begins, BeginsAt, unit_begins, double_spelled, triple_spelled}
use Rattle.text_coding.proofs.SpellingLemmas.{goes_on-front}

-- a text that is not empty begins as texts do
spelling_begins : (bytes units : List ℕ) → IsSpelling bytes units → 0 < length bytes → BeginsAt bytes
spelling_begins bytes [] h some = absurd (omega (arith, ap length h.spelled))
spelling_begins bytes (unit ∷ units) h some = subst BeginsAt h.spelled (unit_begins unit h.fit.0 (modified_utf8 units))

goes_on_begins : (front : List ℕ) → (g : GoesOn front) → 0 < length front → BeginsAt (front ++ g.more)
goes_on_begins front g some = spelling_begins (front ++ g.more) g.units g.spelling (omega (arith, length-append front g.more))

-- nothing goes on to the empty text
pub goes_on-nil : GoesOn []
goes_on-nil = record { more = []; units = []; spelling = record { fit = tt; spelled = refl } }

-- the front of a unit's bytes goes on
goes_on-unit : (front more : List ℕ) (unit : ℕ) → unit < 2 ^ 16 → unit_bytes unit ≡ front ++ more → GoesOn front
goes_on-unit front more unit fits e = record { more = more; units = unit ∷ []; spelling = record { fit = (fits, tt); spelled = append-nil (unit_bytes unit) ∙ e } }

no_first : (a : ℕ) (rest : List ℕ) → ((b c : ℕ) → ¬ (Begins a b c)) → IsFirstBad (a ∷ rest) 0
no_first a rest apart = record {
  within = omega arith;
  no_text = λ units h. apart _ _ (spelling_begins (a ∷ rest) units h (omega arith));
  goes_on = goes_on-nil;
  stops = λ some g. apart _ _ (goes_on_begins (a ∷ []) g (omega arith));
}

no_second : (a : ℕ) (rest : List ℕ) → GoesOn (a ∷ []) → ((c : ℕ) → ¬ (Begins a (get_or rest 0 0) c)) → IsFirstBad (a ∷ rest) 1
no_second a rest g apart = record {
  within = omega arith;
  no_text = λ units h. apart _ (spelling_begins (a ∷ rest) units h (omega arith));
  goes_on = g;
  stops = stop rest apart;
} where
  stop : (rest : List ℕ) → ((c : ℕ) → ¬ (Begins a (get_or rest 0 0) c)) → 1 < length (a ∷ rest) → ¬ (GoesOn (take (1 + 1) (a ∷ rest)))
  stop [] apart some g = omega arith
  stop (b ∷ rest) apart some g = apart _ (goes_on_begins (a ∷ b ∷ []) g (omega arith))

no_third : (a b : ℕ) (rest : List ℕ) → GoesOn (a ∷ b ∷ []) → ¬ (Begins a b (get_or rest 0 0)) → IsFirstBad (a ∷ b ∷ rest) 2
no_third a b rest g apart = record {
  within = omega arith;
  no_text = λ units h. apart (spelling_begins (a ∷ b ∷ rest) units h (omega arith));
  goes_on = g;
  stops = stop rest apart;
} where
  stop : (rest : List ℕ) → ¬ (Begins a b (get_or rest 0 0)) → 2 < length (a ∷ b ∷ rest) → ¬ (GoesOn (take (2 + 1) (a ∷ b ∷ rest)))
  stop [] apart some g = omega arith
  stop (c ∷ rest) apart some g = apart (goes_on_begins (a ∷ b ∷ c ∷ []) g (omega arith))

-- a first byte that begins no text
pub bad_first : (bytes : List ℕ) → 0 < length bytes → ((b c : ℕ) → ¬ (Begins (get_or bytes 0 0) b c)) → IsFirstBad bytes 0
bad_first [] some apart = absurd (omega arith)
bad_first (a ∷ rest) some apart = no_first a rest apart

bad_second : (bytes : List ℕ) → 0 < length bytes → GoesOn (get_or bytes 0 0 ∷ []) → ((c : ℕ) → ¬ (Begins (get_or bytes 0 0) (get_or bytes 1 0) c)) → IsFirstBad bytes 1
bad_second [] some g apart = absurd (omega arith)
bad_second (a ∷ rest) some g apart = no_second a rest g apart

bad_third : (bytes : List ℕ) → 0 < get_or bytes 1 0 → GoesOn (get_or bytes 0 0 ∷ get_or bytes 1 0 ∷ []) → ¬ (Begins (get_or bytes 0 0) (get_or bytes 1 0) (get_or bytes 2 0)) → IsFirstBad bytes 2
bad_third [] some g apart = absurd (omega arith)
bad_third (a ∷ []) some g apart = absurd (omega arith)
bad_third (a ∷ b ∷ rest) some g apart = no_third a b rest g apart

double_goes_on : (a most : ℕ) → IsDoubleLead a most → GoesOn (a ∷ [])
double_goes_on a most lead =
    let fits : (a % 32) * 64 + 128 % 64 < 2 ^ 16 = omega arith in
    let kind : ((a ≡ 192) × (128 ≡ 128)) ⊎ ((194 ≤ a) × (a < 224) × (128 ≤ 128) × (128 < 192)) = elim lead [ inl z ↦ inl (z.0, refl) | inr m ↦ inr (m.0, m.1, omega arith, omega arith) ] in
    goes_on-unit (a ∷ []) (128 ∷ []) _ fits (double_spelled a 128 kind)

no_double : (a b c most : ℕ) → IsDoubleLead a most → ¬ ((128 ≤ b) × (b ≤ most)) → ¬ (Begins a b c)
no_double a b c most lead apart begins = grind arith

-- a second byte that does not go on after the first of two
pub double_bad : (bytes : List ℕ) (most : ℕ) → 0 < length bytes → IsDoubleLead (get_or bytes 0 0) most → ¬ ((128 ≤ get_or bytes 1 0) × (get_or bytes 1 0 ≤ most)) → IsFirstBad bytes 1
double_bad bytes most some lead apart = bad_second bytes some (double_goes_on (get_or bytes 0 0) most lead) (λ c. no_double _ _ c most lead apart)

triple_kind : (a b least : ℕ) → IsTripleLead a least → least ≤ b → ((a ≡ 224) × (160 ≤ b)) ⊎ ((225 ≤ a) × (128 ≤ b))
triple_kind a b least (inl z) low = inl (z.0, omega arith)
triple_kind a b least (inr m) low = inr (m.0, omega arith)

two_go_on : (a b least : ℕ) → IsTripleLead a least → least ≤ b → b ≤ 191 → GoesOn (a ∷ b ∷ [])
two_go_on a b least lead low high =
    let fits : (a % 16) * 4096 + (b % 64) * 64 + 128 % 64 < 2 ^ 16 = omega arith in
    let below : a < 240 = elim lead [ inl z ↦ omega arith | inr m ↦ m.1 ] in
    goes_on-unit (a ∷ b ∷ []) (128 ∷ []) _ fits (triple_spelled a b 128 (triple_kind a b least lead low) below (omega arith) (omega arith) (omega arith))

triple_goes_on : (a least : ℕ) → IsTripleLead a least → GoesOn (a ∷ [])
triple_goes_on a least lead =
    let most : least ≤ 160 = elim lead [ inl z ↦ omega arith | inr m ↦ omega arith ] in
    goes_on-front (a ∷ []) (160 ∷ []) (two_go_on a 160 least lead most (omega arith))

no_triple : (a b c least : ℕ) → IsTripleLead a least → ¬ ((least ≤ b) × (b ≤ 191)) → ¬ (Begins a b c)
no_triple a b c least lead apart begins = grind arith

-- a second byte that does not go on after the first of three
pub triple_bad : (bytes : List ℕ) (least : ℕ) → 0 < length bytes → IsTripleLead (get_or bytes 0 0) least → ¬ ((least ≤ get_or bytes 1 0) × (get_or bytes 1 0 ≤ 191)) → IsFirstBad bytes 1
triple_bad bytes least some lead apart = bad_second bytes some (triple_goes_on (get_or bytes 0 0) least lead) (λ c. no_triple _ _ c least lead apart)

no_tail : (a b c least : ℕ) → IsTripleLead a least → ¬ ((128 ≤ c) × (c ≤ 191)) → ¬ (Begins a b c)
no_tail a b c least lead apart begins = grind arith

least_some : (a least : ℕ) → IsTripleLead a least → 0 < least
least_some a least lead = elim lead [ inl z ↦ omega arith | inr m ↦ omega arith ]

-- a third byte that does not go on after the first two
pub tail_bad : (bytes : List ℕ) (least : ℕ) → IsTripleLead (get_or bytes 0 0) least → (least ≤ get_or bytes 1 0) × (get_or bytes 1 0 ≤ 191) → ¬ ((128 ≤ get_or bytes 2 0) × (get_or bytes 2 0 ≤ 191)) → IsFirstBad bytes 2
tail_bad bytes least lead here apart =
    let some = least_some _ least lead in
    bad_third bytes (omega arith) (two_go_on _ _ least lead here.0 here.1) (no_tail _ _ _ least lead apart)

-- the bytes that begin no text
pub no_begin : (a b c : ℕ) → (a < 1) ⊎ (((128 ≤ a) × (a < 194) × (a ≡ 192 → ⊥)) ⊎ (240 ≤ a)) → ¬ (Begins a b c)
no_begin a b c apart begins = grind arith
