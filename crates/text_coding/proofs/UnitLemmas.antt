-- The bytes of one unit: which there are, and that they can be read back.
use Rattle.std.proofs.Common.{◌≡◌, ℕ, ◌+◌, ◌*◌, ◌/◌, ◌%◌, ◌^◌, ◌<◌, ◌≤◌, ◌⊎◌, inl, inr, List, [], ◌∷◌, ◌++◌, ltb, cond, length, get_or, refl, sym, ap, ◌∙◌, arith}
use Rattle.std.proofs.lemmas.Bool.{lt-ltb, le-ltb, ne_eqb, cases_lt}
use Rattle.std.proofs.lemmas.List.{append_cancel_left}
use Rattle.jf_bytes.specs.ModifiedUtf8.{unit_bytes}

pub unit_bytes-one : (unit : ℕ) → 0 < unit → unit < 128 → unit_bytes unit ≡ unit ∷ []
unit_bytes-one unit some low = rw (ne_eqb unit 0 (λ e. omega arith), lt-ltb unit 128 low) refl

pub unit_bytes-two : (unit : ℕ) → 128 ≤ unit → unit < 2048 → unit_bytes unit ≡ (192 + unit / 64) ∷ (128 + unit % 64) ∷ []
unit_bytes-two unit low high = rw (ne_eqb unit 0 (λ e. omega arith), le-ltb unit 128 low, lt-ltb unit 2048 high) refl

pub unit_bytes-three : (unit : ℕ) → 2048 ≤ unit → unit_bytes unit ≡ (224 + unit / 4096) ∷ (128 + (unit / 64) % 64) ∷ (128 + unit % 64) ∷ []
unit_bytes-three unit low = rw (ne_eqb unit 0 (λ e. omega arith), le-ltb unit 128 (omega arith), le-ltb unit 2048 low) refl

-- the four kinds of units
pub cases_unit : (P : ℕ → Type 0) → P 0
    → ((unit : ℕ) → 0 < unit → unit < 128 → P unit)
    → ((unit : ℕ) → 128 ≤ unit → unit < 2048 → P unit)
    → ((unit : ℕ) → 2048 ≤ unit → unit < 2 ^ 16 → P unit)
    → (unit : ℕ) → unit < 2 ^ 16 → P unit
cases_unit P zeroth one two three unit fits =
    elim (cases_lt unit 2048) [
      | inr high ↦ three unit high fits
      | inl low ↦ elim (cases_lt unit 128) [
        | inr mid ↦ two unit mid low
        | inl least ↦ elim (cases_lt 0 unit) [
          | inl some ↦ one unit some least
          | inr none ↦ let e : 0 ≡ unit = omega arith in rw (← e) zeroth
        ]
      ]
    ]

-- the first three bytes of a text, where a byte that is not there counts as 0
abbrev pub Begins : ℕ → ℕ → ℕ → Type 0
Begins a b c =
    ((0 < a) × (a < 128))
    ⊎ (((a ≡ 192) × (b ≡ 128))
    ⊎ (((194 ≤ a) × (a < 224) × (128 ≤ b) × (b < 192))
    ⊎ (((a ≡ 224) × (160 ≤ b) × (b < 192) × (128 ≤ c) × (c < 192))
    ⊎ ((225 ≤ a) × (a < 240) × (128 ≤ b) × (b < 192) × (128 ≤ c) × (c < 192)))))

abbrev pub BeginsAt : List ℕ → Type 0
BeginsAt bytes = Begins (get_or bytes 0 0) (get_or bytes 1 0) (get_or bytes 2 0)

three_begins : (unit : ℕ) → 2048 ≤ unit → unit < 2 ^ 16 → Begins (224 + unit / 4096) (128 + (unit / 64) % 64) (128 + unit % 64)
three_begins unit low fits = elim (cases_lt unit 4096) [
  | inl least ↦ inr (inr (inr (inl (omega arith, omega arith, omega arith, omega arith, omega arith))))
  | inr more ↦ inr (inr (inr (inr (omega arith, omega arith, omega arith, omega arith, omega arith, omega arith))))
]

-- a text that begins with a unit begins in one of these ways
pub unit_begins : (unit : ℕ) → unit < 2 ^ 16 → (rest : List ℕ) → BeginsAt (unit_bytes unit ++ rest)
unit_begins unit fits rest = cases_unit (λ unit. BeginsAt (unit_bytes unit ++ rest))
    (inr (inl (refl, refl)))
    (λ unit some low. rw (unit_bytes-one unit some low) (inl (some, low)))
    (λ unit low high. rw (unit_bytes-two unit low high) (inr (inr (inl (omega arith, omega arith, omega arith, omega arith)))))
    (λ unit low fits. rw (unit_bytes-three unit low) (three_begins unit low fits))
    unit fits

-- the unit that the first three bytes spell
abbrev pub unit_at : ℕ → ℕ → ℕ → ℕ
unit_at a b c = cond (ltb a 128) a (cond (ltb a 224) ((a % 32) * 64 + b % 64) ((a % 16) * 4096 + (b % 64) * 64 + c % 64))

abbrev pub unit_of : List ℕ → ℕ
unit_of bytes = unit_at (get_or bytes 0 0) (get_or bytes 1 0) (get_or bytes 2 0)

two_read : (unit c : ℕ) → unit < 2048 → unit_at (192 + unit / 64) (128 + unit % 64) c ≡ unit
two_read unit c high = rw (le-ltb (192 + unit / 64) 128 (omega arith), lt-ltb (192 + unit / 64) 224 (omega arith)) (omega arith)

three_read : (unit : ℕ) → unit < 2 ^ 16 → unit_at (224 + unit / 4096) (128 + (unit / 64) % 64) (128 + unit % 64) ≡ unit
three_read unit fits = rw (le-ltb (224 + unit / 4096) 128 (omega arith), le-ltb (224 + unit / 4096) 224 (omega arith)) (omega arith)

pub unit_read : (unit : ℕ) → unit < 2 ^ 16 → (rest : List ℕ) → unit_of (unit_bytes unit ++ rest) ≡ unit
unit_read unit fits rest = cases_unit (λ unit. unit_of (unit_bytes unit ++ rest) ≡ unit)
    refl
    (λ unit some low. rw (unit_bytes-one unit some low, lt-ltb unit 128 low) refl)
    (λ unit low high. rw (unit_bytes-two unit low high) (two_read unit _ high))
    (λ unit low fits. rw (unit_bytes-three unit low) (three_read unit fits))
    unit fits

-- equal bytes begin with one unit, and then go on alike
pub unit_same : (u v : ℕ) (xs ys : List ℕ) → u < 2 ^ 16 → v < 2 ^ 16 → unit_bytes u ++ xs ≡ unit_bytes v ++ ys → (u ≡ v) × (xs ≡ ys)
unit_same u v xs ys fits fits' e =
    let same : u ≡ v = sym (unit_read u fits xs) ∙ ap unit_of e ∙ unit_read v fits' ys in
    (same, append_cancel_left (unit_bytes v) xs ys (rw same at e))

pub unit_bytes-some : (unit : ℕ) → unit < 2 ^ 16 → 0 < length (unit_bytes unit)
unit_bytes-some unit fits = cases_unit (λ unit. 0 < length (unit_bytes unit))
    (omega arith)
    (λ unit some low. rw (unit_bytes-one unit some low) (omega arith))
    (λ unit low high. rw (unit_bytes-two unit low high) (omega arith))
    (λ unit low fits. rw (unit_bytes-three unit low) (omega arith))
    unit fits

-- the unit of two bytes
pub double_spelled : (a b : ℕ) → ((a ≡ 192) × (b ≡ 128)) ⊎ ((194 ≤ a) × (a < 224) × (128 ≤ b) × (b < 192))
    → unit_bytes ((a % 32) * 64 + b % 64) ≡ a ∷ b ∷ []
double_spelled a b h = elim h [
  | inl z ↦ rw (z.0, z.1) refl
  | inr m ↦
      let unit = (a % 32) * 64 + b % 64 in
      let first : 192 + unit / 64 ≡ a = omega arith in
      let second : 128 + unit % 64 ≡ b = omega arith in
      unit_bytes-two unit (omega arith) (omega arith) ∙ (λ i. first i ∷ second i ∷ [])
]

-- the unit of three bytes
pub triple_spelled : (a b c : ℕ) → ((a ≡ 224) × (160 ≤ b)) ⊎ ((225 ≤ a) × (128 ≤ b)) → a < 240 → b < 192 → 128 ≤ c → c < 192
    → unit_bytes ((a % 16) * 4096 + (b % 64) * 64 + c % 64) ≡ a ∷ b ∷ c ∷ []
triple_spelled a b c h a_high b_high c_low c_high =
    let unit = (a % 16) * 4096 + (b % 64) * 64 + c % 64 in
    let facts : (224 ≤ a) × (128 ≤ b) × (2048 ≤ unit) = elim h [ inl z ↦ (omega arith, omega arith, omega arith) | inr m ↦ (omega arith, omega arith, omega arith) ] in
    let first : 224 + unit / 4096 ≡ a = omega arith in
    let second : 128 + (unit / 64) % 64 ≡ b = omega arith in
    let third : 128 + unit % 64 ≡ c = omega arith in
    unit_bytes-three unit facts.2 ∙ (λ i. first i ∷ second i ∷ third i ∷ [])
