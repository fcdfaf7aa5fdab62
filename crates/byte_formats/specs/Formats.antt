-- Formats: which bytes spell a value, and with which fault bytes go wrong first. What stands before
-- a fault is well formed. The faults are of any type: each crate that has formats says its own, and
-- its own numbers and runs of bytes.
use Rattle.std.specs.Prelude.{◌≡◌, ℕ, zero, suc, ◌-◌, ◌<◌, ◌⊎◌, Bool, true, false, List, [], ◌∷◌, ◌++◌, length, Option, Some, None, if◌then◌else◌}

-- `Spells text value`: the text is the value's bytes. `Faults limit bytes fault`: the bytes, which
-- end at the offset `limit`, begin with no such text, and this is the first fault in them.
pub record Format (E A : Type 0) : Type 1 where
  pub Spells : List ℕ → A → Type 0
  pub Faults : ℕ → List ℕ → E → Type 0

-- the offset of bytes that end at `limit`
abbrev pub place : ℕ → List ℕ → ℕ
place limit bytes = limit - length bytes

-- so many bytes are not there: the fault is that of the item's offset
abbrev pub IsCut : {E : Type 0} → (ℕ → E) → ℕ → ℕ → List ℕ → E → Type 0
IsCut cut len limit bytes fault = (length bytes < len) × (fault ≡ cut (place limit bytes))

-- no bytes: the value is known
abbrev pub value_made : {E A : Type 0} → A → Format E A
value_made value = record { Spells = λ text x. (x ≡ value) × (text ≡ []); Faults = λ limit bytes fault. ⊥ }

-- no bytes spell a value: this is the fault
abbrev pub fails : {E A : Type 0} → E → Format E A
fails why = record { Spells = λ text x. ⊥; Faults = λ limit bytes fault. fault ≡ why }

-- ---- one after the other

-- The text is one of the first format, and behind it one of the format that then follows.
pub record AreInTurn {E A B : Type 0} (P : Format E A) (Q : A → Format E B) (text : List ℕ) (y : B) : Type 0 where
  pub front : List ℕ
  pub rest : List ℕ
  pub parts : text ≡ front ++ rest
  pub x : A
  pub first : P.Spells front x
  pub second : (Q x).Spells rest y

-- What stands first is well formed, and the fault is in what follows.
pub record FaultsBehind {E A B : Type 0} (P : Format E A) (Q : A → Format E B) (limit : ℕ) (bytes : List ℕ) (fault : E) : Type 0 where
  pub front : List ℕ
  pub rest : List ℕ
  pub parts : bytes ≡ front ++ rest
  pub x : A
  pub first : P.Spells front x
  pub second : (Q x).Faults limit rest fault

abbrev pub in_turn : {E A B : Type 0} → Format E A → (A → Format E B) → Format E B
in_turn P Q = record { Spells = AreInTurn P Q; Faults = λ limit bytes fault. P.Faults limit bytes fault ⊎ FaultsBehind P Q limit bytes fault }

-- so many, one after the other
abbrev pub many : {E A : Type 0} → Format E A → ℕ → Format E (List A)
many P zero = value_made []
many P (suc n) = in_turn P (λ x. in_turn (many P n) (λ xs. value_made (x ∷ xs)))

-- ---- values with a condition

-- the text spells something from which this value is made
pub record IsConverted {E A B : Type 0} (P : Format E A) (convert : A → Option B) (text : List ℕ) (y : B) : Type 0 where
  pub x : A
  pub spelled : P.Spells text x
  pub made : convert x ≡ Some y

-- The bytes begin with a text from which no value is made. The fault is told by the offset and by
-- what is spelled there.
pub record IsRefused {E A B : Type 0} (P : Format E A) (convert : A → Option B) (why : ℕ → A → E) (limit : ℕ) (bytes : List ℕ) (fault : E) : Type 0 where
  pub front : List ℕ
  pub rest : List ℕ
  pub parts : bytes ≡ front ++ rest
  pub x : A
  pub spelled : P.Spells front x
  pub refused : convert x ≡ None
  pub told : fault ≡ why (place limit bytes) x

abbrev pub value_converted : {E A B : Type 0} → Format E A → (A → Option B) → (ℕ → A → E) → Format E B
value_converted P convert why = record { Spells = IsConverted P convert; Faults = λ limit bytes fault. P.Faults limit bytes fault ⊎ IsRefused P convert why limit bytes fault }

-- the value, where it meets the test
abbrev pub kept_where : {A : Type 0} → (A → Bool) → A → Option A
kept_where test x = if test x then Some x else None

-- a value that meets a test
abbrev pub value_tested : {E A : Type 0} → Format E A → (A → Bool) → (ℕ → A → E) → Format E A
value_tested P test why = value_converted P (kept_where test) why

-- the one format or the other
abbrev pub either : {E A : Type 0} → Bool → Format E A → Format E A → Format E A
either true P Q = P
either false P Q = Q
