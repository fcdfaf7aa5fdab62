-- What a format spells, said by a function: its texts are the bytes of the values that fit. Single items, items one
-- after the other, and contents with their length.
use Rattle.std.proofs.Common.{◌≡◌, ℕ, zero, suc, ◌*◌, ◌^◌, ◌<◌, Bool, true, false, List, [], ◌∷◌, ◌++◌, length, flat_map, refl, sym, ap, subst, ◌∙◌, ◌⊎◌, inl, inr, append-nil, arith}
use Rattle.std.specs.List.{AllByRecursion}
use Rattle.std.specs.Int.{Width, w16, w32, byte_len, to_be_bytes}
use Rattle.const_pool.specs.Pool.{u2, u4}
use Rattle.const_pool.specs.ClassFile.{IsByte, IsU2, FitsCount}
use Rattle.const_pool.specs.ClassFile as file
use Rattle.byte_formats.proofs.Conditions.{tested_to, tested_from}
use Rattle.class_reader.specs.declared.error.ReadError.{ReadError}
use Rattle.class_reader.specs.Formats.{Format, number, run, value_made, in_turn, AreInTurn, many, value_tested, either, bytes_sized, contents_enclosed}
use Rattle.class_reader.specs.ClassFormat.{items_counted}

-- The texts of the format are the bytes of the values that fit.
pub record IsSpelledBy {A : Type 0} (P : Format A) (bytes : A → List ℕ) (Fits : A → Type 0) : Type 0 where
  pub «to» : (text : List ℕ) (x : A) → P.Spells text x → (text ≡ bytes x) × Fits x
  pub «from» : (x : A) → Fits x → P.Spells (bytes x) x

-- the same, where what fits is said otherwise
pub said_as : {A : Type 0} {P : Format A} {bytes : A → List ℕ} {Fits : A → Type 0} (Other : A → Type 0) → IsSpelledBy P bytes Fits
    → ((x : A) → Fits x → Other x) → ((x : A) → Other x → Fits x) → IsSpelledBy P bytes Other
said_as Other law there back = record {
  «to» = λ text x s. let h = law.to text x s in (h.0, there x h.1);
  «from» = λ x h. law.from x (back x h);
}

-- ---- single items

pub number_law : (w : Width) → IsSpelledBy (number w) (to_be_bytes w) (λ n. n < 2 ^ (8 * byte_len w))
number_law w = record { «to» = λ text n s. (s.1, s.0); «from» = λ n h. (h, refl) }

pub u2_law : IsSpelledBy (number w16) u2 IsU2
u2_law = number_law w16

pub u4_law : IsSpelledBy (number w32) u4 (λ n. n < 2 ^ 32)
u4_law = number_law w32

pub run_law : (len : ℕ) → IsSpelledBy (run len) (λ bytes. bytes) (λ bytes. (length bytes ≡ len) × AllByRecursion IsByte bytes)
run_law len = record { «to» = λ text bytes s. (s.0, (s.1, s.2)); «from» = λ bytes h. (refl, h.0, h.1) }

-- ---- one after the other

-- a text of one format and behind it one of the next
pub record Opened {A B : Type 0} (bytes : A → List ℕ) (Fits : A → Type 0) (Q : A → Format B) (text : List ℕ) (y : B) : Type 0 where
  pub x : A
  pub fits : Fits x
  pub rest : List ℕ
  pub parts : text ≡ bytes x ++ rest
  pub second : (Q x).Spells rest y

pub opened : {A B : Type 0} {P : Format A} {Q : A → Format B} {bytes : A → List ℕ} {Fits : A → Type 0} → IsSpelledBy P bytes Fits
    → {text : List ℕ} {y : B} → AreInTurn P Q text y → Opened bytes Fits Q text y
opened {bytes = bytes} law s =
    let h = law.to s.front s.x s.first in
    record { x = s.x; fits = h.1; rest = s.rest; parts = s.parts ∙ ap (λ (t : List ℕ). t ++ s.rest) h.0; second = s.second }

-- a text of one format, from whose value the whole is made
pub record Ended {A B : Type 0} (P : Format A) (f : A → B) (text : List ℕ) (y : B) : Type 0 where
  pub x : A
  pub spelled : P.Spells text x
  pub is : f x ≡ y

pub ended : {A B : Type 0} {P : Format A} {f : A → B} {text : List ℕ} {y : B} → AreInTurn P (λ x. value_made (f x)) text y → Ended P f text y
ended {P = P} {text = text} s =
    let whole : text ≡ s.front = s.parts ∙ ap (λ (t : List ℕ). s.front ++ t) s.second.1 ∙ append-nil s.front in
    record { x = s.x; spelled = subst (λ (t : List ℕ). P.Spells t s.x) (sym whole) s.first; is = sym s.second.0 }

pub ends : {A B : Type 0} (P : Format A) (f : A → B) (text : List ℕ) (x : A) → P.Spells text x → AreInTurn P (λ x. value_made (f x)) text (f x)
ends P f text x s = record { front = text; rest = []; parts = sym (append-nil text); x = x; first = s; second = (refl, refl) }

-- the same, where the first format is said by a function
pub record Closed {A B : Type 0} (bytes : A → List ℕ) (Fits : A → Type 0) (f : A → B) (text : List ℕ) (y : B) : Type 0 where
  pub x : A
  pub fits : Fits x
  pub spelled : text ≡ bytes x
  pub is : f x ≡ y

pub closed : {A B : Type 0} {P : Format A} {f : A → B} {bytes : A → List ℕ} {Fits : A → Type 0} → IsSpelledBy P bytes Fits
    → {text : List ℕ} {y : B} → AreInTurn P (λ x. value_made (f x)) text y → Closed bytes Fits f text y
closed law {text = text} s =
    let e = ended s in
    let h = law.to text e.x e.spelled in
    record { x = e.x; fits = h.1; spelled = h.0; is = e.is }

pub behind : (text front rest more : List ℕ) → text ≡ front ++ rest → rest ≡ more → text ≡ front ++ more
behind text front rest more e h = e ∙ ap (λ (t : List ℕ). front ++ t) h

pub turn : {A B : Type 0} {P : Format A} {bytes : A → List ℕ} {Fits : A → Type 0} → IsSpelledBy P bytes Fits → (Q : A → Format B)
    → (x : A) → Fits x → {rest : List ℕ} {y : B} → (Q x).Spells rest y → AreInTurn P Q (bytes x ++ rest) y
turn {bytes = bytes} law Q x fits {rest = rest} s = record { front = bytes x; rest = rest; parts = refl; x = x; first = law.from x fits; second = s }

pub end_turn : {A B : Type 0} {P : Format A} {bytes : A → List ℕ} {Fits : A → Type 0} → IsSpelledBy P bytes Fits → (f : A → B)
    → (x : A) → Fits x → AreInTurn P (λ x. value_made (f x)) (bytes x) (f x)
end_turn {P = P} {bytes = bytes} law f x fits = ends P f (bytes x) x (law.from x fits)

-- ---- so many

module _ {A : Type 0} {P : Format A} {bytes : A → List ℕ} {Fits : A → Type 0} (law : IsSpelledBy P bytes Fits) where
  many_to : (n : ℕ) (text : List ℕ) (xs : List A) → (many P n).Spells text xs → (text ≡ flat_map bytes xs) × (length xs ≡ n) × AllByRecursion Fits xs
  many_to zero text xs s = subst (λ (ys : List A). (text ≡ flat_map bytes ys) × (length ys ≡ zero) × AllByRecursion Fits ys) (sym s.0) (s.1, refl, tt)
  many_to (suc n) text xs s =
      let a = opened law s in
      let b = ended a.second in
      let h = many_to n a.rest b.x b.spelled in
      subst (λ (ys : List A). (text ≡ flat_map bytes ys) × (length ys ≡ suc n) × AllByRecursion Fits ys) b.is
      (behind text (bytes a.x) a.rest (flat_map bytes b.x) a.parts h.0, ap suc h.1, (a.fits, h.2))

  many_from : (n : ℕ) (xs : List A) → length xs ≡ n → AllByRecursion Fits xs → (many P n).Spells (flat_map bytes xs) xs
  many_from zero [] len h = (refl, refl)
  many_from zero (x ∷ xs) len h = absurd (omega (arith, len))
  many_from (suc n) [] len h = absurd (omega (arith, len))
  many_from (suc n) (x ∷ xs) len h =
      let others = many_from n xs (omega (arith, len)) h.1 in
      turn law (λ x. in_turn (many P n) (λ xs. value_made (x ∷ xs))) x h.0 (ends (many P n) (λ xs. x ∷ xs) (flat_map bytes xs) xs others)

  pub many_law : (n : ℕ) → IsSpelledBy (many P n) (flat_map bytes) (λ xs. (length xs ≡ n) × AllByRecursion Fits xs)
  many_law n = record { «to» = λ text xs s. let h = many_to n text xs s in (h.0, (h.1, h.2)); «from» = λ xs h. many_from n xs h.0 h.1 }

  counted_to : (text : List ℕ) (xs : List A) → (items_counted P).Spells text xs → (text ≡ file.items_counted bytes xs) × (FitsCount xs × AllByRecursion Fits xs)
  counted_to text xs s =
      let a = opened u2_law s in
      let h = many_to a.x a.rest xs a.second in
      (behind text (u2 (length xs)) a.rest (flat_map bytes xs) (a.parts ∙ ap (λ (n : ℕ). u2 n ++ a.rest) (sym h.1)) h.0, (subst IsU2 (sym h.1) a.fits, h.2))

  pub counted_law : IsSpelledBy (items_counted P) (file.items_counted bytes) (λ xs. FitsCount xs × AllByRecursion Fits xs)
  counted_law = record { «to» = counted_to; «from» = λ xs h. turn u2_law (many P) (length xs) h.0 (many_from (length xs) xs refl h.1) }

-- ---- values with a condition

pub tested_law : {A : Type 0} {P : Format A} {bytes : A → List ℕ} {Fits : A → Type 0} → IsSpelledBy P bytes Fits → (test : A → Bool) (why : ℕ → A → ReadError)
    → IsSpelledBy (value_tested P test why) bytes (λ x. Fits x × (test x ≡ true))
tested_law {P = P} {bytes = bytes} law test why = record {
  «to» = λ text x s. let t = tested_to P test text x s in let h = law.to text x t.0 in (h.0, (h.1, t.1));
  «from» = λ x h. tested_from P test (bytes x) x (law.from x h.0) h.1;
}

-- the one format or the other
pub either_cases : {A : Type 0} (b : Bool) (P Q : Format A) (text : List ℕ) (y : A) → (either b P Q).Spells text y → ((b ≡ true) × P.Spells text y) ⊎ ((b ≡ false) × Q.Spells text y)
either_cases true P Q text y s = inl (refl, s)
either_cases false P Q text y s = inr (refl, s)

pub either_true : {A : Type 0} (b : Bool) (P Q : Format A) (text : List ℕ) (y : A) → b ≡ true → P.Spells text y → (either b P Q).Spells text y
either_true true P Q text y e s = s
either_true false P Q text y e s = absurd cc

pub either_false : {A : Type 0} (b : Bool) (P Q : Format A) (text : List ℕ) (y : A) → b ≡ false → Q.Spells text y → (either b P Q).Spells text y
either_false true P Q text y e s = absurd cc
either_false false P Q text y e s = s

-- ---- contents with their length

-- a u4 length and the contents
abbrev pub sized_bytes : List ℕ → List ℕ
sized_bytes contents = u4 (length contents) ++ contents

abbrev pub FitsSized : List ℕ → Type 0
FitsSized contents = (length contents < 2 ^ 32) × AllByRecursion IsByte contents

sized_to : (text contents : List ℕ) → bytes_sized.Spells text contents → (text ≡ sized_bytes contents) × FitsSized contents
sized_to text contents s =
    let a = opened u4_law s in
    let h = a.second in
    (behind text (u4 (length contents)) a.rest contents (a.parts ∙ ap (λ (n : ℕ). u4 n ++ a.rest) (sym h.1)) h.0, (subst (λ (n : ℕ). n < 2 ^ 32) (sym h.1) a.fits, h.2))

pub sized_law : IsSpelledBy bytes_sized sized_bytes FitsSized
sized_law = record { «to» = sized_to; «from» = λ contents h. turn u4_law run (length contents) h.0 (refl, refl, h.1) }

pub enclosed_law : {A : Type 0} {P : Format A} {bytes : A → List ℕ} {Fits : A → Type 0} → IsSpelledBy P bytes Fits
    → IsSpelledBy (contents_enclosed P) (λ x. sized_bytes (bytes x)) (λ x. Fits x × FitsSized (bytes x))
enclosed_law {bytes = bytes} law = record {
  «to» = λ text x s.
      let inner = law.to s.contents x s.inner in
      let outer = sized_to text s.contents s.outer in
      (outer.0 ∙ ap sized_bytes inner.0, (inner.1, subst FitsSized inner.0 outer.1));
  «from» = λ x h. record { contents = bytes x; outer = sized_law.from (bytes x) h.1; inner = law.from x h.0 };
}

-- ---- bytes

pub record AreBytes (bytes : List ℕ) : Type 0 where
  pub each : AllByRecursion IsByte bytes

all_append : (xs ys : List ℕ) → AllByRecursion IsByte xs → AllByRecursion IsByte ys → AllByRecursion IsByte (xs ++ ys)
all_append [] ys h k = k
all_append (x ∷ xs) ys h k = (h.0, all_append xs ys h.1 k)

pub bytes_then : (xs : List ℕ) {ys : List ℕ} → AllByRecursion IsByte xs → AreBytes ys → AreBytes (xs ++ ys)
bytes_then xs {ys = ys} h k = record { each = all_append xs ys h k.each }

pub u2_bytes : (n : ℕ) → AreBytes (u2 n)
u2_bytes n = record { each = (omega arith, (omega arith, tt)) }

pub u2_then : (n : ℕ) {ys : List ℕ} → AreBytes ys → AreBytes (u2 n ++ ys)
u2_then n k = bytes_then (u2 n) (u2_bytes n).each k

pub u4_then : (n : ℕ) {ys : List ℕ} → AreBytes ys → AreBytes (u4 n ++ ys)
u4_then n k = bytes_then (u4 n) (omega arith, (omega arith, (omega arith, (omega arith, tt)))) k

all_flat_map : {A : Type 0} (bytes : A → List ℕ) (Fits : A → Type 0) → ((x : A) → Fits x → AreBytes (bytes x)) → (xs : List A) → AllByRecursion Fits xs → AllByRecursion IsByte (flat_map bytes xs)
all_flat_map bytes Fits one [] h = tt
all_flat_map bytes Fits one (x ∷ xs) h = all_append (bytes x) (flat_map bytes xs) (one x h.0).each (all_flat_map bytes Fits one xs h.1)

pub counted_bytes : {A : Type 0} (bytes : A → List ℕ) (Fits : A → Type 0) → ((x : A) → Fits x → AreBytes (bytes x)) → (xs : List A) → AllByRecursion Fits xs → AreBytes (file.items_counted bytes xs)
counted_bytes bytes Fits one xs h = u2_then (length xs) (record { each = all_flat_map bytes Fits one xs h })
