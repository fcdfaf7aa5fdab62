-- Reading values with a condition, and one format or the other.
use Rattle.std.proofs.Common.{◌≡◌, ℕ, ◌⊎◌, inl, inr, Bool, true, false, cond, List, ◌++◌, Option, Some, None, Ok, Err, refl, sym, ap, subst, ◌∙◌}
use Rattle.std.proofs.lemmas.Option.{none-some, same_Some}
use Rattle.byte_formats.specs.Formats.{Format, place, kept_where, IsConverted, IsRefused, value_converted, value_tested, either}
use Rattle.byte_formats.specs.Reading.{◌>>=◌, Read}
use Rattle.byte_formats.proofs.Items.{Takes, IsRead, same_read, one_read, read_parts, no_fault, ok_parts, err_parts}

-- a value that was made, or the fault that there is none
abbrev pub made_or : {E B : Type 0} → E → List ℕ → Option B → Read E B
made_or fault rest (Some y) = Ok (y, rest)
made_or fault rest None = Err fault

-- what is made of what was read at an offset
abbrev pub then_made : {E A B : Type 0} → (A → Option B) → (ℕ → A → E) → ℕ → Read E A → Read E B
then_made convert why at read = read >>= λ a. made_or (why at a.0) a.1 (convert a.0)

abbrev pub converted_at : {E A B : Type 0} → (ℕ → List ℕ → Read E A) → (A → Option B)
    → (ℕ → A → E) → ℕ → List ℕ → Read E B
converted_at p convert why limit bytes = then_made convert why (place limit bytes) (p limit bytes)

was_made : {E B : Type 0} (fault : E) (rest : List ℕ) (made : Option B) (y : B)
    → (others : List ℕ) → made_or fault rest made ≡ one_read y others
    → (made ≡ Some y) × (rest ≡ others)
was_made fault rest (Some x) y others e =
    let same = read_parts x rest y others e in (ap (λ z. Some z) same.0, same.1)
was_made fault rest None y others e = absurd (no_fault y others fault (sym e))

was_not_made : {E B : Type 0} (why : E) (rest : List ℕ) (made : Option B) (fault : E)
    → made_or why rest made ≡ Err fault → (made ≡ None) × (fault ≡ why)
was_not_made why rest (Some x) fault e = absurd (no_fault x rest fault e)
was_not_made why rest None fault e = let same : why ≡ fault = cc in (refl, sym same)

module _ {E A B : Type 0} {Fits : List ℕ → Type 0} (p : ℕ → List ℕ → Read E A) (P : Format E A) (convert : A → Option B)
    (why : ℕ → A → E) (law : IsRead Fits p P) where
  converted_takes : (limit : ℕ) (bytes : List ℕ) (y : B) (rest : List ℕ) → Fits bytes
      → converted_at p convert why limit bytes ≡ Ok (y, rest)
      → Takes Fits (value_converted P convert why) bytes y rest
  converted_takes limit bytes y rest fits e =
      let a = ok_parts _ _ _ e in
      let one = law.takes limit bytes a.0.0 a.0.1 fits a.1 in
      let same = was_made (why (place limit bytes) a.0.0) a.0.1 (convert a.0.0) y rest a.2 in
      let spelled : IsConverted P convert one.front y =
      record { x = a.0.0; spelled = one.spelled; made = same.0 } in
      let parts : bytes ≡ one.front ++ rest =
      subst (λ r. bytes ≡ one.front ++ r) same.1 one.parts in
      record {
        front = one.front;
        parts = parts;
        spelled = spelled;
        rest_fits = subst Fits same.1 one.rest_fits;
      }

  converted_again : (limit : ℕ) (front rest : List ℕ) (y : B) → IsConverted P convert front y
      → converted_at p convert why limit (front ++ rest) ≡ Ok (y, rest)
  converted_again limit front rest y h =
      let at = place limit (front ++ rest) in
      ap (then_made convert why at) (law.again limit front rest h.x h.spelled)
      ∙ ap (made_or (why at h.x) rest) h.made

  converted_faults : (limit : ℕ) (bytes : List ℕ) (fault : E) → Fits bytes
      → converted_at p convert why limit bytes ≡ Err fault
      → P.Faults limit bytes fault ⊎ IsRefused P convert why limit bytes fault
  converted_faults limit bytes fault fits e = elim (err_parts _ _ _ e) [
    | inl bad ↦ inl (law.faults limit bytes fault fits bad)
    | inr a ↦
        let one = law.takes limit bytes a.0.0 a.0.1 fits a.1 in
        let same = was_not_made (why (place limit bytes) a.0.0) a.0.1 (convert a.0.0) fault a.2 in
        inr (record {
          front = one.front;
          rest = a.0.1;
          parts = one.parts;
          x = a.0.0;
          spelled = one.spelled;
          refused = same.0;
          told = same.1;
        })
  ]

  converted_stops : (limit : ℕ) (bytes : List ℕ) (fault : E)
      → P.Faults limit bytes fault ⊎ IsRefused P convert why limit bytes fault
      → converted_at p convert why limit bytes ≡ Err fault
  converted_stops limit bytes fault (inl h) =
      ap (then_made convert why (place limit bytes)) (law.stops limit bytes fault h)
  converted_stops limit bytes fault (inr h) =
      let read : p limit bytes ≡ Ok (h.x, h.rest) =
      ap (p limit) h.parts ∙ law.again limit h.front h.rest h.x h.spelled in
      ap (then_made convert why (place limit bytes)) read
      ∙ ap (made_or (why (place limit bytes) h.x) h.rest) h.refused
      ∙ ap Err (sym h.told)

  pub converted_is_read : IsRead Fits (converted_at p convert why) (value_converted P convert why)
  converted_is_read =
      record {
        takes = converted_takes;
        again = converted_again;
        faults = converted_faults;
        stops = converted_stops;
      }

-- ---- values that meet a test

-- what was read, if it meets the test
abbrev pub tested_at : {E A : Type 0} → (ℕ → List ℕ → Read E A) → (A → Bool) → (ℕ → A → E)
    → ℕ → List ℕ → Read E A
tested_at p test why limit bytes =
    p limit bytes >>= λ a. cond (test a.0) (Ok a) (Err (why (place limit bytes) a.0))

as_kept : {E A : Type 0} (test : Bool) (x : A) (rest : List ℕ) (fault : E)
    → cond test (one_read x rest) (Err fault) ≡ made_or fault rest (cond test (Some x) None)
as_kept true x rest fault = refl
as_kept false x rest fault = refl

module _ {E A : Type 0} (p : ℕ → List ℕ → Read E A) (test : A → Bool) (why : ℕ → A → E) where
  behind_value : (limit : ℕ) (bytes : List ℕ) (read : Read E A)
      → (read >>= λ a. cond (test a.0) (Ok a) (Err (why (place limit bytes) a.0)))
      ≡ (read >>= λ a. made_or (why (place limit bytes) a.0) a.1 (kept_where test a.0))
  behind_value limit bytes (Ok a) = as_kept (test a.0) a.0 a.1 (why (place limit bytes) a.0)
  behind_value limit bytes (Err fault) = refl

  tested_is_converted : (limit : ℕ) (bytes : List ℕ)
      → tested_at p test why limit bytes ≡ converted_at p (kept_where test) why limit bytes
  tested_is_converted limit bytes = behind_value limit bytes (p limit bytes)

pub tested_is_read : {E A : Type 0} {Fits : List ℕ → Type 0} (p : ℕ → List ℕ → Read E A)
    (P : Format E A) (test : A → Bool) (why : ℕ → A → E) → IsRead Fits p P
    → IsRead Fits (tested_at p test why) (value_tested P test why)
tested_is_read p P test why law =
    same_read _ _ _ (tested_is_converted p test why)
    (converted_is_read p P (kept_where test) why law)

-- what is spelled of a value that meets a test
pub tested_to : {E A : Type 0} (P : Format E A) (test : A → Bool) (text : List ℕ) (y : A)
    → IsConverted P (kept_where test) text y → P.Spells text y × (test y ≡ true)
tested_to P test text y h = by_case (test h.x) refl
  where
    by_case : (b : Bool) → test h.x ≡ b → P.Spells text y × (test y ≡ true)
    by_case true is =
        let same : h.x ≡ y = same_Some h.x y (subst (λ b. cond b (Some h.x) None ≡ Some y) is h.made) in
        subst (λ z. P.Spells text z × (test z ≡ true)) same (h.spelled, is)
    by_case false is =
        absurd (none-some y (subst (λ b. cond b (Some h.x) None ≡ Some y) is h.made))

pub tested_from : {E A : Type 0} (P : Format E A) (test : A → Bool) (text : List ℕ) (y : A)
    → P.Spells text y → test y ≡ true → IsConverted P (kept_where test) text y
tested_from P test text y spelled is =
    record { x = y; spelled = spelled; made = ap (λ b. cond b (Some y) None) is }

-- ---- the one or the other

abbrev pub either_at : {E A : Type 0} → Bool → (ℕ → List ℕ → Read E A) → (ℕ → List ℕ → Read E A)
    → ℕ → List ℕ → Read E A
either_at test p q limit bytes = cond test (p limit bytes) (q limit bytes)

pub either_is_read : {E A : Type 0} {Fits : List ℕ → Type 0} {p q : ℕ → List ℕ → Read E A}
    {P Q : Format E A} (test : Bool) → IsRead Fits p P → IsRead Fits q Q
    → IsRead Fits (either_at test p q) (either test P Q)
either_is_read true one other = one
either_is_read false one other = other
