-- What it is to read a format: what is read is spelled so, what is spelled so is read, whatever
-- follows it, and the faults are those of the format.
use Rattle.std.proofs.Common.{◌≡◌, ℕ, ◌⊎◌, inl, inr, List, ◌++◌, Result, Ok, Err, refl, sym, ap, ◌∙◌}
use Rattle.byte_formats.specs.Formats.{Format}
use Rattle.byte_formats.specs.Reading.{◌>>=◌, Read}

-- What a reader took from the front. What is asked of the bytes (`Fits`) holds of those behind it.
pub record Takes {E A : Type 0} (Fits : List ℕ → Type 0) (P : Format E A) (bytes : List ℕ) (x : A) (rest : List ℕ) : Type 0 where
  pub front : List ℕ
  pub parts : bytes ≡ front ++ rest
  pub spelled : P.Spells front x
  pub rest_fits : Fits rest

pub record IsRead {E A : Type 0} (Fits : List ℕ → Type 0) (item : ℕ → List ℕ → Read E A) (P : Format E A) : Type 0 where
  pub takes : (limit : ℕ) (bytes : List ℕ) (x : A) (rest : List ℕ) → Fits bytes
      → item limit bytes ≡ Ok (x, rest) → Takes Fits P bytes x rest
  pub again : (limit : ℕ) (front rest : List ℕ) (x : A) → P.Spells front x
      → item limit (front ++ rest) ≡ Ok (x, rest)
  pub faults : (limit : ℕ) (bytes : List ℕ) (fault : E) → Fits bytes
      → item limit bytes ≡ Err fault → P.Faults limit bytes fault
  pub stops : (limit : ℕ) (bytes : List ℕ) (fault : E) → P.Faults limit bytes fault
      → item limit bytes ≡ Err fault

-- a function that gives the same reads the same
pub same_read : {E A : Type 0} {Fits : List ℕ → Type 0} (item other : ℕ → List ℕ → Read E A) (P : Format E A)
    → ((limit : ℕ) (bytes : List ℕ) → other limit bytes ≡ item limit bytes) → IsRead Fits item P
    → IsRead Fits other P
same_read item other P same law = record {
  takes =
      λ limit bytes x rest fits e. law.takes limit bytes x rest fits (sym (same limit bytes) ∙ e);
  again = λ limit front rest x h. same limit (front ++ rest) ∙ law.again limit front rest x h;
  faults =
      λ limit bytes fault fits e. law.faults limit bytes fault fits (sym (same limit bytes) ∙ e);
  stops = λ limit bytes fault h. same limit bytes ∙ law.stops limit bytes fault h;
}

-- ---- what was read

abbrev pub one_read : {E A : Type 0} → A → List ℕ → Read E A
one_read x rest = Ok (x, rest)

pub read_parts : {E A : Type 0} (x : A) (rest : List ℕ) (y : A) (others : List ℕ)
    → one_read {E = E} x rest ≡ one_read y others
    → (x ≡ y) × (rest ≡ others)
read_parts {A = A} x rest y others e =
    let pair : ◌≡◌ {A = A × List ℕ} (x, rest) (y, others) = cc in
    (ap (λ (z : A × List ℕ). z.0) pair, ap (λ (z : A × List ℕ). z.1) pair)

pub no_fault : {E A : Type 0} (x : A) (rest : List ℕ) (fault : E)
    → one_read x rest ≡ Err fault → ⊥
no_fault x rest fault e = cc

-- ---- one step after another

-- the value of a step that went well
pub ok_parts : {E A B : Type 0} (r : Result A E) (f : A → Result B E) (y : B)
    → (r >>= f) ≡ Ok y
    → (x : A) × (r ≡ Ok x) × (f x ≡ Ok y)
ok_parts (Ok x) f y e = (x, refl, e)
ok_parts (Err fault) f y e = absurd cc

-- a fault is that of the first step, or that of the second
pub err_parts : {E A B : Type 0} (r : Result A E) (f : A → Result B E) (fault : E)
    → (r >>= f) ≡ Err fault → (r ≡ Err fault) ⊎ ((x : A) × (r ≡ Ok x) × (f x ≡ Err fault))
err_parts (Ok x) f fault e = inr (x, refl, e)
err_parts (Err other) f fault e = let same : other ≡ fault = cc in inl (ap Err same)
