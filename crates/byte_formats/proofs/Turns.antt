-- Reading one item after the other reads a format in turn.
use Rattle.std.proofs.Common.{◌≡◌, ℕ, zero, suc, ◌⊎◌, inl, inr, List, [], ◌∷◌, ◌++◌, Ok, Err, refl, sym, ap, ◌∙◌, append_assoc}
use Rattle.byte_formats.specs.Formats.{Format, AreInTurn, FaultsBehind, value_made, fails, in_turn, many}
use Rattle.byte_formats.specs.Reading.{◌>>=◌, Read, many_at}
use Rattle.byte_formats.proofs.Items.{Takes, IsRead, one_read, read_parts, no_fault, ok_parts, err_parts}

-- nothing is read: the value is known
abbrev pub made_at : {E A : Type 0} → A → ℕ → List ℕ → Read E A
made_at x limit bytes = Ok (x, bytes)

-- what is read after an item goes on behind it
abbrev pub next : {E A B : Type 0} → (ℕ → List ℕ → Read E A) → (A → ℕ → List ℕ → Read E B)
    → ℕ → List ℕ → Read E B
next p q limit bytes = p limit bytes >>= λ a. q a.0 limit a.1

made_takes : {E A : Type 0} {Fits : List ℕ → Type 0} (value : A) (bytes : List ℕ) (x : A) (rest : List ℕ) → Fits bytes
    → one_read {E = E} value bytes ≡ one_read x rest → Takes {E = E} Fits (value_made value) bytes x rest
made_takes value bytes x rest fits e =
    let same = read_parts value bytes x rest e in
    record {
      front = [];
      parts = same.1;
      spelled = (sym same.0, refl);
      rest_fits = rw (← same.1) fits;
    }

made_again : {E A : Type 0} (value : A) (front rest : List ℕ) (x : A) → (x ≡ value) × (front ≡ [])
    → one_read {E = E} value (front ++ rest) ≡ one_read x rest
made_again value front rest x h = rw (h.0, h.1) refl

pub made_is_read : {E A : Type 0} {Fits : List ℕ → Type 0} (value : A)
    → IsRead {E = E} Fits (made_at value) (value_made value)
made_is_read value = record {
  takes = λ limit bytes x rest fits e. made_takes value bytes x rest fits e;
  again = λ limit front rest x h. made_again value front rest x h;
  faults = λ limit bytes fault fits e. no_fault value bytes fault e;
  stops = λ limit bytes fault h. absurd h;
}

-- nothing is read: the fault is known
abbrev pub fails_at : {E A : Type 0} → E → ℕ → List ℕ → Read E A
fails_at why limit bytes = Err why

fails_faults : {E A : Type 0} (why fault : E) → ◌≡◌ {A = Read E A} (Err why) (Err fault)
    → fault ≡ why
fails_faults why fault e = cc

pub fails_is_read : {E A : Type 0} {Fits : List ℕ → Type 0} (why : E)
    → IsRead {A = A} Fits (fails_at why) (fails why)
fails_is_read {A = A} why = record {
  takes = λ limit bytes x rest fits e. absurd (no_fault x rest why (sym e));
  again = λ limit front rest x h. absurd h;
  faults = λ limit bytes fault fits e. fails_faults {A = A} why fault e;
  stops = λ limit bytes fault h. ap Err (sym h);
}

module _ {E A B : Type 0} {Fits : List ℕ → Type 0} (p : ℕ → List ℕ → Read E A) (q : A → ℕ → List ℕ → Read E B)
    (P : Format E A) (Q : A → Format E B)
    (first : IsRead Fits p P) (second : (x : A) → IsRead Fits (q x) (Q x)) where
  -- what follows an item that was read
  abbrev then_read : ℕ → Read E A → Read E B
  then_read limit read = read >>= λ a. q a.0 limit a.1

  turn_takes : (limit : ℕ) (bytes : List ℕ) (y : B) (rest : List ℕ) → Fits bytes
      → next p q limit bytes ≡ Ok (y, rest)
      → Takes Fits (in_turn P Q) bytes y rest
  turn_takes limit bytes y rest fits e =
      let a = ok_parts _ _ _ e in
      let one = first.takes limit bytes a.0.0 a.0.1 fits a.1 in
      let two = (second a.0.0).takes limit a.0.1 y rest one.rest_fits a.2 in
      let whole : bytes ≡ (one.front ++ two.front) ++ rest =
      one.parts
      ∙ ap (λ t. one.front ++ t) two.parts
      ∙ sym (append_assoc one.front two.front rest) in
      let spelled : AreInTurn P Q (one.front ++ two.front) y =
      record {
        front = one.front;
        rest = two.front;
        parts = refl;
        x = a.0.0;
        first = one.spelled;
        second = two.spelled;
      } in
      record {
        front = one.front ++ two.front;
        parts = whole;
        spelled = spelled;
        rest_fits = two.rest_fits;
      }

  turn_again : (limit : ℕ) (front rest : List ℕ) (y : B) → AreInTurn P Q front y
      → next p q limit (front ++ rest) ≡ Ok (y, rest)
  turn_again limit front rest y h =
      let regrouped : front ++ rest ≡ h.front ++ (h.rest ++ rest) =
      ap (λ t. t ++ rest) h.parts ∙ append_assoc h.front h.rest rest in
      ap (next p q limit) regrouped
      ∙ ap (then_read limit) (first.again limit h.front (h.rest ++ rest) h.x h.first)
      ∙ (second h.x).again limit h.rest rest y h.second

  turn_faults : (limit : ℕ) (bytes : List ℕ) (fault : E) → Fits bytes
      → next p q limit bytes ≡ Err fault
      → P.Faults limit bytes fault ⊎ FaultsBehind P Q limit bytes fault
  turn_faults limit bytes fault fits e = elim (err_parts _ _ _ e) [
    | inl bad ↦ inl (first.faults limit bytes fault fits bad)
    | inr a ↦
        let one = first.takes limit bytes a.0.0 a.0.1 fits a.1 in
        inr (record {
          front = one.front;
          rest = a.0.1;
          parts = one.parts;
          x = a.0.0;
          first = one.spelled;
          second = (second a.0.0).faults limit a.0.1 fault one.rest_fits a.2;
        })
  ]

  turn_stops : (limit : ℕ) (bytes : List ℕ) (fault : E)
      → P.Faults limit bytes fault ⊎ FaultsBehind P Q limit bytes fault
      → next p q limit bytes ≡ Err fault
  turn_stops limit bytes fault (inl h) =
      ap (then_read limit) (first.stops limit bytes fault h)
  turn_stops limit bytes fault (inr h) =
      ap (next p q limit) h.parts
      ∙ ap (then_read limit) (first.again limit h.front h.rest h.x h.first)
      ∙ (second h.x).stops limit h.rest fault h.second

  made_in_turn : IsRead Fits (next p q) (in_turn P Q)
  made_in_turn =
      record { takes = turn_takes; again = turn_again; faults = turn_faults; stops = turn_stops }

pub in_turn_is_read : {E A B : Type 0} {Fits : List ℕ → Type 0} {p : ℕ → List ℕ → Read E A}
    {q : A → ℕ → List ℕ → Read E B} {P : Format E A} {Q : A → Format E B}
    → IsRead Fits p P → ((x : A) → IsRead Fits (q x) (Q x))
    → IsRead Fits (next p q) (in_turn P Q)
in_turn_is_read first second = made_in_turn _ _ _ _ first second

-- so many, one after the other
pub many_is_read : {E A : Type 0} {Fits : List ℕ → Type 0} {item : ℕ → List ℕ → Read E A}
    {P : Format E A} → IsRead Fits item P
    → (n : ℕ) → IsRead Fits (λ limit. many_at (item limit) n) (many P n)
unfolding many_at
many_is_read law zero = made_is_read []
many_is_read law (suc n) =
    in_turn_is_read law (λ x. in_turn_is_read (many_is_read law n) (λ xs. made_is_read (x ∷ xs)))
