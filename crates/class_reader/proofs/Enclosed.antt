-- Reading contents with their length.
use Rattle.std.proofs.Common.{◌≡◌, ℕ, ◌<◌, ◌⊎◌, inl, inr, Bool, true, false, cond, eqb, List, [], ◌++◌, length, Result, Ok, Err, refl, sym, ap, subst, ◌∙◌, append-nil, arith}
use Rattle.std.proofs.lemmas.Bool.{eqb-true, eqb-false, ne_eqb}
use Rattle.std.proofs.lemmas.List.{nil_from_length}
use Rattle.class_reader.specs.declared.error.ReadError.{ReadError}
use Rattle.class_reader.specs.declared.error.ReadError.TheVariants.{Truncated, BadLength}
use Rattle.class_reader.specs.Formats.{Format, place, bytes_sized, HasMore, IsTruncated, FaultsWithin, IsEnclosed, FaultsInside, contents_enclosed}
use Rattle.class_reader.specs.Reading.{◌>>=◌, Read, sized_at, whole_of, enclosed_at}
use Rattle.class_reader.proofs.Items.{IsBytes, each-IsBytes, Takes, IsRead, one_read, read_parts, no_fault, ok_parts, err_parts}
use Rattle.byte_formats.proofs.Turns.{in_turn_is_read}
use Rattle.class_reader.proofs.Widths.{u4_is_read, run_is_read}

pub sized_is_read : IsRead sized_at bytes_sized
unfolding sized_at
sized_is_read = in_turn_is_read u4_is_read (λ len. run_is_read len)

-- the contents are bytes
contents_fit : (text contents : List ℕ) → bytes_sized.Spells text contents → IsBytes contents
contents_fit text contents h = each-IsBytes contents h.second.2

abbrev result_of : {A : Type 0} → A → Result A ReadError
result_of x = Ok x

-- ---- what must be the whole of the contents

module _ {A : Type 0} (at : ℕ) where
  whole_one : (x : A) (rest : List ℕ) (y : A) → whole_of at (one_read x rest) ≡ Ok y
      → (x ≡ y) × (rest ≡ [])
  whole_one x rest y = by_case (eqb (length rest) 0) refl
    where
      by_case : (b : Bool) → eqb (length rest) 0 ≡ b
          → cond b (Ok x) (Err (BadLength at)) ≡ result_of y → (x ≡ y) × (rest ≡ [])
      by_case true is e = let same : x ≡ y = cc in (same, nil_from_length rest (eqb-true _ _ is))
      by_case false is e = absurd cc

  -- what was the whole of the contents was read up to their end
  whole : (read : Read A) (y : A) → whole_of at read ≡ Ok y → read ≡ Ok (y, [])
  whole (Ok x) y e =
      let same = whole_one x.0 x.1 y e in
      ap (λ z. one_read z x.1) same.0 ∙ ap (λ r. one_read y r) same.1
  whole (Err (Truncated short)) y e = absurd cc
  whole (Err fault) y e = absurd cc

  -- contents that go on behind what was read
  goes_on : (x : A) (more : List ℕ) → 0 < length more
      → whole_of at (one_read x more) ≡ Err (BadLength at)
  goes_on x more some = rw (ne_eqb (length more) 0 (λ e. omega arith)) refl

  -- a fault in the contents stays, but for that they end too early
  stays : (fault : ReadError) → (IsTruncated fault → ⊥)
      → whole_of {A = A} at (Err fault) ≡ Err fault
  stays (Truncated short) h = absurd (h (short, refl))
  stays fault h = refl

  goes_wrong : (x : A) (rest : List ℕ) (fault : ReadError)
      → whole_of at (one_read x rest) ≡ Err fault
      → (0 < length rest) × (fault ≡ BadLength at)
  goes_wrong x rest fault = by_case (eqb (length rest) 0) refl
    where
      by_case : (b : Bool) → eqb (length rest) 0 ≡ b
          → cond b (Ok x) (Err (BadLength at)) ≡ Err fault
          → (0 < length rest) × (fault ≡ BadLength at)
      by_case true is e = absurd cc
      by_case false is e =
          let told : BadLength at ≡ fault = cc in
          let some : 0 < length rest = omega (arith, eqb-false _ _ is) in
          (some, sym told)

short_or_not : (fault : ReadError) → IsTruncated fault ⊎ (IsTruncated fault → ⊥)
short_or_not (Truncated short) = inl (short, refl)
short_or_not fault = inr (λ h. let e = h.1 in cc)

abbrev fault_of : {A : Type 0} → ReadError → Result A ReadError
fault_of fault = Err fault

same_fault : {A : Type 0} (fault other : ReadError) → fault_of {A = A} fault ≡ fault_of other
    → fault ≡ other
same_fault fault other e = cc

module _ {A : Type 0} (item : ℕ → List ℕ → Read A) (P : Format A) (law : IsRead item P)
    (at : ℕ) where
  -- the first fault of contents that are not the whole of what the format spells
  fault_within : (limit : ℕ) (contents : List ℕ) (read : Read A) (fault : ReadError)
      → IsBytes contents → item limit contents ≡ read
      → whole_of at read ≡ Err fault → FaultsWithin P at limit contents fault
  fault_within limit contents (Ok x) fault fits is e =
      let wrong = goes_wrong at x.0 x.1 fault e in
      let taken = law.takes limit contents x.0 x.1 fits is in
      let more : HasMore P contents =
      record {
        front = taken.front;
        more = x.1;
        parts = taken.parts;
        some = wrong.0;
        x = x.0;
        spelled = taken.spelled;
      } in
      inl (inr more, wrong.1)
  fault_within limit contents (Err first) fault fits is e =
      let found : P.Faults limit contents first = law.faults limit contents first fits is in
      elim (short_or_not first) [
        | inl short ↦
            let cut : P.Faults limit contents (Truncated short.0) =
            subst (P.Faults limit contents) short.1 found in
            let told = ap (λ f. whole_of {A = A} at (Err f)) (sym short.1) ∙ e in
            inl (inl (short.0, cut), sym (same_fault {A = A} (BadLength at) fault told))
        | inr other ↦
            let same : first ≡ fault =
            same_fault {A = A} first fault (sym (stays {A = A} at first other) ∙ e) in
            let none : IsTruncated fault → ⊥ = subst (λ f. IsTruncated f → ⊥) same other in
            inr (subst (P.Faults limit contents) same found, none)
      ]

  within_stops : (limit : ℕ) (contents : List ℕ) (fault : ReadError)
      → FaultsWithin P at limit contents fault
      → whole_of at (item limit contents) ≡ Err fault
  within_stops limit contents fault (inl (inl cut, told)) =
      ap (whole_of at) (law.stops limit contents _ cut.1) ∙ ap Err (sym told)
  within_stops limit contents fault (inl (inr more, told)) =
      ap (λ t. whole_of at (item limit t)) more.parts
      ∙ ap (whole_of at) (law.again limit more.front more.more more.x more.spelled)
      ∙ goes_on at more.x more.more more.some
      ∙ ap Err (sym told)
  within_stops limit contents fault (inr h) =
      ap (whole_of at) (law.stops limit contents fault h.0) ∙ stays at fault h.1

-- ---- contents with their length

-- what is behind the contents is left
abbrev with_rest : {A : Type 0} → List ℕ → Result A ReadError → Read A
with_rest rest read = read >>= λ x. Ok (x, rest)

module _ {A : Type 0} (item : ℕ → List ℕ → Read A) (P : Format A) (law : IsRead item P)
    (limit : ℕ) where
  -- what the contents are read as, and what is behind them
  abbrev inside : ℕ → List ℕ × List ℕ → Read A
  inside at c = with_rest c.1 (whole_of at (item (place limit c.1) c.0))

  enclosed_takes : (bytes : List ℕ) (x : A) (rest : List ℕ) → IsBytes bytes
      → enclosed_at item limit bytes ≡ Ok (x, rest)
      → Takes (contents_enclosed P) bytes x rest
  unfolding enclosed_at
  enclosed_takes bytes x rest fits e =
      let c = ok_parts _ _ _ e in
      let outer = sized_is_read.takes limit bytes c.0.0 c.0.1 fits c.1 in
      let y = ok_parts _ _ _ c.2 in
      let same = read_parts y.0 c.0.1 x rest y.2 in
      let read = whole (place limit bytes) _ y.0 y.1 in
      let inner = law.takes _ c.0.0 y.0 [] (contents_fit outer.front c.0.0 outer.spelled) read in
      let all : c.0.0 ≡ inner.front = inner.parts ∙ append-nil inner.front in
      let spelled : P.Spells c.0.0 x =
      subst (P.Spells c.0.0) same.0 (subst (λ t. P.Spells t y.0) (sym all) inner.spelled) in
      let whole : IsEnclosed P outer.front x =
      record { contents = c.0.0; outer = outer.spelled; inner = spelled } in
      record {
        front = outer.front;
        parts = subst (λ r. bytes ≡ outer.front ++ r) same.1 outer.parts;
        spelled = whole;
        rest_fits = subst IsBytes same.1 outer.rest_fits;
      }

  enclosed_again : (front rest : List ℕ) (x : A) → IsEnclosed P front x
      → enclosed_at item limit (front ++ rest) ≡ Ok (x, rest)
  unfolding enclosed_at
  enclosed_again front rest x h =
      let at = place limit (front ++ rest) in
      let inner : item (place limit rest) h.contents ≡ Ok (x, []) =
      ap (item (place limit rest)) (sym (append-nil h.contents))
      ∙ law.again (place limit rest) h.contents [] x h.inner in
      ap (λ r. r >>= inside at) (sized_is_read.again limit front rest h.contents h.outer)
      ∙ ap (λ r. with_rest rest (whole_of at r)) inner

  enclosed_faults : (bytes : List ℕ) (fault : ReadError) → IsBytes bytes
      → enclosed_at item limit bytes ≡ Err fault
      → bytes_sized.Faults limit bytes fault ⊎ FaultsInside P limit bytes fault
  unfolding enclosed_at
  enclosed_faults bytes fault fits e = elim (err_parts _ _ _ e) [
    | inl bad ↦ inl (sized_is_read.faults limit bytes fault fits bad)
    | inr c ↦
        let outer = sized_is_read.takes limit bytes c.0.0 c.0.1 fits c.1 in
        let are_bytes = contents_fit outer.front c.0.0 outer.spelled in
        elim (err_parts _ _ _ c.2) [
          | inl bad ↦
              let at = place limit bytes in
              let end = place limit c.0.1 in
              let inner = fault_within item P law at end c.0.0 _ fault are_bytes refl bad in
              inr (record {
                front = outer.front;
                rest = c.0.1;
                parts = outer.parts;
                contents = c.0.0;
                outer = outer.spelled;
                inner = inner;
              })
          | inr y ↦ absurd (no_fault y.0 c.0.1 fault y.2)
        ]
  ]

  enclosed_stops : (bytes : List ℕ) (fault : ReadError)
      → bytes_sized.Faults limit bytes fault ⊎ FaultsInside P limit bytes fault
      → enclosed_at item limit bytes ≡ Err fault
  unfolding enclosed_at
  enclosed_stops bytes fault (inl h) =
      ap (λ r. r >>= inside (place limit bytes)) (sized_is_read.stops limit bytes fault h)
  enclosed_stops bytes fault (inr h) =
      let outer : sized_at limit bytes ≡ Ok (h.contents, h.rest) =
      ap (sized_at limit) h.parts
      ∙ sized_is_read.again limit h.front h.rest h.contents h.outer in
      ap (λ r. r >>= inside (place limit bytes)) outer
      ∙ ap (with_rest h.rest)
      (within_stops item P law (place limit bytes) (place limit h.rest) h.contents fault
      h.inner)

pub enclosed_is_read : {A : Type 0} {item : ℕ → List ℕ → Read A} {P : Format A} → IsRead item P
    → IsRead (enclosed_at item) (contents_enclosed P)
enclosed_is_read law = record {
  takes = λ limit bytes x rest fits e. enclosed_takes _ _ law limit bytes x rest fits e;
  again = λ limit front rest x h. enclosed_again _ _ law limit front rest x h;
  faults = λ limit bytes fault fits e. enclosed_faults _ _ law limit bytes fault fits e;
  stops = λ limit bytes fault h. enclosed_stops _ _ law limit bytes fault h;
}
