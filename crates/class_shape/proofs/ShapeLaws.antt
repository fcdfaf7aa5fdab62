-- The number that is told of two classes is told exactly where they have not the same shape, and of what differs first.
use Rattle.std.proofs.Common.{◌≡◌, ◌≢◌, ℕ, zero, suc, ◌+◌, Bool, true, false, cond, List, [], ◌∷◌, take, drop, length, slice_get, Option, Some, None, refl, sym, ap, subst, ◌∙◌, ◌<◌, inl, inr, arith}
use Rattle.std.specs.Prelude.{IsNone}
use Rattle.std.specs.Option.{IfSome}
use Rattle.std.proofs.Math.Nat.{add-zero, zero-add}
use Rattle.std.proofs.lemmas.Bool.{false≢true, false_from_ne_true}
use Rattle.std.proofs.lemmas.List.{length-map}
use Rattle.std.proofs.lemmas.Option.{none-some, same_Some, slice_get_cases, slice_get_past}
use Rattle.const_pool.specs.declared.class.ClassFile.{ClassFile}
use Rattle.const_pool.specs.ClassFile.{IsClassFile}
use Rattle.class_shape.specs.ClassShapes.{MemberShape, heading_of, fields_of, methods_of, shape_in, HasSameShape, DifferAt, IsShapeFault}
use Rattle.class_shape.specs.Comparing.{same_member, same_heading, first_other, else_of, number_of}
use Rattle.class_shape.proofs.SameParts.{same_member-true, same_member-refl, same_heading-true, same_heading-refl}

-- ---- lists of members

-- the first difference lies so many places behind a number
record IsFound (at : ℕ) (xs ys : List MemberShape) (told : ℕ) : Type 0 where
  places : ℕ
  is : told ≡ at + places
  differ : DifferAt xs ys places

-- it lies one place further on where both lists begin with the same member
further : (x y : MemberShape) (xs ys : List MemberShape) (at told : ℕ) → x ≡ y → IsFound (at + 1) xs ys told → IsFound at (x ∷ xs) (y ∷ ys) told
further x y xs ys at told same found = record {
  places = suc found.places;
  is = found.is ∙ omega arith;
  differ = record {
    before = ap (λ z. z ∷ take found.places xs) same ∙ ap (λ zs. y ∷ zs) found.differ.before;
    there = found.differ.there;
  };
}

found : (at : ℕ) (xs ys : List MemberShape) (told : ℕ) → first_other at xs ys ≡ Some told → IsFound at xs ys told
found at [] [] told e = absurd (none-some told e)
found at (x ∷ xs) [] told e = absurd (none-some told e)
found at [] (y ∷ ys) told e = absurd (none-some told e)
found at (x ∷ xs) (y ∷ ys) told e = by (λ rest. found (at + 1) xs ys told rest) (same_member x y) refl e
  where
    by : (first_other (at + 1) xs ys ≡ Some told → IsFound (at + 1) xs ys told) → (b : Bool) → same_member x y ≡ b
        → cond b (first_other (at + 1) xs ys) (Some at) ≡ Some told → IsFound at (x ∷ xs) (y ∷ ys) told
    by behind true is e = further x y xs ys at told (same_member-true x y is) (behind e)
    by behind false is e = record {
      places = 0;
      is = sym (same_Some at told e) ∙ sym (add-zero at);
      differ = record {
        before = refl;
        there = λ same. false≢true (sym is ∙ (ap (same_member x) (sym (same_Some x y same)) ∙ same_member-refl x));
      };
    }

none-found : (at : ℕ) (xs ys : List MemberShape) → length xs ≡ length ys → first_other at xs ys ≡ None → xs ≡ ys
none-found at [] [] long e = refl
none-found at (x ∷ xs) [] long e = absurd cc
none-found at [] (y ∷ ys) long e = absurd cc
none-found at (x ∷ xs) (y ∷ ys) long e = by (λ rest. none-found (at + 1) xs ys (omega arith) rest) (same_member x y) refl e
  where
    by : (first_other (at + 1) xs ys ≡ None → xs ≡ ys) → (b : Bool) → same_member x y ≡ b
        → cond b (first_other (at + 1) xs ys) (Some at) ≡ None → x ∷ xs ≡ y ∷ ys
    by behind true is e = ap (λ z. z ∷ xs) (same_member-true x y is) ∙ ap (λ zs. y ∷ zs) (behind e)
    by behind false is e = absurd (none-some at (sym e))

same-none : (at : ℕ) (xs : List MemberShape) → first_other at xs xs ≡ None
same-none at [] = refl
same-none at (x ∷ xs) = ap (λ b. cond b (first_other (at + 1) xs xs) (Some at)) (same_member-refl x) ∙ same-none (at + 1) xs

-- a difference is what is found
is-found : (at : ℕ) (xs ys : List MemberShape) (places : ℕ) → length xs ≡ length ys → DifferAt xs ys places → first_other at xs ys ≡ Some (at + places)
is-found at [] [] places long differ = absurd (differ.there refl)
is-found at (x ∷ xs) [] places long differ = absurd cc
is-found at [] (y ∷ ys) places long differ = absurd cc
is-found at (x ∷ xs) (y ∷ ys) zero long differ =
    ap (λ b. cond b (first_other (at + 1) xs ys) (Some at)) (false_from_ne_true _ (λ e. differ.there (ap (λ z. Some z) (same_member-true x y e))))
    ∙ ap (λ n. Some n) (sym (add-zero at))
is-found at (x ∷ xs) (y ∷ ys) (suc places) long differ =
    let same : x ≡ y = same_Some x y (ap (λ zs. slice_get zs 0) differ.before) in
    let rest : take places xs ≡ take places ys = ap (drop 1) differ.before in
    ap (λ b. cond b (first_other (at + 1) xs ys) (Some at)) (ap (same_member x) (sym same) ∙ same_member-refl x)
    ∙ (is-found (at + 1) xs ys places (omega arith) (record { before = rest; there = differ.there })
    ∙ ap (λ n. Some n) (omega arith))

-- ---- classes

module _ (c d : ClassFile) where
  long : (heading : heading_of c ≡ heading_of d) → (length (fields_of c) ≡ length (fields_of d)) × (length (methods_of c) ≡ length (methods_of d))
  long heading = (
    length-map c.fields (shape_in c.pool) ∙ (ap (λ h. h.field_count) heading ∙ sym (length-map d.fields (shape_in d.pool))),
    length-map c.methods (shape_in c.pool) ∙ (ap (λ h. h.method_count) heading ∙ sym (length-map d.methods (shape_in d.pool))),
  )

  -- where the headings are the same the members tell
  members : heading_of c ≡ heading_of d → number_of c d ≡ else_of (first_other 0 (fields_of c) (fields_of d)) (first_other 0 (methods_of c) (methods_of d))
  members heading =
      ap (λ b. cond b (else_of (first_other 0 (fields_of c) (fields_of d)) (first_other 0 (methods_of c) (methods_of d))) (Some 65535))
      (ap (same_heading (heading_of c)) (sym heading) ∙ same_heading-refl (heading_of c))

  first : (xs ys : List MemberShape) (told : ℕ) → first_other 0 xs ys ≡ Some told → DifferAt xs ys told
  first xs ys told e =
      let at = found 0 xs ys told e in
      subst (DifferAt xs ys) (sym (at.is ∙ zero-add at.places)) at.differ

  -- ---- from the number

  pub told-fault : (told : ℕ) → number_of c d ≡ Some told → IsShapeFault c d told
  told-fault told e = by_heading (same_heading (heading_of c) (heading_of d)) refl e
    where
      by_methods : heading_of c ≡ heading_of d → fields_of c ≡ fields_of d → first_other 0 (methods_of c) (methods_of d) ≡ Some told → IsShapeFault c d told
      by_methods heading fields e = inr (inr (record { heading = heading; fields = fields; method = first (methods_of c) (methods_of d) told e }))

      by_fields : (o : Option ℕ) → first_other 0 (fields_of c) (fields_of d) ≡ o → heading_of c ≡ heading_of d
          → else_of o (first_other 0 (methods_of c) (methods_of d)) ≡ Some told → IsShapeFault c d told
      by_fields (Some at) is heading e = inr (inl (record { heading = heading; field = first (fields_of c) (fields_of d) told (is ∙ e) }))
      by_fields None is heading e = by_methods heading (none-found 0 (fields_of c) (fields_of d) (long heading).0 is) e

      by_heading : (b : Bool) → same_heading (heading_of c) (heading_of d) ≡ b
          → cond b (else_of (first_other 0 (fields_of c) (fields_of d)) (first_other 0 (methods_of c) (methods_of d))) (Some 65535) ≡ Some told → IsShapeFault c d told
      by_heading true is e = by_fields (first_other 0 (fields_of c) (fields_of d)) refl (same_heading-true (heading_of c) (heading_of d) is) e
      by_heading false is e = inl (record {
        heading = λ same. false≢true (sym is ∙ (ap (same_heading (heading_of c)) (sym same) ∙ same_heading-refl (heading_of c)));
        number = sym (same_Some 65535 told e);
      })

  pub none-same : number_of c d ≡ None → HasSameShape c d
  none-same e = by_heading (same_heading (heading_of c) (heading_of d)) refl e
    where
      by_fields : (o : Option ℕ) → first_other 0 (fields_of c) (fields_of d) ≡ o → heading_of c ≡ heading_of d
          → else_of o (first_other 0 (methods_of c) (methods_of d)) ≡ None → HasSameShape c d
      by_fields (Some at) is heading e = absurd (none-some at (sym e))
      by_fields None is heading e = record {
        heading = heading;
        fields = none-found 0 (fields_of c) (fields_of d) (long heading).0 is;
        methods = none-found 0 (methods_of c) (methods_of d) (long heading).1 e;
      }

      by_heading : (b : Bool) → same_heading (heading_of c) (heading_of d) ≡ b
          → cond b (else_of (first_other 0 (fields_of c) (fields_of d)) (first_other 0 (methods_of c) (methods_of d))) (Some 65535) ≡ None → HasSameShape c d
      by_heading true is e = by_fields (first_other 0 (fields_of c) (fields_of d)) refl (same_heading-true (heading_of c) (heading_of d) is) e
      by_heading false is e = absurd (none-some 65535 (sym e))

  -- ---- to the number

  same-fields : fields_of c ≡ fields_of d → first_other 0 (fields_of c) (fields_of d) ≡ None
  same-fields e = ap (first_other 0 (fields_of c)) (sym e) ∙ same-none 0 (fields_of c)

  pub same-number : HasSameShape c d → number_of c d ≡ None
  same-number same =
      members same.heading
      ∙ (ap (λ o. else_of o (first_other 0 (methods_of c) (methods_of d))) (same-fields same.fields)
      ∙ (ap (first_other 0 (methods_of c)) (sym same.methods) ∙ same-none 0 (methods_of c)))

  pub fault-number : (told : ℕ) → IsShapeFault c d told → number_of c d ≡ Some told
  fault-number told (inl fault) =
      ap (λ b. cond b (else_of (first_other 0 (fields_of c) (fields_of d)) (first_other 0 (methods_of c) (methods_of d))) (Some 65535))
      (false_from_ne_true _ (λ e. fault.heading (same_heading-true (heading_of c) (heading_of d) e)))
      ∙ ap (λ n. Some n) (sym fault.number)
  fault-number told (inr (inl fault)) =
      members fault.heading
      ∙ ap (λ o. else_of o (first_other 0 (methods_of c) (methods_of d)))
      (is-found 0 (fields_of c) (fields_of d) told (long fault.heading).0 fault.field ∙ ap (λ n. Some n) (zero-add told))
  fault-number told (inr (inr fault)) =
      members fault.heading
      ∙ (ap (λ o. else_of o (first_other 0 (methods_of c) (methods_of d))) (same-fields fault.fields)
      ∙ (is-found 0 (methods_of c) (methods_of d) told (long fault.heading).1 fault.method ∙ ap (λ n. Some n) (zero-add told)))

  -- ---- the number of a heading is no position

  below : (xs ys : List MemberShape) (told : ℕ) → length xs ≡ length ys → DifferAt xs ys told → told < length ys
  below xs ys told long differ = elim ((slice_get_cases ys told).1) [
    | inl is ↦ is.1
    | inr past ↦ absurd (differ.there (slice_get_past xs told (omega (arith, long, past.0)) ∙ sym past.1))
  ]

  pub heading-told : IsClassFile d → number_of c d ≡ Some 65535 → heading_of c ≢ heading_of d
  heading-told formed e same = by (told-fault 65535 e)
    where
      by : IsShapeFault c d 65535 → ⊥
      by (inl fault) = fault.heading same
      by (inr (inl fault)) =
          let short : length (fields_of d) ≡ length d.fields = length-map d.fields (shape_in d.pool) in
          let past : 65535 < length (fields_of d) = below (fields_of c) (fields_of d) 65535 (long same).0 fault.field in
          omega (arith, formed.field_count)
      by (inr (inr fault)) =
          let short : length (methods_of d) ≡ length d.methods = length-map d.methods (shape_in d.pool) in
          let past : 65535 < length (methods_of d) = below (methods_of c) (methods_of d) 65535 (long same).1 fault.method in
          omega (arith, formed.method_count)

-- ---- what was answered

pub if-none : (o : Option ℕ) → IsNone o → o ≡ None
if-none None h = refl
if-none (Some n) h = absurd cc

pub is-none : (o : Option ℕ) → o ≡ None → IsNone o
is-none None e = refl
is-none (Some n) e = absurd (none-some n (sym e))

pub if-some : (P : ℕ → Type 0) (o : Option ℕ) → ((n : ℕ) → o ≡ Some n → P n) → IfSome o P
if-some P None h = tt
if-some P (Some n) h = h n refl
