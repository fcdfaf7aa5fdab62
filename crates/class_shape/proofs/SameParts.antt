-- Names, members and headings are the same exactly where the tests say so.
use Rattle.std.proofs.Common.{◌≡◌, ◌≢◌, ℕ, true, false, suc, List, [], ◌∷◌, map, length, Option, Some, None, refl, ap, ◌∙◌}
use Rattle.std.specs.Prelude.{◌==◌}
use Rattle.std.proofs.lemmas.Bool.{and_parts, and_from, eqb-true, eq-eqb, false≢true, and_right}
use Rattle.std.proofs.lemmas.Slice.Eq.{bytes_eq-Decides}
use Rattle.class_shape.specs.ClassShapes.{MemberShape, Heading}
use Rattle.class_shape.specs.Comparing.{same_name, same_names, same_member, same_declared, same_counts, same_heading}

-- ---- names

same_name-true : (a b : Option (List ℕ)) → same_name a b ≡ true → a ≡ b
same_name-true (Some a) (Some b) e = ap (λ (t : List ℕ). Some t) ((bytes_eq-Decides a b).0 e)
same_name-true (Some a) None e = absurd (false≢true e)
same_name-true None (Some b) e = absurd (false≢true e)
same_name-true None None e = refl

same_name-refl : (a : Option (List ℕ)) → same_name a a ≡ true
same_name-refl (Some a) = (bytes_eq-Decides a a).1 refl
same_name-refl None = refl

same_names-true : (xs ys : List (Option (List ℕ))) → same_names xs ys ≡ true → xs ≡ ys
same_names-true [] [] e = refl
same_names-true [] (y ∷ ys) e = absurd (false≢true e)
same_names-true (x ∷ xs) [] e = absurd (false≢true e)
same_names-true (x ∷ xs) (y ∷ ys) e =
    let parts = and_parts (same_name x y) (same_names xs ys) e in
    ap (λ z. z ∷ xs) (same_name-true x y parts.0) ∙ ap (λ zs. y ∷ zs) (same_names-true xs ys parts.1)

same_names-refl : (xs : List (Option (List ℕ))) → same_names xs xs ≡ true
same_names-refl [] = refl
same_names-refl (x ∷ xs) = and_from (same_name x x) (same_names xs xs) (same_name-refl x) (same_names-refl xs)

-- lists of two lengths are not
pub other_lengths : (f g : ℕ → Option (List ℕ)) (xs ys : List ℕ) → length xs ≢ length ys → same_names (map f xs) (map g ys) ≡ false
other_lengths f g [] [] differ = absurd (differ refl)
other_lengths f g [] (y ∷ ys) differ = refl
other_lengths f g (x ∷ xs) [] differ = refl
other_lengths f g (x ∷ xs) (y ∷ ys) differ =
    and_right (same_name (f x) (g y)) (same_names (map f xs) (map g ys)) (other_lengths f g xs ys (λ e. differ (ap suc e)))

-- ---- members

pub same_member-true : (x y : MemberShape) → same_member x y ≡ true → x ≡ y
same_member-true x y e =
    let all = and_parts _ (same_name x.descriptor y.descriptor) e in
    let front = and_parts (x.access == y.access) (same_name x.name y.name) all.0 in
    let made : ℕ → Option (List ℕ) → Option (List ℕ) → MemberShape = λ access name descriptor. record { access = access; name = name; descriptor = descriptor } in
    ap (λ n. made n x.name x.descriptor) (eqb-true x.access y.access front.0)
    ∙ (ap (λ n. made y.access n x.descriptor) (same_name-true x.name y.name front.1)
    ∙ ap (made y.access y.name) (same_name-true x.descriptor y.descriptor all.1))

pub same_member-refl : (x : MemberShape) → same_member x x ≡ true
same_member-refl x =
    and_from _ (same_name x.descriptor x.descriptor)
    (and_from (x.access == x.access) (same_name x.name x.name) (eq-eqb x.access x.access refl) (same_name-refl x.name))
    (same_name-refl x.descriptor)

-- ---- headings

pub same_heading-true : (x y : Heading) → same_heading x y ≡ true → x ≡ y
same_heading-true x y e =
    let halves = and_parts (same_declared x y) (same_counts x y) e in
    let counts = and_parts (x.field_count == y.field_count) (x.method_count == y.method_count) halves.1 in
    let all = and_parts _ (same_names x.interfaces y.interfaces) halves.0 in
    let names = and_parts _ (same_name x.superclass y.superclass) all.0 in
    let front = and_parts (x.access == y.access) (same_name x.name y.name) names.0 in
    ap (λ n. record x { access = n }) (eqb-true x.access y.access front.0)
    ∙ (ap (λ n. record x { access = y.access; name = n }) (same_name-true x.name y.name front.1)
    ∙ (ap (λ n. record x { access = y.access; name = y.name; superclass = n }) (same_name-true x.superclass y.superclass names.1)
    ∙ (ap (λ n. record y { interfaces = n; field_count = x.field_count; method_count = x.method_count }) (same_names-true x.interfaces y.interfaces all.1)
    ∙ (ap (λ n. record y { field_count = n; method_count = x.method_count }) (eqb-true x.field_count y.field_count counts.0)
    ∙ ap (λ n. record y { method_count = n }) (eqb-true x.method_count y.method_count counts.1)))))

pub same_heading-refl : (x : Heading) → same_heading x x ≡ true
same_heading-refl x =
    and_from (same_declared x x) (same_counts x x)
    (and_from _ (same_names x.interfaces x.interfaces)
    (and_from _ (same_name x.superclass x.superclass)
    (and_from (x.access == x.access) (same_name x.name x.name) (eq-eqb x.access x.access refl) (same_name-refl x.name))
    (same_name-refl x.superclass))
    (same_names-refl x.interfaces))
    (and_from (x.field_count == x.field_count) (x.method_count == x.method_count) (eq-eqb x.field_count x.field_count refl) (eq-eqb x.method_count x.method_count refl))
