-- The test of overriding is the relation, among loaded classes.
use Rattle.std.proofs.Common.{◌≡◌, ℕ, Bool, true, false, List, [], ◌∷◌, ap, sym, refl, ◌∙◌, inl, inr}
use Rattle.std.specs.Prelude.{Option, Some, None, not, ◌⊎◌, ◌==◌, ◌||◌, ◌&&◌}
use Rattle.std.specs.List.{list_any}
use Rattle.std.specs.Option.{option_map_or}
use Rattle.std.proofs.lemmas.Slice.Eq.{bytes_eq-Decides}
use Rattle.std.proofs.lemmas.Bool.{and_from, and_parts, false≢true, not-true, or_cases, eqb-true, not_from_false}
use Rattle.std.proofs.Math.Bool.{or-true}
use Rattle.jf_bytes.proofs.Tests.{equals_itself}
use Rattle.const_pool.specs.References.{NameAndType}
use Rattle.jvm_model.specs.declared.program.Program.{Program}
use Rattle.jvm_model.specs.Classes.Load.{is_among}
use Rattle.jvm_model.specs.Classes.Lookup.{MemberPlace, is_subtype, method_at, place_in, supertypes}
use Rattle.jvm_model.specs.Classes.Selection.{Overrides, directly, through, is_open, is_private, is_reached, overrides, package_at, passed_at, passes_on, same_package, signature_of, stands_below}
use Rattle.class_index.specs.Members.{is_declared_as}
use Rattle.class_linker.specs.LoadedClasses.{AreLoadedClasses, LoadedClassRows, holds_class}
use Rattle.class_linker.proofs.OverridingLaws.{IsBelow, below, declared, joined, same_signature}
use Rattle.class_linker.proofs.Subtypes.{above_has, apart, goes_on}

five : (a b c d e : Bool) → (a && b && c && d && e) ≡ true → (a ≡ true) × (b ≡ true) × (c ≡ true) × (d ≡ true) × (e ≡ true)
five true true true true e h = (refl, refl, refl, refl, h)
five true true true false e h = absurd (false≢true h)
five true true false d e h = absurd (false≢true h)
five true false c d e h = absurd (false≢true h)
five false b c d e h = absurd (false≢true h)

all_five : (a b c d e : Bool) → a ≡ true → b ≡ true → c ≡ true → d ≡ true → e ≡ true → (a && b && c && d && e) ≡ true
all_five a b c d e x y z w v = cc

-- ---- one of a list that passes a test

pub record IsOne (test : ℕ → Bool) (xs : List ℕ) : Type 0 where
  pub class : ℕ
  pub there : is_among class xs ≡ true
  pub passes : test class ≡ true

one_of : (test : ℕ → Bool) (xs : List ℕ) → list_any test xs ≡ true → IsOne test xs
one_of test [] h = absurd (false≢true h)
one_of test (x ∷ xs) h = by (or_cases (test x) (list_any test xs) h) (one_of test xs)
  where
    by : (test x ≡ true) ⊎ (list_any test xs ≡ true) → (list_any test xs ≡ true → IsOne test xs) → IsOne test (x ∷ xs)
    by (inl k) rest = record { class = x; there = ap (λ b. b || is_among x xs) (equals_itself x); passes = k }
    by (inr k) rest =
        let one = rest k in
        record { class = one.class; there = ap (λ b. (one.class == x) || b) one.there ∙ or-true (one.class == x); passes = one.passes }

any_of : (test : ℕ → Bool) (xs : List ℕ) (c : ℕ) → is_among c xs ≡ true → test c ≡ true → list_any test xs ≡ true
any_of test [] c there h = absurd (false≢true there)
any_of test (x ∷ xs) c there h = by (or_cases (c == x) (is_among c xs) there) (λ k. any_of test xs c k h)
  where
    by : ((c == x) ≡ true) ⊎ (is_among c xs ≡ true) → (is_among c xs ≡ true → list_any test xs ≡ true) → (test x || list_any test xs) ≡ true
    by (inl same) rest = ap (λ b. b || list_any test xs) (ap test (sym (eqb-true c x same)) ∙ h)
    by (inr k) rest = ap (λ b. test x || b) (rest k) ∙ or-true (test x)

module _ (p : Program) where
  pub stands : (m1 m2 : MemberPlace) → IsBelow p m1 m2 → stands_below p m1 m2 ≡ true
  stands m1 m2 b = joined (m1.class == m2.class) (is_subtype p m1.class m2.class) (is_declared_as p m1 m2) b.other b.sub b.declared

  -- ---- what a class reaches

  reached : (class : ℕ) (m : MemberPlace) → is_private p m ≡ false → (is_open p m ≡ true) ⊎ (same_package p class m.class ≡ true) → is_reached p class m ≡ true
  reached class m own (inl free) =
      and_from (not (is_private p m)) (is_open p m || same_package p class m.class) (not_from_false (is_private p m) own) (ap (λ b. b || same_package p class m.class) free)
  reached class m own (inr near) =
      and_from (not (is_private p m)) (is_open p m || same_package p class m.class) (not_from_false (is_private p m) own)
      (ap (λ b. is_open p m || b) near ∙ or-true (is_open p m))

  not_private : (class : ℕ) (m : MemberPlace) → is_reached p class m ≡ true → is_private p m ≡ false
  not_private class m h = not-true (is_private p m) (and_parts (not (is_private p m)) (is_open p m || same_package p class m.class) h).0

  why_reached : (class : ℕ) (m : MemberPlace) → is_reached p class m ≡ true → (is_open p m ≡ true) ⊎ (same_package p class m.class ≡ true)
  why_reached class m h =
      or_cases (is_open p m) (same_package p class m.class) (and_parts (not (is_private p m)) (is_open p m || same_package p class m.class) h).1

  one_package : (a b c : ℕ) → same_package p a b ≡ true → same_package p b c ≡ true → same_package p a c ≡ true
  one_package a b c x y =
      (bytes_eq-Decides (package_at p a) (package_at p c)).1
      ((bytes_eq-Decides (package_at p a) (package_at p b)).0 x ∙ (bytes_eq-Decides (package_at p b) (package_at p c)).0 y)

  -- ---- a method between the two

  pub record IsPassed (m1 m2 : MemberPlace) : Type 0 where
    pub m3 : MemberPlace
    pub lower : IsBelow p m1 m3
    pub upper : IsBelow p m3 m2
    pub own : is_private p m3 ≡ false
    pub free : is_open p m3 ≡ true
    pub reaches : is_reached p m3.class m2 ≡ true

  passes_if : (m1 m2 m3 : MemberPlace) → passes_on p m1 m2 m3 ≡ true → IsPassed m1 m2
  passes_if m1 m2 m3 h =
      let parts = five (stands_below p m1 m3) (stands_below p m3 m2) (not (is_private p m3)) (is_open p m3) (is_reached p m3.class m2) h in
      record {
        m3 = m3;
        lower = below p m1 m3 parts.0;
        upper = below p m3 m2 parts.1;
        own = not-true (is_private p m3) parts.2;
        free = parts.3;
        reaches = parts.4;
      }

  if_passes : (m1 m2 : MemberPlace) (i : IsPassed m1 m2) → passes_on p m1 m2 i.m3 ≡ true
  if_passes m1 m2 i =
      all_five (stands_below p m1 i.m3) (stands_below p i.m3 m2) (not (is_private p i.m3)) (is_open p i.m3) (is_reached p i.m3.class m2)
      (stands m1 i.m3 i.lower) (stands i.m3 m2 i.upper) (not_from_false (is_private p i.m3) i.own) i.free i.reaches

  pub passed_if : (m1 m2 : MemberPlace) → list_any (passed_at p m1 m2) (supertypes p m1.class) ≡ true → IsPassed m1 m2
  passed_if m1 m2 h =
      let one = one_of (passed_at p m1 m2) (supertypes p m1.class) h in
      by one.class (signature_of p m2) one.passes
    where
      at : (class : ℕ) (o : Option ℕ) → option_map_or (λ at. passes_on p m1 m2 (place_in class at)) o false ≡ true → IsPassed m1 m2
      at class None h = absurd (false≢true h)
      at class (Some n) h = passes_if m1 m2 (place_in class n) h

      by : (class : ℕ) (o : Option NameAndType)
          → option_map_or (λ wanted. option_map_or (λ at. passes_on p m1 m2 (place_in class at)) (method_at p wanted class) false) o false ≡ true
          → IsPassed m1 m2
      by class None h = absurd (false≢true h)
      by class (Some w) h = at class (method_at p w class) h

  pub if_passed : (m1 m2 : MemberPlace) → IsPassed m1 m2 → list_any (passed_at p m1 m2) (supertypes p m1.class) ≡ true
  if_passed m1 m2 i =
      let d = declared p i.m3 m2 i.upper.declared in
      any_of (passed_at p m1 m2) (supertypes p m1.class) i.m3.class i.lower.sub
      (ap (λ o. option_map_or (λ wanted. option_map_or (λ at. passes_on p m1 m2 (place_in i.m3.class at)) (method_at p wanted i.m3.class) false) o false) d.asked
      ∙ (ap (λ o. option_map_or (λ at. passes_on p m1 m2 (place_in i.m3.class at)) o false) d.found ∙ if_passes m1 m2 i))

  -- ---- how a method overrides

  abbrev How : MemberPlace → MemberPlace → Type 0
  How m1 m2 = (is_reached p m1.class m2 ≡ true) ⊎ IsPassed m1 m2

  how : (m1 m2 : MemberPlace) → overrides p m1 m2 ≡ true → IsBelow p m1 m2 × ((is_reached p m1.class m2 ≡ true) ⊎ IsPassed m1 m2)
  how m1 m2 h =
      let parts = and_parts (stands_below p m1 m2) _ h in
      (below p m1 m2 parts.0, by (or_cases (is_reached p m1.class m2) (list_any (passed_at p m1 m2) (supertypes p m1.class)) parts.1))
    where
      by : (is_reached p m1.class m2 ≡ true) ⊎ (list_any (passed_at p m1 m2) (supertypes p m1.class) ≡ true) → (is_reached p m1.class m2 ≡ true) ⊎ IsPassed m1 m2
      by (inl k) = inl k
      by (inr k) = inr (passed_if m1 m2 k)

  back : (m1 m2 : MemberPlace) → IsBelow p m1 m2 → (is_reached p m1.class m2 ≡ true) ⊎ IsPassed m1 m2 → overrides p m1 m2 ≡ true
  back m1 m2 b h =
      and_from (stands_below p m1 m2) (is_reached p m1.class m2 || list_any (passed_at p m1 m2) (supertypes p m1.class)) (stands m1 m2 b) (by h)
    where
      by : (is_reached p m1.class m2 ≡ true) ⊎ IsPassed m1 m2 → (is_reached p m1.class m2 || list_any (passed_at p m1 m2) (supertypes p m1.class)) ≡ true
      by (inl k) = ap (λ b. b || list_any (passed_at p m1 m2) (supertypes p m1.class)) k
      by (inr i) = ap (λ b. is_reached p m1.class m2 || b) (if_passed m1 m2 i) ∙ or-true (is_reached p m1.class m2)

  -- what passes the test is in the relation
  pub tested : (m1 m2 : MemberPlace) → overrides p m1 m2 ≡ true → Overrides p m1 m2
  tested m1 m2 h = by (how m1 m2 h)
    where
      by : IsBelow p m1 m2 × ((is_reached p m1.class m2 ≡ true) ⊎ IsPassed m1 m2) → Overrides p m1 m2
      by (b, inl k) = directly m1 m2 (stands m1 m2 b) k
      by (b, inr i) =
          through m1 m2 i.m3 (stands m1 m2 b) (directly m1 i.m3 (stands m1 i.m3 i.lower) (reached m1.class i.m3 i.own (inl i.free)))
          (directly i.m3 m2 (stands i.m3 m2 i.upper) i.reaches)

  module _ (rows : LoadedClassRows) (are : AreLoadedClasses p rows) where
    below_both : (m1 m3 m2 : MemberPlace) → holds_class rows m1.class ≡ true → IsBelow p m1 m3 → IsBelow p m3 m2 → IsBelow p m1 m2
    below_both m1 m3 m2 has lower upper = record {
      other = apart p rows are m1.class m3.class m2.class has lower.sub lower.other upper.sub upper.other;
      sub = goes_on p rows are m1.class m3.class m2.class has lower.sub upper.sub;
      declared = ap (λ o. option_map_or (λ wanted. option_map_or (λ at. at == m1.position) (method_at p wanted m1.class) false) o false)
          (sym (same_signature p m3 m2 upper.declared)) ∙ lower.declared;
    }

    by_third : (m1 m3 m2 : MemberPlace) → IsBelow p m1 m3 → IsBelow p m3 m2 → is_private p m3 ≡ false → is_open p m3 ≡ true
        → is_reached p m3.class m2 ≡ true → IsPassed m1 m2
    by_third m1 m3 m2 lower upper own free reaches = record { m3 = m3; lower = lower; upper = upper; own = own; free = free; reaches = reaches }

    near : (m1 m3 m2 : MemberPlace) → holds_class rows m1.class ≡ true → IsBelow p m1 m3 → IsBelow p m3 m2 → (is_reached p m1.class m3 ≡ true) ⊎ IsPassed m1 m3
        → is_reached p m3.class m2 ≡ true → same_package p m3.class m2.class ≡ true → (is_reached p m1.class m2 ≡ true) ⊎ IsPassed m1 m2
    near m1 m3 m2 has lower upper (inl r) reaches same = by (why_reached m1.class m3 r)
      where
        by : (is_open p m3 ≡ true) ⊎ (same_package p m1.class m3.class ≡ true) → (is_reached p m1.class m2 ≡ true) ⊎ IsPassed m1 m2
        by (inl free) = inr (by_third m1 m3 m2 lower upper (not_private m1.class m3 r) free reaches)
        by (inr here) = inl (reached m1.class m2 (not_private m3.class m2 reaches) (inr (one_package m1.class m3.class m2.class here same)))
    near m1 m3 m2 has lower upper (inr i) reaches same = by (why_reached i.m3.class m3 i.reaches)
      where
        by : (is_open p m3 ≡ true) ⊎ (same_package p i.m3.class m3.class ≡ true) → (is_reached p m1.class m2 ≡ true) ⊎ IsPassed m1 m2
        by (inl free) = inr (by_third m1 m3 m2 lower upper (not_private i.m3.class m3 i.reaches) free reaches)
        by (inr here) =
            inr (by_third m1 i.m3 m2 i.lower (below_both i.m3 m3 m2 (above_has p rows are m1.class i.m3.class has i.lower.sub) i.upper upper) i.own i.free
            (reached i.m3.class m2 (not_private m3.class m2 reaches) (inr (one_package i.m3.class m3.class m2.class here same))))

    far : (m1 m3 m2 : MemberPlace) → holds_class rows m1.class ≡ true → IsBelow p m1 m3 → (is_reached p m1.class m3 ≡ true) ⊎ IsPassed m1 m3 → IsBelow p m3 m2
        → (is_reached p m3.class m2 ≡ true) ⊎ IsPassed m3 m2 → (is_reached p m1.class m2 ≡ true) ⊎ IsPassed m1 m2
    far m1 m3 m2 has lower first upper (inr i) = inr (by_third m1 i.m3 m2 (below_both m1 m3 i.m3 has lower i.lower) i.upper i.own i.free i.reaches)
    far m1 m3 m2 has lower first upper (inl r) = by (why_reached m3.class m2 r)
      where
        by : (is_open p m2 ≡ true) ⊎ (same_package p m3.class m2.class ≡ true) → (is_reached p m1.class m2 ≡ true) ⊎ IsPassed m1 m2
        by (inl free) = inl (reached m1.class m2 (not_private m3.class m2 r) (inl free))
        by (inr same) = near m1 m3 m2 has lower upper first r same

    -- what is in the relation passes the test
    pub related : (m1 m2 : MemberPlace) → Overrides p m1 m2 → holds_class rows m1.class ≡ true → overrides p m1 m2 ≡ true
    related m1 m2 (directly _ _ stands_so reaches) has = back m1 m2 (below p m1 m2 stands_so) (inl reaches)
    related m1 m2 (through _ _ m3 stands_so lower upper) has = by (how m1 m3 (related m1 m3 lower has)) (related m3 m2 upper)
      where
        by : IsBelow p m1 m3 × ((is_reached p m1.class m3 ≡ true) ⊎ IsPassed m1 m3) → (holds_class rows m3.class ≡ true → overrides p m3 m2 ≡ true) → overrides p m1 m2 ≡ true
        by (b, first) rest = with_upper (how m3 m2 (rest (above_has p rows are m1.class m3.class has b.sub)))
          where
            with_upper : IsBelow p m3 m2 × ((is_reached p m3.class m2 ≡ true) ⊎ IsPassed m3 m2) → overrides p m1 m2 ≡ true
            with_upper (c, second) = back m1 m2 (below p m1 m2 stands_so) (far m1 m3 m2 has b first c second)
