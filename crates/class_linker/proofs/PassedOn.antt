-- Where nothing passes a method on to a class, nothing does to the classes above it.
use Rattle.std.proofs.Common.{◌≡◌, ℕ, Bool, true, false, ap, sym, refl, ◌∙◌}
use Rattle.std.specs.Prelude.{◌==◌, ◌&&◌, ◌||◌}
use Rattle.std.specs.List.{list_any}
use Rattle.std.specs.Option.{option_map_or}
use Rattle.std.proofs.lemmas.Bool.{false≢true, eqb-true}
use Rattle.jvm_model.specs.declared.program.Program.{Program}
use Rattle.jvm_model.specs.Classes.Lookup.{MemberPlace, is_subtype, method_at, supertypes}
use Rattle.class_index.specs.Members.{is_declared_as}
use Rattle.jvm_model.specs.Classes.Selection.{is_reached, overrides, passed_at, stands_below}
use Rattle.class_linker.specs.Passing.{IsBetween, IsUnpassed}
use Rattle.class_linker.specs.LoadedClasses.{AreLoadedClasses, LoadedClassRows, holds_class}
use Rattle.class_linker.proofs.OverridingLaws.{IsBelow, below, same_signature}
use Rattle.class_linker.proofs.OverridingTest.{IsPassed, if_passed, passed_if, stands}
use Rattle.class_linker.proofs.Subtypes.{apart, goes_on}

module _ (p : Program) where
  between : (own m : MemberPlace) → IsPassed p own m → IsBetween p m own.class
  between own m i = record {
    third = i.m3;
    other = i.lower.other;
    above = i.lower.sub;
    below = stands p i.m3 m i.upper;
    own = i.own;
    free = i.free;
    reaches = i.reaches;
  }

  -- nothing passes the method on to a class's own one
  pub none_passes : (own m : MemberPlace) → IsUnpassed p m own.class → list_any (passed_at p own m) (supertypes p own.class) ≡ false
  none_passes own m unpassed = by (list_any (passed_at p own m) (supertypes p own.class)) refl
    where
      by : (b : Bool) → list_any (passed_at p own m) (supertypes p own.class) ≡ b → b ≡ false
      by false is = refl
      by true is = absurd (unpassed (between own m (passed_if p own m is)))

  passed : (own m : MemberPlace) → IsBelow p own m → IsBetween p m own.class → IsPassed p own m
  passed own m b i = record {
    m3 = i.third;
    lower = record { other = i.other; sub = i.above; declared = declared };
    upper = below p i.third m i.below;
    own = i.own;
    free = i.free;
    reaches = i.reaches;
  }
    where
      declared : is_declared_as p own i.third ≡ true
      declared =
          ap (λ o. option_map_or (λ wanted. option_map_or (λ at. at == own.position) (method_at p wanted own.class) false) o false)
          (same_signature p i.third m (below p i.third m i.below).declared)
          ∙ b.declared

  -- where nothing passes it on to a class's own one, nothing does to the class
  pub unpassed : (own m : MemberPlace) → stands_below p own m ≡ true → list_any (passed_at p own m) (supertypes p own.class) ≡ false
      → IsUnpassed p m own.class
  unpassed own m stands_so none i = false≢true (sym none ∙ if_passed p own m (passed own m (below p own m stands_so) i))

  pub unpassed_above : (rows : LoadedClassRows) → AreLoadedClasses p rows → (m : MemberPlace) (class above : ℕ) → holds_class rows class ≡ true → is_subtype p class above ≡ true
      → IsUnpassed p m class → IsUnpassed p m above
  unpassed_above rows are m class above has sub none i = none (record {
    third = i.third;
    other = by (class == above) refl;
    above = goes_on p rows are class above i.third.class has sub i.above;
    below = i.below;
    own = i.own;
    free = i.free;
    reaches = i.reaches;
  })
    where
      by : (b : Bool) → (class == above) ≡ b → (class == i.third.class) ≡ false
      by true same = ap (λ c. c == i.third.class) (eqb-true class above same) ∙ i.other
      by false another = apart p rows are class above i.third.class has sub another i.above i.other

  neither : (a b c : Bool) → b ≡ false → c ≡ false → (a && (b || c)) ≡ false
  neither true b c x y = ap (λ z. z || c) x ∙ y
  neither false b c x y = refl

  -- a class's own one that does not reach the method then does not override it
  pub not_passed : (own m : MemberPlace) → is_reached p own.class m ≡ false → IsUnpassed p m own.class → overrides p own m ≡ false
  not_passed own m unreached none =
      neither (stands_below p own m) (is_reached p own.class m) (list_any (passed_at p own m) (supertypes p own.class)) unreached (none_passes own m none)
