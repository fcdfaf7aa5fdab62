-- Lists of objects, and what they take.
use Rattle.std.proofs.Common.{◌≡◌, ℕ, zero, suc, ◌+◌, ◌≤◌, ◌<◌, List, [], ◌∷◌, ◌++◌, length, refl, sym, ap, subst, ◌∙◌, arith, get_or, slice_get, slice_set, Some, None, sum_by}
use Rattle.std.proofs.Common.{Bool, true, false, ◌-◌, if◌then◌else◌, length-append}
use Rattle.std.specs.Prelude.{Option, IfSome, unwrap_or}
use Rattle.std.specs.Option.{option_map, option_copied}
use Rattle.std.specs.Borrow.{Bor}
use Rattle.std.proofs.lemmas.Option.{slice_get_within, slice_get-get_or, get_or_from_slice_get}
use Rattle.std.proofs.lemmas.List.Sums.{get_or-le-sum_by, sum_by-cons, sum_by_push}
use Rattle.heap_objects.specs.declared.object.Object.{Object}
use Rattle.heap_objects.specs.declared.object.Object.TheVariants.{Instance, Array, Text}
use Rattle.heap_objects.specs.Objects.{length_of, cost_of, with_units, with_more_units, changed_at}

pub changed_at-found : (f : Object → Object) (place : ℕ) (os : List Object) (o : Object) → slice_get os place ≡ Some o → slice_set os place (f o) ≡ changed_at f place os
changed_at-found f place [] o h = refl
changed_at-found f zero (p ∷ os) o h = cc
changed_at-found f (suc place) (p ∷ os) o h = ap (λ l. p ∷ l) (changed_at-found f place os o h)

-- what one object takes is within what all take
pub cost_within : (place : ℕ) (os : List Object) (o : Object) → slice_get os place ≡ Some o → cost_of o ≤ sum_by cost_of os
cost_within place os o h =
    let e : get_or os place o ≡ o = get_or_from_slice_get os place o o h in
    subst (λ p. cost_of p ≤ sum_by cost_of os) e (get_or-le-sum_by cost_of os place o (slice_get_within os place o h))

-- what all take, when one is changed
pub cost_changed : (f : Object → Object) (place : ℕ) (os : List Object) (o : Object) → slice_get os place ≡ Some o
    → sum_by cost_of (changed_at f place os) + cost_of o ≡ sum_by cost_of os + cost_of (f o)
cost_changed f place [] o h = absurd (none o h)
  where
    none : (o : Object) → None ≡ Some o → ⊥
    none o e = cc
cost_changed f zero (p ∷ os) o h =
    omega (arith, sum_by-cons cost_of p os, sum_by-cons cost_of (f p) os, ap cost_of (same p o h), ap (λ q. cost_of (f q)) (same p o h))
  where
    same : (p o : Object) → Some p ≡ Some o → p ≡ o
    same p o e = cc
cost_changed f (suc place) (p ∷ os) o h =
    omega (arith, sum_by-cons cost_of p os, sum_by-cons cost_of p (changed_at f place os), cost_changed f place os o h)

-- each object takes a slot
pub length_within : (os : List Object) → length os ≤ sum_by cost_of os
length_within [] = omega arith
length_within (o ∷ os) = omega (arith, sum_by-cons cost_of o os, length_within os)

-- one object more
pub cost_more : (os : List Object) (o : Object) → sum_by cost_of (os ++ o ∷ []) ≡ sum_by cost_of os + cost_of o
cost_more os o = sum_by_push cost_of os o

slice_set-same : (place : ℕ) (os : List Object) (o : Object) → slice_get os place ≡ Some o → slice_set os place o ≡ os
slice_set-same place [] o h = refl
slice_set-same zero (p ∷ os) o h = cc
slice_set-same (suc place) (p ∷ os) o h = ap (λ l. p ∷ l) (slice_set-same place os o h)

-- A list where `new` stands in the place of `o`, which is `f o`.
pub record IsChanged (f : Object → Object) (place : ℕ) (os : List Object) (o new : Object) : Type 0 where
  pub there : slice_get os place ≡ Some o
  pub objects : slice_set os place new ≡ changed_at f place os
  pub cost : sum_by cost_of (slice_set os place new) + cost_of o ≡ sum_by cost_of os + cost_of new

pub is_changed : (f : Object → Object) (place : ℕ) (os : List Object) (d new : Object) → place < length os → new ≡ f (get_or os place d)
    → IsChanged f place os (get_or os place d) new
is_changed f place os d new within is =
    let o = get_or os place d in
    let there : slice_get os place ≡ Some o = slice_get-get_or os place d within in
    let objects : slice_set os place new ≡ changed_at f place os = ap (slice_set os place) is ∙ changed_at-found f place os o there in
    record {
      there = there;
      objects = objects;
      cost = omega (arith, ap (sum_by cost_of) objects, cost_changed f place os o there, ap cost_of is);
    }

-- a list where an object was changed, or not
pub chosen : (f : Object → Object) (place : ℕ) (os : List Object) (d new : Object) (b : Bool) → place < length os
    → new ≡ (if b then f (get_or os place d) else get_or os place d) → slice_set os place new ≡ (if b then changed_at f place os else os)
chosen f place os d new true within is = (is_changed f place os d new within is).objects
chosen f place os d new false within is =
    ap (slice_set os place) is ∙ slice_set-same place os (get_or os place d) (slice_get-get_or os place d within)

pub cost-with_more_units : (units : List ℕ) (o : Object) → cost_of (with_more_units units o) ≤ cost_of o + length units
cost-with_more_units units (Instance kind fields) = omega arith
cost-with_more_units units (Array a) = omega arith
cost-with_more_units units (Text kind old) = omega (arith, length-append old units)

pub cost-with_units : (units : List ℕ) (o : Object) → cost_of (with_units units o) ≤ cost_of o + (length units - length_of o)
cost-with_units units (Instance kind fields) = omega arith
cost-with_units units (Array a) = omega arith
cost-with_units units (Text kind old) = omega arith

pub before-is : (place : ℕ) (os : List Object) (o : Object) → slice_get os place ≡ Some o → unwrap_or (option_map length_of (slice_get os place)) 0 ≡ length_of o
before-is place os o there = ap (λ r. unwrap_or (option_map length_of r) 0) there

-- an object's length fits where all that the objects take does
pub found-fits : (r : Option (Bor Object)) (os : List Object) (place bound : ℕ) → option_copied r ≡ slice_get os place → sum_by cost_of os < bound
    → IfSome r (λ o. length_of o.now < bound)
found-fits None os place bound e h = tt
found-fits (Some b) os place bound e h = omega (arith, cost_within place os b.now (sym e))
