-- Numbers of native methods.
use Rattle.std.proofs.Common.{◌≡◌, ℕ, zero, suc, ◌+◌, ◌-◌, ◌<◌, Bool, true, false, cond, List, [], ◌∷◌, ◌++◌, map, filter, length, Option, Some, None, slice_get, refl, sym, ap, subst, ◌∙◌, arith}
use Rattle.std.specs.Prelude.{nat_lt, ◌&&◌}
use Rattle.std.specs.List.{flat_map, position_from}
use Rattle.std.proofs.lemmas.Bool.{and_parts, ltb-true}
use Rattle.jf_bytes.proofs.Lists.{slice_get-front, slice_get-after}
use Rattle.const_pool.specs.References.{Reference}
use Rattle.base_classes.specs.Declarations.{MemberDeclaration, ClassDeclaration}
use Rattle.base_classes.specs.Natives.{is_native, method_named, natives_of, starts_from}
use Rattle.base_classes.proofs.Groups.{slice_get-behind}

-- ---- the first place that passes

pub record Passes {A : Type 0} (test : A → Bool) (xs : List A) (first n : ℕ) : Type 0 where
  pub place : ℕ
  pub item : A
  pub number : n ≡ first + place
  pub at : slice_get xs place ≡ Some item
  pub passed : test item ≡ true

later : {A : Type 0} (test : A → Bool) (x : A) (xs : List A) (first n : ℕ) → Passes test xs (first + 1) n → Passes test (x ∷ xs) first n
later test x xs first n p = record { place = suc p.place; item = p.item; number = p.number ∙ omega arith; at = p.at; passed = p.passed }

pub position_found : {A : Type 0} (test : A → Bool) (xs : List A) (first n : ℕ) → position_from test first xs ≡ Some n → Passes test xs first n
position_found test [] first n h = absurd cc
position_found test (x ∷ xs) first n h = by_test (test x) refl h (λ e. later test x xs first n (position_found test xs (first + 1) n e))
  where
    by_test : (b : Bool) → test x ≡ b → cond b (Some first) (position_from test (first + 1) xs) ≡ Some n
        → (position_from test (first + 1) xs ≡ Some n → Passes test (x ∷ xs) first n) → Passes test (x ∷ xs) first n
    by_test true is e rest = record { place = zero; item = x; number = let same : first ≡ n = cc in let end : n ≡ first + zero = omega arith in end; at = refl; passed = is }
    by_test false is e rest = rest e

pub position_missed : {A : Type 0} (test : A → Bool) (xs : List A) (first : ℕ) → position_from test first xs ≡ None
    → (k : ℕ) (x : A) → slice_get xs k ≡ Some x → test x ≡ false
position_missed test [] first h k x at = absurd cc
position_missed test (y ∷ xs) first h k x at = by_test (test y) refl h (λ e k at. position_missed test xs (first + 1) e k x at) k at
  where
    by_test : (b : Bool) → test y ≡ b → cond b (Some first) (position_from test (first + 1) xs) ≡ None
        → (position_from test (first + 1) xs ≡ None → (k : ℕ) → slice_get xs k ≡ Some x → test x ≡ false)
        → (k : ℕ) → slice_get (y ∷ xs) k ≡ Some x → test x ≡ false
    by_test true is e rest k at = absurd cc
    by_test false is e rest zero at = let same : y ≡ x = cc in subst (λ z. test z ≡ false) same is
    by_test false is e rest (suc k) at = rest e k at

-- ---- native methods of a class

-- the native method at a place is a native one of the class's methods
pub record IsNamedBy (d : ClassDeclaration) (k : ℕ) (r : Reference) : Type 0 where
  pub method : MemberDeclaration
  pub at : slice_get (filter is_native d.methods) k ≡ Some method
  pub is : r ≡ method_named d.name method.name method.descriptor

named_by : (class : List ℕ) (ms : List MemberDeclaration) (k : ℕ) (r : Reference) → slice_get (map (λ m. method_named class m.name m.descriptor) ms) k ≡ Some r
    → (m : MemberDeclaration) × (slice_get ms k ≡ Some m) × (r ≡ method_named class m.name m.descriptor)
named_by class [] k r h = absurd cc
named_by class (m ∷ ms) zero r h = (m, refl, let e : method_named class m.name m.descriptor ≡ r = cc in sym e)
named_by class (m ∷ ms) (suc k) r h = named_by class ms k r h

pub is_named_by : (d : ClassDeclaration) (k : ℕ) (r : Reference) → slice_get (natives_of d) k ≡ Some r → IsNamedBy d k r
is_named_by d k r h = let found = named_by d.name (filter is_native d.methods) k r h in record { method = found.0; at = found.1; is = found.2 }

-- ---- and of all classes

-- how many native methods stand before those of the class at a place
abbrev pub start : List ClassDeclaration → ℕ → ℕ
start [] p = 0
start (d ∷ ds) zero = 0
start (d ∷ ds) (suc p) = length (natives_of d) + start ds p

pub has_start : (n : ℕ) (ds : List ClassDeclaration) (p : ℕ) (d : ClassDeclaration) → slice_get ds p ≡ Some d → slice_get (starts_from n ds) p ≡ Some (n + start ds p)
has_start n [] p d h = absurd cc
has_start n (e ∷ ds) zero d h = ap (λ (k : ℕ). Some k) (omega arith)
has_start n (e ∷ ds) (suc p) d h = has_start (n + length (natives_of e)) ds p d h ∙ ap (λ (k : ℕ). Some k) (omega arith)

pub number_at : (ds : List ClassDeclaration) (p : ℕ) (d : ClassDeclaration) (k : ℕ) (r : Reference) → slice_get ds p ≡ Some d → slice_get (natives_of d) k ≡ Some r
    → slice_get (flat_map natives_of ds) (start ds p + k) ≡ Some r
number_at [] p d k r h at = absurd cc
number_at (e ∷ ds) zero d k r h at =
    let same : d ≡ e = cc in
    let here : slice_get (natives_of e) k ≡ Some r = subst (λ c. slice_get (natives_of c) k ≡ Some r) same at in
    ap (slice_get (natives_of e ++ flat_map natives_of ds)) (let z : 0 + k ≡ k = omega arith in z) ∙ slice_get-front (natives_of e) (flat_map natives_of ds) k r here
number_at (e ∷ ds) (suc p) d k r h at =
    ap (slice_get (natives_of e ++ flat_map natives_of ds)) (let z : (length (natives_of e) + start ds p) + k ≡ length (natives_of e) + (start ds p + k) = omega arith in z)
    ∙ slice_get-after (natives_of e) (flat_map natives_of ds) (start ds p + k) ∙ number_at ds p d k r h at

pub record Stands (ds : List ClassDeclaration) (r : Reference) : Type 0 where
  pub place : ℕ
  pub class : ClassDeclaration
  pub within : ℕ
  pub class_at : slice_get ds place ≡ Some class
  pub at : slice_get (natives_of class) within ≡ Some r

pub stands : (ds : List ClassDeclaration) (n : ℕ) (r : Reference) → slice_get (flat_map natives_of ds) n ≡ Some r → Stands ds r
stands [] n r h = absurd cc
stands (d ∷ ds) n r h = by_place (slice_get (natives_of d) n) refl (λ e. stands ds (n - length (natives_of d)) r e)
  where
    by_place : (o : Option Reference) → slice_get (natives_of d) n ≡ o
        → (slice_get (flat_map natives_of ds) (n - length (natives_of d)) ≡ Some r → Stands ds r) → Stands (d ∷ ds) r
    by_place (Some x) is later =
        let front = slice_get-front (natives_of d) (flat_map natives_of ds) n x is in
        let same : Some x ≡ Some r = sym front ∙ h in
        record { place = zero; class = d; within = n; class_at = refl; at = is ∙ same }
    by_place None is later =
        let rest = later (sym (slice_get-behind (natives_of d) (flat_map natives_of ds) n is) ∙ h) in
        record { place = suc rest.place; class = rest.class; within = rest.within; class_at = rest.class_at; at = rest.at }

-- where so many native methods stand before the first class, all numbers fit into two bytes
abbrev pub fits_from : ℕ → List ClassDeclaration → Bool
fits_from n [] = true
fits_from n (d ∷ ds) = nat_lt (n + length d.methods) 65536 && fits_from (n + length (natives_of d)) ds

pub fit_at : (n : ℕ) (ds : List ClassDeclaration) (p s : ℕ) (d : ClassDeclaration) → fits_from n ds ≡ true → slice_get ds p ≡ Some d → slice_get (starts_from n ds) p ≡ Some s
    → s + length d.methods < 65536
fit_at n [] p s d h at start_is = absurd cc
fit_at n (e ∷ ds) zero s d h at start_is =
    let parts = and_parts (nat_lt (n + length e.methods) 65536) (fits_from (n + length (natives_of e)) ds) h in
    let same : d ≡ e = cc in
    let first : s ≡ n = cc in
    let below : n + length e.methods < 65536 = ltb-true _ _ parts.0 in
    rw (same, first) below
fit_at n (e ∷ ds) (suc p) s d h at start_is =
    let parts = and_parts (nat_lt (n + length e.methods) 65536) (fits_from (n + length (natives_of e)) ds) h in
    fit_at (n + length (natives_of e)) ds p s d parts.1 at start_is
