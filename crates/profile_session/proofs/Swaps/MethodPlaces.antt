-- Where methods stand: each place has its own number, and is within its class.
use Rattle.std.proofs.Common.{◌≡◌, ℕ, zero, suc, ◌+◌, ◌<◌, ◌≤◌, Bool, true, false, ◌&&◌, ◌==◌, List, [], ◌∷◌, ◌++◌, length, Option, Some, None, slice_get, if◌then◌else◌, refl, sym, ap, ap₂, subst, ◌∙◌, arith, zero-add, ◌⊎◌, inl, inr}
use Rattle.std.specs.Prelude.{is_some, unwrap_or}
use Rattle.std.proofs.lemmas.Bool.{and_parts, eq-eqb, eqb-true, ne_eqb}
use Rattle.std.proofs.Math.Bool.{and-false}
use Rattle.const_pool.specs.declared.class.ClassFile.{ClassFile}
use Rattle.const_pool.specs.declared.class.Member.{Member}
use Rattle.jvm_model.specs.declared.program.MethodPlace.{MethodPlace}
use Rattle.jvm_model.specs.declared.program.Program.{Program}
use Rattle.jvm_model.specs.Basis.Methods.{code_of}
use Rattle.jvm_model.specs.Basis.Programs.{coded_from, no_class, number_from, number_of_method, methods_numbered, numbered_from, same_place}
use Rattle.profile_session.specs.Images.{class_in}

abbrev place_at : ℕ → ℕ → MethodPlace
place_at class at = record { class = class; position = at }

-- ---- places rise

-- a place at or behind this one
data IsFrom (c k : ℕ) (x : MethodPlace) : Type 0 where
  class_behind : c < x.class → IsFrom c k x
  behind : x.class ≡ c → k ≤ x.position → IsFrom c k x

abbrev AreRising : ℕ → ℕ → List MethodPlace → Type 0
AreRising c k [] = Unit {0}
AreRising c k (x ∷ rest) = IsFrom c k x × AreRising x.class (x.position + 1) rest

from-less : (c k : ℕ) (x : MethodPlace) → IsFrom c (k + 1) x → IsFrom c k x
from-less c k x (class_behind h) = class_behind h
from-less c k x (behind e h) = behind e (omega (arith, h))

rising-less : (c k : ℕ) (l : List MethodPlace) → AreRising c (k + 1) l → AreRising c k l
rising-less c k [] are = tt
rising-less c k (x ∷ rest) are = (from-less c k x are.0, are.1)

next-less : (c k : ℕ) (x : MethodPlace) → IsFrom (c + 1) 0 x → IsFrom c k x
next-less c k x (class_behind h) = class_behind (omega (arith, h))
next-less c k x (behind e h) = class_behind (omega (arith, e))

rising-next : (c k : ℕ) (l : List MethodPlace) → AreRising (c + 1) 0 l → AreRising c k l
rising-next c k [] are = tt
rising-next c k (x ∷ rest) are = (next-less c k x are.0, are.1)

rising-coded : (c k : ℕ) (ms : List Member) (rest : List MethodPlace) → AreRising (c + 1) 0 rest → AreRising c k (coded_from c k ms ++ rest)
rising-coded c k [] rest are = rising-next c k rest are
rising-coded c k (m ∷ ms) rest are = by (is_some (code_of m)) (rising-coded c (k + 1) ms rest are) where
  by : (b : Bool) → AreRising c (k + 1) (coded_from c (k + 1) ms ++ rest)
      → AreRising c k ((let l : List MethodPlace = if b then place_at c k ∷ coded_from c (k + 1) ms else coded_from c (k + 1) ms in l) ++ rest)
  by true h = (behind refl (omega arith), h)
  by false h = rising-less c k (coded_from c (k + 1) ms ++ rest) h

rising-numbered : (c : ℕ) (cs : List ClassFile) → AreRising c 0 (numbered_from c cs)
rising-numbered c [] = tt
rising-numbered c (x ∷ cs) = rising-coded c 0 x.methods (numbered_from (c + 1) cs) (rising-numbered (c + 1) cs)

-- ---- each has its own number

is-other : (y x : MethodPlace) → IsFrom y.class (y.position + 1) x → same_place x.class x.position y ≡ false
is-other y x (class_behind h) = ap (λ b. b && y.position == x.position) (ne_eqb y.class x.class (λ e. omega (arith, e, h)))
is-other y x (behind e h) =
    ap (λ b. (y.class == x.class) && b) (ne_eqb y.position x.position (λ q. omega (arith, q, h))) ∙ and-false (y.class == x.class)

from-through : (c k : ℕ) (y x : MethodPlace) → IsFrom c k y → IsFrom y.class (y.position + 1) x → IsFrom c k x
from-through c k y x (class_behind h) (class_behind g) = class_behind (omega (arith, h, g))
from-through c k y x (class_behind h) (behind e g) = class_behind (omega (arith, h, e))
from-through c k y x (behind e h) (class_behind g) = class_behind (omega (arith, e, g))
from-through c k y x (behind e h) (behind f g) = behind (f ∙ e) (omega (arith, h, g))

found-from : (c k : ℕ) (l : List MethodPlace) (i : ℕ) (x : MethodPlace) → AreRising c k l → slice_get l i ≡ Some x → IsFrom c k x
found-from c k [] i x are found = absurd (let no : None ≡ Some x = found in cc)
found-from c k (y ∷ rest) zero x are found = subst (IsFrom c k) (let one : Some y ≡ Some x → y ≡ x = λ e. cc in one found) are.0
found-from c k (y ∷ rest) (suc i) x are found = from-through c k y x are.0 (found-from y.class (y.position + 1) rest i x are.1 found)

same-here : (x : MethodPlace) → same_place x.class x.position x ≡ true
same-here x = ap₂ (λ a b. a && b) (eq-eqb x.class x.class refl) (eq-eqb x.position x.position refl)

numbers-back : (n c k : ℕ) (l : List MethodPlace) (i : ℕ) (x : MethodPlace) → AreRising c k l → slice_get l i ≡ Some x → number_from n x.class x.position l ≡ Some (n + i)
numbers-back n c k [] i x are found = absurd (let no : None ≡ Some x = found in cc)
numbers-back n c k (y ∷ rest) zero x are found =
    let one : y ≡ x = (let inj : Some y ≡ Some x → y ≡ x = λ e. cc in inj found) in
    ap (λ b. let o : Option ℕ = if b then Some n else number_from (n + 1) x.class x.position rest in o) (ap (same_place x.class x.position) one ∙ same-here x)
    ∙ (let e : n ≡ n + 0 = omega arith in ap (λ k. let o : Option ℕ = Some k in o) e)
numbers-back n c k (y ∷ rest) (suc i) x are found =
    ap (λ b. let o : Option ℕ = if b then Some n else number_from (n + 1) x.class x.position rest in o)
    (is-other y x (found-from y.class (y.position + 1) rest i x are.1 found))
    ∙ (numbers-back (n + 1) y.class (y.position + 1) rest i x are.1 found ∙ (let e : n + 1 + i ≡ n + suc i = omega arith in ap (λ k. let o : Option ℕ = Some k in o) e))

pub number-back : (p : Program) → p.methods ≡ methods_numbered p.classes → (i : ℕ) (x : MethodPlace) → slice_get p.methods i ≡ Some x
    → number_of_method p x.class x.position ≡ Some i
number-back p are i x found =
    ap (number_from 0 x.class x.position) are
    ∙ (numbers-back 0 0 0 (methods_numbered p.classes) i x (rising-numbered 0 p.classes) (ap (λ l. slice_get l i) (sym are) ∙ found)
    ∙ ap (λ k. let o : Option ℕ = Some k in o) (zero-add i))

-- ---- and is within its class

pub record IsIn (cs : List ClassFile) (at : ℕ) (position : ℕ) : Type 0 where
  pub class : ClassFile
  pub found : slice_get cs at ≡ Some class
  pub member : Member
  pub there : slice_get class.methods position ≡ Some member
  pub coded : is_some (code_of member) ≡ true
  pub within : position < length class.methods

-- among the methods of a class, from this position on
record IsMember (ms : List Member) (k position : ℕ) : Type 0 where
  j : ℕ
  at : position ≡ k + j
  member : Member
  there : slice_get ms j ≡ Some member
  coded : is_some (code_of member) ≡ true
  within : j < length ms

member-next : (m : Member) (ms : List Member) (k position : ℕ) → IsMember ms (k + 1) position → IsMember (m ∷ ms) k position
member-next m ms k position is = record {
  j = suc is.j;
  at = (let e = is.at in omega (arith, e));
  member = is.member;
  there = is.there;
  coded = is.coded;
  within = (let h = is.within in omega (arith, h));
}

-- a place among those of one class, or behind them
abbrev IsAmong : ℕ → ℕ → List Member → List MethodPlace → MethodPlace → Type 0
IsAmong c k ms rest x = ((x.class ≡ c) × IsMember ms k x.position) ⊎ ((j : ℕ) × (slice_get rest j ≡ Some x))

in-coded : (c k : ℕ) (ms : List Member) (rest : List MethodPlace) (i : ℕ) (x : MethodPlace) → slice_get (coded_from c k ms ++ rest) i ≡ Some x → IsAmong c k ms rest x
in-coded c k [] rest i x found = inr (i, found)
in-coded c k (m ∷ ms) rest i x found = by (is_some (code_of m)) refl (λ i found. later (in-coded c (k + 1) ms rest i x found)) i found where
  later : IsAmong c (k + 1) ms rest x → IsAmong c k (m ∷ ms) rest x
  later h = elim h [ inl here ↦ inl (here.0, member-next m ms k x.position here.1) | inr there ↦ inr there ]

  by : (b : Bool) → is_some (code_of m) ≡ b → ((i : ℕ) → slice_get (coded_from c (k + 1) ms ++ rest) i ≡ Some x → IsAmong c k (m ∷ ms) rest x) → (i : ℕ)
      → slice_get ((let l : List MethodPlace = if b then place_at c k ∷ coded_from c (k + 1) ms else coded_from c (k + 1) ms in l) ++ rest) i ≡ Some x → IsAmong c k (m ∷ ms) rest x
  by true has others zero found =
      let one : place_at c k ≡ x = (let inj : Some (place_at c k) ≡ Some x → place_at c k ≡ x = λ e. cc in inj found) in
      let at : k ≡ x.position = ap (λ (y : MethodPlace). y.position) one in
      inl (sym (ap (λ (y : MethodPlace). y.class) one), record { j = 0; at = omega (arith, at); member = m; there = refl; coded = has; within = omega arith })
  by true has others (suc i) found = others i found
  by false has others i found = others i found

record IsNumbered (c : ℕ) (cs : List ClassFile) (x : MethodPlace) : Type 0 where
  at : ℕ
  class_is : x.class ≡ c + at
  is : IsIn cs at x.position

in-numbered : (c : ℕ) (cs : List ClassFile) (i : ℕ) (x : MethodPlace) → slice_get (numbered_from c cs) i ≡ Some x → IsNumbered c cs x
in-numbered c [] i x found = absurd (let no : None ≡ Some x = found in cc)
in-numbered c (y ∷ cs) i x found =
    elim (in-coded c 0 y.methods (numbered_from (c + 1) cs) i x found) [
      | inl here ↦ first here.0 here.1
      | inr there ↦ later (in-numbered (c + 1) cs there.0 x there.1)
    ]
  where
    first : x.class ≡ c → IsMember y.methods 0 x.position → IsNumbered c (y ∷ cs) x
    first e is =
        let same : x.position ≡ is.j = is.at ∙ zero-add is.j in
        record {
          at = 0;
          class_is = (let q : c ≡ c + 0 = omega arith in e ∙ q);
          is = record {
            class = y;
            found = refl;
            member = is.member;
            there = ap (slice_get y.methods) same ∙ is.there;
            coded = is.coded;
            within = (let h = is.within in omega (arith, same, h));
          };
        }

    later : IsNumbered (c + 1) cs x → IsNumbered c (y ∷ cs) x
    later n = record {
      at = suc n.at;
      class_is = (let h = n.class_is in omega (arith, h));
      is = record { class = n.is.class; found = n.is.found; member = n.is.member; there = n.is.there; coded = n.is.coded; within = n.is.within };
    }

pub class-of : (p : Program) → p.methods ≡ methods_numbered p.classes → (i : ℕ) (x : MethodPlace) → slice_get p.methods i ≡ Some x → IsIn p.classes x.class x.position
class-of p are i x found =
    let there = in-numbered 0 p.classes i x (ap (λ l. slice_get l i) (sym are) ∙ found) in
    subst (λ at. IsIn p.classes at x.position) (sym (there.class_is ∙ zero-add there.at)) there.is

pub within-class : (p : Program) → p.methods ≡ methods_numbered p.classes → (i : ℕ) (x : MethodPlace) → slice_get p.methods i ≡ Some x → x.position < length (class_in p x.class).methods
within-class p are i x found =
    let is = class-of p are i x found in
    subst (λ (o : Option ClassFile). x.position < length (unwrap_or o no_class).methods) (sym is.found) is.within

-- ---- a method that has a number has Code

place-found : (n class at : ℕ) (places : List MethodPlace) (k : ℕ) → number_from n class at places ≡ Some k → (i : ℕ) × (slice_get places i ≡ Some (place_at class at))
place-found n class at [] k found = absurd (let no : None ≡ Some k = found in cc)
place-found n class at (x ∷ rest) k found = by (same_place class at x) refl (λ found. next (place-found (n + 1) class at rest k found)) found where
  next : (i : ℕ) × (slice_get rest i ≡ Some (place_at class at)) → (i : ℕ) × (slice_get (x ∷ rest) i ≡ Some (place_at class at))
  next h = (suc h.0, h.1)

  by : (b : Bool) → same_place class at x ≡ b → (number_from (n + 1) class at rest ≡ Some k → (i : ℕ) × (slice_get (x ∷ rest) i ≡ Some (place_at class at)))
      → (let o : Option ℕ = if b then Some n else number_from (n + 1) class at rest in o) ≡ Some k → (i : ℕ) × (slice_get (x ∷ rest) i ≡ Some (place_at class at))
  by true e later found =
      let parts = and_parts (x.class == class) (x.position == at) e in
      let same : x ≡ place_at class at = ap₂ place_at (eqb-true x.class class parts.0) (eqb-true x.position at parts.1) in
      (0, ap (λ (y : MethodPlace). let o : Option MethodPlace = Some y in o) same)
  by false e later found = later found

pub number-coded : (p : Program) → p.methods ≡ methods_numbered p.classes → (class at k : ℕ) (m : Member) → number_of_method p class at ≡ Some k → slice_get (class_in p class).methods at ≡ Some m
    → is_some (code_of m) ≡ true
number-coded p are class at k m methods_numbered there =
    let place = place-found 0 class at p.methods k methods_numbered in
    let is = class-of p are place.0 (place_at class at) place.1 in
    let same : Some m ≡ Some is.member =
    sym there ∙ (ap (λ (o : Option ClassFile). slice_get (unwrap_or o no_class).methods at) is.found ∙ is.there) in
    let one : m ≡ is.member = (let inj : Some m ≡ Some is.member → m ≡ is.member = λ e. cc in inj same) in
    ap (λ (m : Member). is_some (code_of m)) one ∙ is.coded
