-- The methods of a program are numbered in the order of their places: each place has one number, and a class with Code
-- there.
use Rattle.std.proofs.Common.{◌≡◌, ◌<◌, ◌≤◌, ◌+◌, ℕ, zero, suc, Bool, true, false, List, [], ◌∷◌, ◌++◌, Option, Some, None, refl, sym, ap, subst, ◌∙◌, inl, inr, ◌⊎◌, arith}
use Rattle.std.specs.Prelude.{is_some, slice_get, ◌==◌, ◌&&◌, if◌then◌else◌}
use Rattle.std.specs.List.{AllByRecursion}
use Rattle.std.specs.Option.{option_and_then}
use Rattle.std.proofs.lemmas.Bool.{eq-eqb, ne_eqb}
use Rattle.std.proofs.lemmas.Option.{none-some, same_Some}
use Rattle.jf_bytes.proofs.Lists.{each_at, each_append, each_weaker}
use Rattle.const_pool.specs.declared.class.ClassFile.{ClassFile}
use Rattle.const_pool.specs.declared.class.CodeAttribute.{CodeAttribute}
use Rattle.const_pool.specs.declared.class.Member.{Member}
use Rattle.jvm_model.specs.declared.program.MethodPlace.{MethodPlace}
use Rattle.jvm_model.specs.declared.program.Program.{Program}
use Rattle.jvm_model.specs.Basis.Methods.{code_of, method_code}
use Rattle.jvm_model.specs.Basis.Programs.{class_at, coded_from, number_from, number_of_method, methods_numbered, numbered_from, place_of_method, same_place}

-- ---- places rise

-- one place stands in front of another
abbrev Before : MethodPlace → MethodPlace → Type 0
Before x y = (x.class < y.class) ⊎ ((x.class ≡ y.class) × (x.position < y.position))

abbrev AreRising : List MethodPlace → Type 0
AreRising [] = Unit {0}
AreRising (x ∷ xs) = AllByRecursion (Before x) xs × AreRising xs

apart : (x : MethodPlace) (class at : ℕ) → Before x (record { class = class; position = at }) → same_place class at x ≡ false
apart x class at (inl less) = ap (λ b. b && x.position == at) (ne_eqb x.class class (λ same. absurd (omega (arith, less, same))))
apart x class at (inr (same, less)) =
    ap (λ b. b && x.position == at) (eq-eqb x.class class same) ∙ ne_eqb x.position at (λ equal. absurd (omega (arith, less, equal)))

number-rising : (n class at : ℕ) (places : List MethodPlace) (k : ℕ) → AreRising places → slice_get places k ≡ Some (record { class = class; position = at }) → number_from n class at places ≡ Some (n + k)
number-rising n class at [] k rising found = absurd (none-some (let q : MethodPlace = record { class = class; position = at } in q) found)
number-rising n class at (x ∷ xs) zero rising found =
    let here : x ≡ record { class = class; position = at } = same_Some x (let q : MethodPlace = record { class = class; position = at } in q) found in
    let same : same_place class at x ≡ true =
    ap (same_place class at) here ∙ (ap (λ b. b && at == at) (eq-eqb class class refl) ∙ eq-eqb at at refl) in
    let none : n ≡ n + 0 = omega arith in
    ap (λ b. if b then Some n else number_from (n + 1) class at xs) same ∙ ap (λ k. let o : Option ℕ = Some k in o) none
number-rising n class at (x ∷ xs) (suc k) rising found =
    let other : same_place class at x ≡ false = apart x class at (each_at (Before x) xs k (let q : MethodPlace = record { class = class; position = at } in q) rising.0 found) in
    let more : n + 1 + k ≡ n + suc k = omega arith in
    ap (λ b. if b then Some n else number_from (n + 1) class at xs) other
    ∙ (number-rising (n + 1) class at xs k rising.1 found ∙ ap (λ k. let o : Option ℕ = Some k in o) more)

rising-append : (xs ys : List MethodPlace) → AreRising xs → AreRising ys → AllByRecursion (λ x. AllByRecursion (Before x) ys) xs → AreRising (xs ++ ys)
rising-append [] ys front back between = back
rising-append (x ∷ xs) ys front back between = (each_append (Before x) xs ys front.0 between.0, rising-append xs ys front.1 back between.1)

-- ---- of a class

abbrev IsFrom : ℕ → ℕ → MethodPlace → Type 0
IsFrom class at place = (place.class ≡ class) × (at ≤ place.position)

abbrev IsBehind : ℕ → MethodPlace → Type 0
IsBehind class place = class ≤ place.class

coded-from : (class at : ℕ) (ms : List Member) → AllByRecursion (IsFrom class at) (coded_from class at ms)
coded-from class at [] = tt
coded-from class at (m ∷ rest) =
    by (is_some (code_of m))
    (each_weaker (IsFrom class (at + 1)) (IsFrom class at) (coded_from class (at + 1) rest) (λ place is. let le : at + 1 ≤ place.position = is.1 in (is.0, omega (arith, le))) (coded-from class (at + 1) rest))
  where
    by : (b : Bool) → AllByRecursion (IsFrom class at) (coded_from class (at + 1) rest)
        → AllByRecursion (IsFrom class at) (if b then record { class = class; position = at } ∷ coded_from class (at + 1) rest else coded_from class (at + 1) rest)
    by true later = ((refl, omega arith), later)
    by false later = later

coded-rising : (class at : ℕ) (ms : List Member) → AreRising (coded_from class at ms)
coded-rising class at [] = tt
coded-rising class at (m ∷ rest) = by (is_some (code_of m)) (coded-rising class (at + 1) rest) where
  here : MethodPlace
  here = record { class = class; position = at }

  in-front : AllByRecursion (Before here) (coded_from class (at + 1) rest)
  in-front = each_weaker (IsFrom class (at + 1)) (Before here) (coded_from class (at + 1) rest) (λ place is. let le : at + 1 ≤ place.position = is.1 in inr (sym is.0, omega (arith, le))) (coded-from class (at + 1) rest)

  by : (b : Bool) → AreRising (coded_from class (at + 1) rest)
      → AreRising (if b then record { class = class; position = at } ∷ coded_from class (at + 1) rest else coded_from class (at + 1) rest)
  by true later = (in-front, later)
  by false later = later

-- ---- of all classes

numbered-behind : (class : ℕ) (cs : List ClassFile) → AllByRecursion (IsBehind class) (numbered_from class cs)
numbered-behind class [] = tt
numbered-behind class (c ∷ rest) =
    each_append (IsBehind class) (coded_from class 0 c.methods) (numbered_from (class + 1) rest)
    (each_weaker (IsFrom class 0) (IsBehind class) (coded_from class 0 c.methods) (λ place is. behind place is) (coded-from class 0 c.methods))
    (each_weaker (IsBehind (class + 1)) (IsBehind class) (numbered_from (class + 1) rest) (λ place is. further place is) (numbered-behind (class + 1) rest))
  where
    behind : (place : MethodPlace) → IsFrom class 0 place → IsBehind class place
    behind place is = let same : place.class ≡ class = is.0 in omega (arith, same)

    further : (place : MethodPlace) → IsBehind (class + 1) place → IsBehind class place
    further place is = let le : class + 1 ≤ place.class = is in omega (arith, le)

numbered-rising : (class : ℕ) (cs : List ClassFile) → AreRising (numbered_from class cs)
numbered-rising class [] = tt
numbered-rising class (c ∷ rest) =
    rising-append (coded_from class 0 c.methods) (numbered_from (class + 1) rest) (coded-rising class 0 c.methods) (numbered-rising (class + 1) rest)
    (each_weaker (IsFrom class 0) (λ x. AllByRecursion (Before x) (numbered_from (class + 1) rest)) (coded_from class 0 c.methods) (λ x is. in-front x is) (coded-from class 0 c.methods))
  where
    less : (x place : MethodPlace) → IsFrom class 0 x → IsBehind (class + 1) place → Before x place
    less x place is behind = let same : x.class ≡ class = is.0 in let le : class + 1 ≤ place.class = behind in inl (omega (arith, same, le))

    in-front : (x : MethodPlace) → IsFrom class 0 x → AllByRecursion (Before x) (numbered_from (class + 1) rest)
    in-front x is = each_weaker (IsBehind (class + 1)) (Before x) (numbered_from (class + 1) rest) (λ place behind. less x place is behind) (numbered-behind (class + 1) rest)

-- the number of a place
pub number-of : (p : Program) → p.methods ≡ methods_numbered p.classes → (k class at : ℕ) → place_of_method p k ≡ Some (record { class = class; position = at }) → number_of_method p class at ≡ Some k
number-of p methods k class at found =
    let zero_more : 0 + k ≡ k = omega arith in
    number-rising 0 class at p.methods k (subst AreRising (sym methods) (numbered-rising 0 p.classes)) found ∙ ap (λ n. let o : Option ℕ = Some n in o) zero_more

-- ---- a method with Code stands there

record HasMethod (n : ℕ) (cs : List ClassFile) (place : MethodPlace) : Type 0 where
  index : ℕ
  file : ClassFile
  code : CodeAttribute
  class_is : place.class ≡ n + index
  found : slice_get cs index ≡ Some file
  coded : method_code file place.position ≡ Some code

some-code : (o : Option CodeAttribute) → is_some o ≡ true → (code : CodeAttribute) × (o ≡ Some code)
some-code None e = absurd cc
some-code (Some code) e = (code, refl)

abbrev IsCoded : ℕ → ClassFile → MethodPlace → Type 0
IsCoded class c place = (place.class ≡ class) × ((code : CodeAttribute) × (method_code c place.position ≡ Some code))

coded-there : (class at : ℕ) (c : ClassFile) (ms : List Member) → ((k : ℕ) (m : Member) → slice_get ms k ≡ Some m → slice_get c.methods (at + k) ≡ Some m)
    → AllByRecursion (IsCoded class c) (coded_from class at ms)
coded-there class at c [] stand = tt
coded-there class at c (m ∷ rest) stand =
    by (is_some (code_of m)) refl
    (coded-there class (at + 1) c rest (λ k x found. let next : at + 1 + k ≡ at + suc k = omega arith in ap (slice_get c.methods) next ∙ stand (suc k) x found))
  where
    by : (b : Bool) → is_some (code_of m) ≡ b → AllByRecursion (IsCoded class c) (coded_from class (at + 1) rest)
        → AllByRecursion (IsCoded class c) (if b then record { class = class; position = at } ∷ coded_from class (at + 1) rest else coded_from class (at + 1) rest)
    by true is later =
        let code = some-code (code_of m) is in
        let here : at ≡ at + 0 = omega arith in
        ((refl, (code.0, ap (λ k. option_and_then code_of (slice_get c.methods k)) here ∙ (ap (option_and_then code_of) (stand 0 m refl) ∙ code.1))), later)
    by false is later = later

all-there : (n : ℕ) (cs : List ClassFile) → AllByRecursion (HasMethod n cs) (numbered_from n cs)
all-there n [] = tt
all-there n (c ∷ rest) =
    each_append (HasMethod n (c ∷ rest)) (coded_from n 0 c.methods) (numbered_from (n + 1) rest)
    (each_weaker (IsCoded n c) (HasMethod n (c ∷ rest)) (coded_from n 0 c.methods) (λ place is. first place is) (coded-there n 0 c c.methods (λ k m found. let same : 0 + k ≡ k = omega arith in ap (slice_get c.methods) same ∙ found)))
    (each_weaker (HasMethod (n + 1) rest) (HasMethod n (c ∷ rest)) (numbered_from (n + 1) rest) (λ place is. later place is) (all-there (n + 1) rest))
  where
    first : (place : MethodPlace) → IsCoded n c place → HasMethod n (c ∷ rest) place
    first place is = let same : place.class ≡ n = is.0 in record { index = 0; file = c; code = is.1.0; class_is = omega (arith, same); found = refl; coded = is.1.1 }

    later : (place : MethodPlace) → HasMethod (n + 1) rest place → HasMethod n (c ∷ rest) place
    later place is = let same : place.class ≡ n + 1 + is.index = is.class_is in record { index = suc is.index; file = is.file; code = is.code; class_is = omega (arith, same); found = is.found; coded = is.coded }

-- the method with a number has Code in its class
pub method-there : (p : Program) → p.methods ≡ methods_numbered p.classes → (k : ℕ) (place : MethodPlace) (c : ClassFile) → place_of_method p k ≡ Some place → class_at p place.class ≡ Some c
    → (code : CodeAttribute) × (method_code c place.position ≡ Some code)
method-there p methods k place c found there =
    let is = each_at (HasMethod 0 p.classes) (methods_numbered p.classes) k place (all-there 0 p.classes) (ap (λ (l : List MethodPlace). slice_get l k) (sym methods) ∙ found) in
    let zero_more : 0 + is.index ≡ is.index = omega arith in
    let same : is.file ≡ c = same_Some is.file c (sym is.found ∙ (ap (slice_get p.classes) (sym zero_more ∙ sym is.class_is) ∙ there)) in
    (is.code, ap (λ (x : ClassFile). method_code x place.position) (sym same) ∙ is.coded)
