-- Classes are loaded once, and behind what stands above them: in each list of loaded classes of a run (JVM
-- Specification 5.3).
use Rattle.std.proofs.Common.{◌≡◌, ℕ, zero, suc, ◌+◌, ◌<◌, ◌≤◌, Bool, true, false, List, [], ◌∷◌, ◌++◌, length, ap, sym, subst, refl, ◌∙◌, arith}
use Rattle.std.proofs.lemmas.Bool.{ne_eqb, false≢true}
use Rattle.std.proofs.lemmas.List.{append-nil, append_assoc}
use Rattle.std.specs.Prelude.{Option, Some, None, ◌||◌, if◌then◌else◌}
use Rattle.std.specs.List.{AllByRecursion}
use Rattle.const_pool.specs.declared.class.ClassFile.{ClassFile}
use Rattle.jvm_model.specs.Basis.Data.{Program, World}
use Rattle.jvm_model.specs.Classes.Kinds.{Element, Primitive, Named, meaning_of}
use Rattle.jvm_model.specs.Classes.Load.{Fault, Loading, Need, There, Begun, Fresh as Unloaded, behind_needs, by_load_state, loading_done, is_among, load_element, load_named, load_needs, load_of, need_fault, needs_of, load_state_of, unless}
use Rattle.jvm_model.specs.Basis.Programs.{class_named, has_built_in_name}
use Rattle.jvm_model.specs.Profiling.Revelation.{IsLoadOrder}
use Rattle.jvm_model.specs.Running.Run.{before}
use Rattle.jvm_model.specs.Basis.SharedState.{built_in_from}
use Rattle.jvm_model.specs.Soundness.Sound.{HasSupertypes}
use Rattle.jvm_model.proofs.Soundness.Ranked.{AreInOrder}
use Rattle.jvm_model.proofs.Soundness.SoundClasses.{AreLoads, HasLoaded, named-load, needs-load, one-more}
use Rattle.jvm_model.proofs.Loading.Among.{among-last}
use Rattle.jvm_model.proofs.Loading.LoadKept.{not_loaded}

-- ---- what is kept by one more that is not loaded, behind what it needs

module _ (p : Program) (P : List ℕ → Type 0)
    (one_more : (loaded : List ℕ) (class : ℕ) → is_among class loaded ≡ false → AllByRecursion (HasLoaded p loaded) (needs_of p class) → P loaded
    → P (loaded ++ class ∷ [])) where
  behind_ordered : (class : ℕ) (l : Loading) → is_among class l.loaded ≡ false → (l.fault ≡ None → AllByRecursion (HasLoaded p l.loaded) (needs_of p class))
      → P l.loaded → P (behind_needs class l).loaded
  behind_ordered class l new needs h = by l.fault refl
    where
      by : (o : Option Fault) → l.fault ≡ o → P (unless o l.loaded (λ loaded. loading_done (loaded ++ class ∷ []))).loaded
      by None e = one_more l.loaded class new (needs e) h
      by (Some fault) e = h

  class_ordered : (path name loaded : List ℕ) (fresh : ℕ → Loading) (o : Option ℕ) → P loaded
      → ((class : ℕ) → is_among class loaded ≡ false → P (fresh class).loaded)
      → P (by_load_state (load_state_of path loaded o) name loaded fresh).loaded
  class_ordered path name loaded fresh None h k = h
  class_ordered path name loaded fresh (Some class) h k = by (is_among class loaded) (is_among class path) refl
    where
      by : (a b : Bool) → is_among class loaded ≡ a
          → P (by_load_state (if a then There else if b then Begun else Unloaded class) name loaded fresh).loaded
      by true b e = h
      by false true e = h
      by false false e = k class e

  needs_ordered : (load : List ℕ → List ℕ → Loading) → ((name loaded : List ℕ) → P loaded → P (load name loaded).loaded)
      → (needs : List Need) (loaded : List ℕ) → P loaded → P (load_needs p load needs loaded).loaded
  needs_ordered load k [] loaded h = h
  needs_ordered load k (n ∷ rest) loaded h =
      by (load n.name loaded).fault (need_fault p n) (k n.name loaded h) (needs_ordered load k rest (load n.name loaded).loaded)
    where
      by : (o q : Option Fault) → P (load n.name loaded).loaded → (P (load n.name loaded).loaded → P (load_needs p load rest (load n.name loaded).loaded).loaded)
          → P (unless o (load n.name loaded).loaded (λ after. unless q after (load_needs p load rest))).loaded
      by None None g more = more g
      by None (Some fault) g more = g
      by (Some fault) q g more = g

  element_ordered : (loaded : List ℕ) (load : List ℕ → Loading) (e : Element) → P loaded → ((name : List ℕ) → P (load name).loaded)
      → P (load_element e loaded load).loaded
  element_ordered loaded load (Primitive code) h k = h
  element_ordered loaded load (Named name) h k = k name

  named_ordered : (depth : ℕ) (path name loaded : List ℕ) → P loaded → P (load_named p depth path name loaded).loaded
  named_ordered zero path name loaded h = h
  named_ordered (suc n) path name loaded h =
      let within : ℕ → List ℕ → List ℕ → Loading = λ class. load_named p n (path ++ class ∷ []) in
      let all : ℕ → Loading = λ class. load_needs p (within class) (needs_of p class) loaded in
      let plain : (class : ℕ) → AreLoads p (λ l. Unit {0}) (needs_of p class) loaded (all class) =
      λ class. needs-load p (λ l. Unit {0}) (λ l c needs u. tt) (within class) (named-load p (λ l. Unit {0}) (λ l c needs u. tt) n (path ++ class ∷ [])) (needs_of p class) loaded in
      element_ordered loaded
      (λ class_name. by_load_state (load_state_of path loaded (class_named p class_name)) class_name loaded (λ class. behind_needs class (all class))) (meaning_of name).element h
      (λ class_name. class_ordered path class_name loaded (λ class. behind_needs class (all class)) (class_named p class_name) h
      (λ class new. behind_ordered class (all class)
      (not_loaded p class n (path ++ class ∷ []) (needs_of p class) loaded (among-last class path) new)
      (plain class).there
      (needs_ordered (within class) (named_ordered n (path ++ class ∷ [])) (needs_of p class) loaded h)))

-- ---- the order

order-above : (p : Program) (first rest all : List ℕ) → first ++ rest ≡ all → IsLoadOrder p first rest → HasSupertypes p all
order-above p first [] all is order = subst (HasSupertypes p) (sym (append-nil first) ∙ is) order
order-above p first (class ∷ rest) all is order = order-above p (first ++ class ∷ []) rest all (append_assoc first (class ∷ []) rest ∙ is) order.2

order-push : (p : Program) (first rest all : List ℕ) (class : ℕ) → first ++ rest ≡ all → is_among class all ≡ false → HasSupertypes p (all ++ class ∷ []) → IsLoadOrder p first rest
    → IsLoadOrder p first (rest ++ class ∷ [])
order-push p first [] all class is new above order =
    let same : all ≡ first = sym is ∙ append-nil first in
    (order, subst (λ l. is_among class l ≡ false) same new, subst (λ l. HasSupertypes p (l ++ class ∷ [])) same above)
order-push p first (c ∷ rest) all class is new above order =
    (order.0, order.1, order-push p (first ++ c ∷ []) rest all class (append_assoc first (c ∷ []) rest ∙ is) new above order.2)

-- one class more
pub order-more : (p : Program) (loaded : List ℕ) (class : ℕ) → is_among class loaded ≡ false → AllByRecursion (HasLoaded p loaded) (needs_of p class) → IsLoadOrder p [] loaded
    → IsLoadOrder p [] (loaded ++ class ∷ [])
order-more p loaded class new needs order =
    order-push p [] loaded loaded class refl new (one-more p loaded class needs (order-above p [] loaded loaded refl order)) order

-- and all that a name loads
pub load-order : (p : Program) (loaded name : List ℕ) → IsLoadOrder p [] loaded → IsLoadOrder p [] (load_of p loaded name).loaded
load-order p loaded name = named_ordered p (IsLoadOrder p []) (order-more p) (length p.classes + 1) [] name loaded

-- what is loaded behind a list comes in order behind it
pub order-behind : (p : Program) (first front rest : List ℕ) → IsLoadOrder p first (front ++ rest) → IsLoadOrder p (first ++ front) rest
order-behind p first [] rest order = subst (λ l. IsLoadOrder p l rest) (sym (append-nil first)) order
order-behind p first (class ∷ front) rest order =
    subst (λ l. IsLoadOrder p l rest) (append_assoc first (class ∷ []) front) (order-behind p (first ++ class ∷ []) front rest order.2)

-- ---- what is loaded before the start

-- each above the one before
abbrev Rising : ℕ → List ℕ → Type 0
Rising least [] = Unit {0}
Rising least (x ∷ xs) = (least ≤ x) × Rising (suc x) xs

rising-later : (less least : ℕ) (xs : List ℕ) → less ≤ least → Rising least xs → Rising less xs
rising-later less least [] le rising = tt
rising-later less least (x ∷ xs) le rising = (omega (arith, rising.0), rising.1)

built-in-rising : (at : ℕ) (cs : List ClassFile) → Rising at (built_in_from at cs)
built-in-rising at [] = tt
built-in-rising at (c ∷ rest) = by (has_built_in_name c) (built-in-rising (at + 1) rest)
  where
    by : (b : Bool) → Rising (at + 1) (built_in_from (at + 1) rest) → Rising at (if b then at ∷ built_in_from (at + 1) rest else built_in_from (at + 1) rest)
    by true h = (omega arith, rising-later (suc at) (at + 1) (built_in_from (at + 1) rest) (omega arith) h)
    by false h = rising-later at (at + 1) (built_in_from (at + 1) rest) (omega arith) h

above-all : (class : ℕ) (xs : List ℕ) → AllByRecursion (λ x. x < class) xs → is_among class xs ≡ false
above-all class [] below = refl
above-all class (x ∷ xs) below = ap (λ b. b || is_among class xs) (ne_eqb class x (λ same. omega (arith, same, below.0))) ∙ above-all class xs below.1

all-above : (least class : ℕ) (xs : List ℕ) → least ≤ class → AllByRecursion (λ x. x < least) xs → AllByRecursion (λ x. x < suc class) (xs ++ class ∷ [])
all-above least class [] le below = ((let less : class < suc class = omega arith in less), tt)
all-above least class (x ∷ xs) le below = (omega (arith, below.0), all-above least class xs le below.1)

all-less : (least class : ℕ) (xs : List ℕ) → least ≤ class → AllByRecursion (λ x. x < least) xs → AllByRecursion (λ x. x < class) xs
all-less least class [] le below = tt
all-less least class (x ∷ xs) le below = (omega (arith, below.0), all-less least class xs le below.1)

rising-order : (p : Program) (least : ℕ) (first rest : List ℕ) → AreInOrder p first rest → Rising least rest → AllByRecursion (λ x. x < least) first → HasSupertypes p first
    → IsLoadOrder p first rest
rising-order p least first [] order rising below above = above
rising-order p least first (class ∷ rest) order rising below above = (
  above,
  above-all class first (all-less least class first rising.0 below),
  rising-order p (suc class) (first ++ class ∷ []) rest order.1 rising.1 (all-above least class first rising.0 below) (one-more p first class order.0 above),
)

-- the built-in classes, where each of them stands behind what it needs
pub before-order : (w : World) → AreInOrder w.program [] (before w).shared.loaded → IsLoadOrder w.program [] (before w).shared.loaded
before-order w order =
    rising-order w.program 0 [] (before w).shared.loaded order (built-in-rising 0 w.program.classes) tt
    (record { superclass = λ c h. absurd (false≢true h); interfaces = λ c h. absurd (false≢true h) })
