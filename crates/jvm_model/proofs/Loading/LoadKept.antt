-- What is kept by one more class holds of all that a name loads (JVM Specification 5.3). So what is loaded stays, and
-- what is being loaded is not loaded.
use Rattle.std.proofs.Common.{◌≡◌, ℕ, zero, suc, ◌+◌, Bool, true, false, List, [], ◌∷◌, ◌++◌, ap, sym, refl, ◌∙◌, eqb-true, arith}
use Rattle.std.proofs.lemmas.Bool.{false≢true}
use Rattle.std.specs.Prelude.{Option, Some, None, ◌==◌, ◌||◌, if◌then◌else◌}
use Rattle.jvm_model.specs.Basis.Data.{Program}
use Rattle.jvm_model.specs.Classes.Kinds.{Element, Primitive, Named, meaning_of}
use Rattle.jvm_model.specs.Classes.Load.{Fault, Loading, Need, There, Begun, Fresh as Unloaded, behind_needs, by_load_state, loading_done, is_among, load_element, load_named, load_needs, need_fault, needs_of, load_state_of, unless}
use Rattle.jvm_model.specs.Basis.Programs.{class_named}
use Rattle.jvm_model.proofs.Loading.Among.{among-append, among-front}

-- ---- what holds of the loaded classes and is kept by one more that is not on the path holds at the end

module _ (p : Program) (P : List ℕ → Type 0) (first : List ℕ)
    (one_more : (loaded : List ℕ) (class : ℕ) → is_among class first ≡ false → P loaded → P (loaded ++ class ∷ [])) where
  unless_kept : (o : Option Fault) (loaded : List ℕ) (next : List ℕ → Loading) → P loaded → ((l : List ℕ) → P l → P (next l).loaded)
      → P (unless o loaded next).loaded
  unless_kept None loaded next h k = k loaded h
  unless_kept (Some fault) loaded next h k = h

  pub needs_kept : (load : List ℕ → List ℕ → Loading) → ((name loaded : List ℕ) → P loaded → P (load name loaded).loaded)
      → (needs : List Need) (loaded : List ℕ) → P loaded → P (load_needs p load needs loaded).loaded
  needs_kept load k [] loaded h = h
  needs_kept load k (n ∷ rest) loaded h =
      unless_kept (load n.name loaded).fault (load n.name loaded).loaded (λ after. unless (need_fault p n) after (load_needs p load rest)) (k n.name loaded h)
      (λ l g. unless_kept (need_fault p n) l (load_needs p load rest) g (needs_kept load k rest))

  behind_kept : (class : ℕ) (l : Loading) → is_among class first ≡ false → P l.loaded → P (behind_needs class l).loaded
  behind_kept class l other h = unless_kept l.fault l.loaded (λ loaded. loading_done (loaded ++ class ∷ [])) h (λ loaded g. one_more loaded class other g)

  class_kept : (path name loaded : List ℕ) (fresh : ℕ → Loading) (o : Option ℕ) → P loaded
      → ((class : ℕ) → is_among class path ≡ false → P (fresh class).loaded)
      → P (by_load_state (load_state_of path loaded o) name loaded fresh).loaded
  class_kept path name loaded fresh None h k = h
  class_kept path name loaded fresh (Some class) h k = by (is_among class loaded) (is_among class path) refl
    where
      by : (a b : Bool) → is_among class path ≡ b
          → P (by_load_state (if a then There else if b then Begun else Unloaded class) name loaded fresh).loaded
      by true b e = h
      by false true e = h
      by false false e = k class e

  element_kept : (loaded : List ℕ) (load : List ℕ → Loading) (e : Element) → P loaded → ((name : List ℕ) → P (load name).loaded)
      → P (load_element e loaded load).loaded
  element_kept loaded load (Primitive code) h k = h
  element_kept loaded load (Named name) h k = k name

  longer : (path : List ℕ) (class : ℕ) → ((c : ℕ) → is_among c path ≡ false → is_among c first ≡ false)
      → (c : ℕ) → is_among c (path ++ class ∷ []) ≡ false → is_among c first ≡ false
  longer path class begins c out = begins c (by (is_among c path) refl)
    where
      by : (b : Bool) → is_among c path ≡ b → is_among c path ≡ false
      by false e = e
      by true e = absurd (false≢true (sym out ∙ among-front c path (class ∷ []) e))

  -- the path has the first classes
  pub named_kept : (depth : ℕ) (path : List ℕ) → ((c : ℕ) → is_among c path ≡ false → is_among c first ≡ false)
      → (name loaded : List ℕ) → P loaded → P (load_named p depth path name loaded).loaded
  named_kept zero path begins name loaded h = h
  named_kept (suc n) path begins name loaded h =
      let within : ℕ → List ℕ → List ℕ → Loading = λ class. load_named p n (path ++ class ∷ []) in
      let fresh : ℕ → Loading = λ class. behind_needs class (load_needs p (within class) (needs_of p class) loaded) in
      element_kept loaded (λ class_name. by_load_state (load_state_of path loaded (class_named p class_name)) class_name loaded fresh) (meaning_of name).element h
      (λ class_name. class_kept path class_name loaded fresh (class_named p class_name) h
      (λ class out. behind_kept class (load_needs p (within class) (needs_of p class) loaded) (begins class out)
      (needs_kept (within class) (named_kept n (path ++ class ∷ []) (longer path class begins)) (needs_of p class) loaded h)))

-- ---- what is loaded stays, and what is being loaded is not loaded

module _ (p : Program) (c : ℕ) where
  named_stays : (depth : ℕ) (path name loaded : List ℕ) → is_among c loaded ≡ true → is_among c (load_named p depth path name loaded).loaded ≡ true
  named_stays depth path name loaded h =
      named_kept p (λ l. is_among c l ≡ true) [] (λ l class out g. among-front c l (class ∷ []) g) depth path (λ class out. refl) name loaded h

  pub needs_stay : (depth : ℕ) (path : List ℕ) (needs : List Need) (loaded : List ℕ) → is_among c loaded ≡ true
      → is_among c (load_needs p (load_named p depth path) needs loaded).loaded ≡ true
  needs_stay depth path needs loaded h =
      needs_kept p (λ l. is_among c l ≡ true) [] (λ l class out g. among-front c l (class ∷ []) g) (load_named p depth path) (named_stays depth path) needs loaded h

  -- one more that is not the class
  not_more : (l : List ℕ) (class : ℕ) → is_among class (c ∷ []) ≡ false → is_among c l ≡ false → is_among c (l ++ class ∷ []) ≡ false
  not_more l class other g = among-append c l (class ∷ []) ∙ (ap (λ b. b || ((c == class) || false)) g ∙ ap (λ b. b || false) (apart (class == c) refl other))
    where
      apart : (b : Bool) → (class == c) ≡ b → (b || false) ≡ false → (c == class) ≡ false
      apart true e h = absurd (false≢true (sym h))
      apart false e h = grind (arith)

  on_path : (path : List ℕ) → is_among c path ≡ true → (class : ℕ) → is_among class path ≡ false → is_among class (c ∷ []) ≡ false
  on_path path has class out = by (class == c) refl
    where
      by : (b : Bool) → (class == c) ≡ b → (b || false) ≡ false
      by true e = absurd (false≢true (sym out ∙ (ap (λ k. is_among k path) (eqb-true class c e) ∙ has)))
      by false e = refl

  pub not_loaded : (depth : ℕ) (path : List ℕ) (needs : List Need) (loaded : List ℕ) → is_among c path ≡ true → is_among c loaded ≡ false
      → is_among c (load_needs p (load_named p depth path) needs loaded).loaded ≡ false
  not_loaded depth path needs loaded has h =
      needs_kept p (λ l. is_among c l ≡ false) (c ∷ []) not_more (load_named p depth path)
      (named_kept p (λ l. is_among c l ≡ false) (c ∷ []) not_more depth path (on_path path has)) needs loaded h
