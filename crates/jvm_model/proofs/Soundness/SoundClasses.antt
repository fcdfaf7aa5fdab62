-- Loading keeps the supertypes of what is loaded loaded, and walks go from a loaded class to loaded ones (JVM
-- Specification 5.3, 5.4.3).
use Rattle.std.proofs.Common.{◌≡◌, ℕ, zero, suc, Bool, true, false, List, [], ◌∷◌, ◌++◌, map, ap, sym, subst, refl, ◌∙◌}
use Rattle.std.specs.Prelude.{◌+◌, length, Option, Some, None, filter_map, flat_map, not, unwrap_or, ◌==◌, ◌||◌, ◌&&◌, if◌then◌else◌}
use Rattle.std.specs.Bool.{beq}
use Rattle.std.specs.List.{AllByRecursion, cons_option}
use Rattle.std.specs.Option.{option_and_then, option_map_or, option_to_list}
use Rattle.std.proofs.lemmas.Bool.{false≢true, eqb-true}
use Rattle.std.proofs.lemmas.Option.{same_Some, none-some}
use Rattle.const_pool.specs.declared.class.ClassFile.{ClassFile}
use Rattle.const_pool.specs.References.{named_class}
use Rattle.jvm_model.specs.Classes.Kinds.{Element, Primitive, Named, array_from, array_meaning, is_array_name, meaning_of}
use Rattle.jvm_model.specs.Classes.Load.{Fault, NoClass, Circular, Incompatible, Loading, Need, There, Begun, Fresh, behind_needs, by_load_state, class_needs, loading_done, is_among, is_met, load_element, load_named, load_needs, load_of, need, need_fault, needs_of, load_state_of, unless}
use Rattle.jvm_model.specs.Classes.Lookup.{interface_names, interfaces_of, is_interface, superclass_of, superclasses, superclasses_within, superinterfaces, superinterfaces_within, supertypes, supertypes_within}
use Rattle.jvm_model.specs.Basis.Programs.{class_at, class_named}
use Rattle.jvm_model.specs.Soundness.Sound.{HasSupertypes, IsLoaded}
use Rattle.jvm_model.specs.declared.program.Program.{Program}
use Rattle.jvm_model.proofs.Loading.Among.{among-front, among-last}

-- ---- what is among classes

-- one of the first, or the last one
pub among-either : (P : ℕ → Type 0) (last : ℕ) (xs : List ℕ) → ((c : ℕ) → is_among c xs ≡ true → P c) → P last → (c : ℕ) → is_among c (xs ++ last ∷ []) ≡ true → P c
among-either P last [] first is c e = by (c == last) refl e
  where
    by : (b : Bool) → (c == last) ≡ b → (b || false) ≡ true → P c
    by true same e = subst P (sym (eqb-true c last same)) is
    by false same e = absurd (false≢true e)
among-either P last (x ∷ xs) first is c e =
    by (c == x) refl e (among-either P last xs (λ d there. first d (behind d (d == x) there)) is c)
  where
    behind : (d : ℕ) (b : Bool) → is_among d xs ≡ true → (b || is_among d xs) ≡ true
    behind d true there = refl
    behind d false there = there

    by : (b : Bool) → (c == x) ≡ b → (b || is_among c (xs ++ last ∷ [])) ≡ true → (is_among c (xs ++ last ∷ []) ≡ true → P c) → P c
    by true same e rest = first c (ap (λ b. b || is_among c xs) same)
    by false same e rest = rest e

-- ---- all of a list

module _ {A : Type 0} (P Q : A → Type 0) (h : (x : A) → P x → Q x) where
  pub all-then : (xs : List A) → AllByRecursion P xs → AllByRecursion Q xs
  all-then [] each = tt
  all-then (x ∷ xs) each = (h x each.0, all-then xs each.1)

module _ {A : Type 0} (P : A → Type 0) where
  pub all-both : (xs ys : List A) → AllByRecursion P xs → AllByRecursion P ys → AllByRecursion P (xs ++ ys)
  all-both [] ys first rest = rest
  all-both (x ∷ xs) ys first rest = (first.0, all-both xs ys first.1 rest)

  pub all-split : (xs ys : List A) → AllByRecursion P (xs ++ ys) → AllByRecursion P xs × AllByRecursion P ys
  all-split [] ys each = (tt, each)
  all-split (x ∷ xs) ys each = let both = all-split xs ys each.1 in ((each.0, both.0), both.1)

  pub all-flat : (f : A → List A) → ((x : A) → P x → AllByRecursion P (f x)) → (xs : List A) → AllByRecursion P xs → AllByRecursion P (flat_map f xs)
  all-flat f h [] each = tt
  all-flat f h (x ∷ xs) each = all-both (f x) (flat_map f xs) (h x each.0) (all-flat f h xs each.1)

-- ---- loading

-- what a need names is loaded
abbrev pub HasLoaded : Program → List ℕ → Need → Type 0
HasLoaded p loaded n = (class : ℕ) → class_named p n.name ≡ Some class → IsLoaded loaded class

abbrev pub Grows : List ℕ → List ℕ → Type 0
Grows before after = (class : ℕ) → IsLoaded before class → IsLoaded after class

-- a class by its name, or an element's
pub record IsLoad (p : Program) (P : List ℕ → Type 0) (e : Element) (loaded : List ℕ) (l : Loading) : Type 0 where
  pub kept : P loaded → P l.loaded
  pub grown : Grows loaded l.loaded
  pub there : l.fault ≡ None → (name : List ℕ) → e ≡ Named name → (class : ℕ) → class_named p name ≡ Some class → IsLoaded l.loaded class

-- all that a class needs
pub record AreLoads (p : Program) (P : List ℕ → Type 0) (needs : List Need) (loaded : List ℕ) (l : Loading) : Type 0 where
  pub kept : P loaded → P l.loaded
  pub grown : Grows loaded l.loaded
  pub there : l.fault ≡ None → AllByRecursion (HasLoaded p l.loaded) needs

no-named : (code : ℕ) (name : List ℕ) → Primitive code ≡ Named name → ⊥
no-named code name e = cc

same-name : (a b : List ℕ) → Named a ≡ Named b → a ≡ b
same-name a b e = cc

pub plain-element : (name : List ℕ) → is_array_name name ≡ false → (meaning_of name).element ≡ Named name
plain-element name plain =
    ap (λ (b : Bool). (if b then unwrap_or (array_from 0 name) (array_meaning 0 (Named name)) else array_meaning 0 (Named name)).element) plain

module _ (p : Program) (P : List ℕ → Type 0)
    (one_more : (loaded : List ℕ) (class : ℕ) → AllByRecursion (HasLoaded p loaded) (needs_of p class) → P loaded → P (loaded ++ class ∷ [])) where
  stopped : (e : Element) (loaded : List ℕ) (fault : Fault) → IsLoad p P e loaded (record { loaded = loaded; fault = Some fault })
  stopped e loaded fault = record { kept = λ h. h; grown = λ c h. h; there = λ none. absurd (none-some fault (sym none)) }

  -- the class itself, behind what it needs
  behind-load : (own loaded : List ℕ) (class : ℕ) (l : Loading) → class_named p own ≡ Some class → AreLoads p P (needs_of p class) loaded l
      → (o : Option Fault) → l.fault ≡ o → IsLoad p P (Named own) loaded (unless o l.loaded (λ all. loading_done (all ++ class ∷ [])))
  behind-load own loaded class l found needs None is = record {
    kept = λ h. one_more l.loaded class (needs.there is) (needs.kept h);
    grown = λ c h. among-front c l.loaded (class ∷ []) (needs.grown c h);
    there = λ none name same c named.
        subst (IsLoaded (l.loaded ++ class ∷ []))
        (same_Some class c (sym found ∙ (ap (class_named p) (same-name own name same) ∙ named))) (among-last class l.loaded);
  }
  behind-load own loaded class l found needs (Some fault) is = record {
    kept = needs.kept;
    grown = needs.grown;
    there = λ none. absurd (none-some fault (sym none));
  }

  module _ (path own loaded : List ℕ) (within : ℕ → Loading)
      (needs : (class : ℕ) → AreLoads p P (needs_of p class) loaded (within class)) where
    standing-load : (class : ℕ) (a b : Bool) → class_named p own ≡ Some class → is_among class loaded ≡ a
        → IsLoad p P (Named own) loaded (by_load_state (if a then There else if b then Begun else Fresh class) own loaded (λ c. behind_needs c (within c)))
    standing-load class true b found is = record {
      kept = λ h. h;
      grown = λ c h. h;
      there = λ none name same c named.
          subst (IsLoaded loaded) (same_Some class c (sym found ∙ (ap (class_named p) (same-name own name same) ∙ named))) is;
    }
    standing-load class false true found is = stopped (Named own) loaded Circular
    standing-load class false false found is = behind-load own loaded class (within class) found (needs class) (within class).fault refl

    class-load : (o : Option ℕ) → class_named p own ≡ o
        → IsLoad p P (Named own) loaded (by_load_state (load_state_of path loaded o) own loaded (λ c. behind_needs c (within c)))
    class-load None found = stopped (Named own) loaded (NoClass own)
    class-load (Some class) found = standing-load class (is_among class loaded) (is_among class path) found refl

  element-load : (e : Element) (loaded : List ℕ) (load : List ℕ → Loading) → ((own : List ℕ) → IsLoad p P (Named own) loaded (load own))
      → IsLoad p P e loaded (load_element e loaded load)
  element-load (Primitive code) loaded load each =
      record { kept = λ h. h; grown = λ c h. h; there = λ none name same. absurd (no-named code name same) }
  element-load (Named own) loaded load each = each own

  -- one need after the other
  module _ (load : List ℕ → List ℕ → Loading)
      (each : (name loaded : List ℕ) → IsLoad p P (meaning_of name).element loaded (load name loaded)) where
    met-name : (n : Need) → is_met p n ≡ true → (meaning_of n.name).element ≡ Named n.name
    met-name n met = plain-element n.name (by (is_array_name n.name) met)
      where
        by : (b : Bool) → (not b && option_map_or (λ class. beq (is_interface p class) n.interface) (class_named p n.name) false) ≡ true → b ≡ false
        by false h = refl
        by true h = absurd (false≢true h)

    pub needs-load : (needs : List Need) (loaded : List ℕ) → AreLoads p P needs loaded (load_needs p load needs loaded)
    needs-load [] loaded = record { kept = λ h. h; grown = λ c h. h; there = λ none. tt }
    needs-load (n ∷ rest) loaded = by (load n.name loaded).fault refl (needs-load rest (load n.name loaded).loaded)
      where
        first : IsLoad p P (meaning_of n.name).element loaded (load n.name loaded)
        first = each n.name loaded

        by-met : (b : Bool) → is_met p n ≡ b → (load n.name loaded).fault ≡ None
            → AreLoads p P rest (load n.name loaded).loaded (load_needs p load rest (load n.name loaded).loaded)
            → AreLoads p P (n ∷ rest) loaded (unless (if b then None else Some Incompatible) (load n.name loaded).loaded (load_needs p load rest))
        by-met true met none others = record {
          kept = λ h. others.kept (first.kept h);
          grown = λ c h. others.grown c (first.grown c h);
          there = λ still. (λ class found. others.grown class (first.there none n.name (met-name n met) class found), others.there still);
        }
        by-met false met none others = record {
          kept = first.kept;
          grown = first.grown;
          there = λ still. absurd (none-some Incompatible (sym still));
        }

        by : (o : Option Fault) → (load n.name loaded).fault ≡ o
            → AreLoads p P rest (load n.name loaded).loaded (load_needs p load rest (load n.name loaded).loaded)
            → AreLoads p P (n ∷ rest) loaded (unless o (load n.name loaded).loaded (λ after. unless (need_fault p n) after (load_needs p load rest)))
        by None is others = by-met (is_met p n) refl is others
        by (Some fault) is others = record {
          kept = first.kept;
          grown = first.grown;
          there = λ none. absurd (none-some fault (sym none));
        }

  pub named-load : (depth : ℕ) (path name loaded : List ℕ) → IsLoad p P (meaning_of name).element loaded (load_named p depth path name loaded)
  named-load zero path name loaded = stopped (meaning_of name).element loaded Circular
  named-load (suc n) path name loaded =
      let within : ℕ → Loading = λ class. load_needs p (load_named p n (path ++ class ∷ [])) (needs_of p class) loaded in
      element-load (meaning_of name).element loaded
      (λ own. by_load_state (load_state_of path loaded (class_named p own)) own loaded (λ class. behind_needs class (within class)))
      (λ own. class-load path own loaded within
      (λ class. needs-load (load_named p n (path ++ class ∷ [])) (named-load n (path ++ class ∷ [])) (needs_of p class) loaded)
      (class_named p own) refl)

-- ---- the supertypes of a class that is loaded

module _ (p : Program) (loaded : List ℕ) where
  names-loaded : (b : Bool) (names : List (List ℕ)) → AllByRecursion (HasLoaded p loaded) (map (need b) names)
      → AllByRecursion (IsLoaded loaded) (filter_map (class_named p) names)
  names-loaded b [] each = tt
  names-loaded b (name ∷ names) each = by (class_named p name) refl (names-loaded b names each.1)
    where
      by : (o : Option ℕ) → class_named p name ≡ o → AllByRecursion (IsLoaded loaded) (filter_map (class_named p) names)
          → AllByRecursion (IsLoaded loaded) (cons_option o (filter_map (class_named p) names))
      by None found rest = rest
      by (Some class) found rest = (each.0 class found, rest)

  name-loaded : (o : Option (List ℕ)) → AllByRecursion (HasLoaded p loaded) (map (need false) (option_to_list o))
      → AllByRecursion (IsLoaded loaded) (option_to_list (option_and_then (class_named p) o))
  name-loaded None each = tt
  name-loaded (Some name) each = by (class_named p name) refl
    where
      by : (o : Option ℕ) → class_named p name ≡ o → AllByRecursion (IsLoaded loaded) (option_to_list o)
      by None found = tt
      by (Some class) found = (each.0 class found, tt)

  pub directs : (o : Option ClassFile) → AllByRecursion (HasLoaded p loaded) (option_map_or class_needs o [])
      → AllByRecursion (IsLoaded loaded) (option_to_list (option_and_then (class_named p) (option_and_then (λ (c : ClassFile). named_class c.pool c.super_class) o)))
      × AllByRecursion (IsLoaded loaded) (filter_map (class_named p) (option_map_or interface_names o []))
  directs None each = (tt, tt)
  directs (Some c) each =
      let both = all-split (HasLoaded p loaded) (map (need false) (option_to_list (named_class c.pool c.super_class))) (map (need true) (interface_names c)) each in
      (name-loaded (named_class c.pool c.super_class) both.0, names-loaded true (interface_names c) both.1)

pub one-more : (p : Program) (loaded : List ℕ) (class : ℕ) → AllByRecursion (HasLoaded p loaded) (needs_of p class) → HasSupertypes p loaded
    → HasSupertypes p (loaded ++ class ∷ [])
one-more p loaded class needs above = record {
  superclass = among-either (λ c. AllByRecursion (IsLoaded (loaded ++ class ∷ [])) (superclass_of p c)) class loaded
      (λ c h. more (superclass_of p c) (above.superclass c h)) (more (superclass_of p class) (directs p loaded (class_at p class) needs).0);
  interfaces = among-either (λ c. AllByRecursion (IsLoaded (loaded ++ class ∷ [])) (interfaces_of p c)) class loaded
      (λ c h. more (interfaces_of p c) (above.interfaces c h)) (more (interfaces_of p class) (directs p loaded (class_at p class) needs).1);
}
  where
    more : (xs : List ℕ) → AllByRecursion (IsLoaded loaded) xs → AllByRecursion (IsLoaded (loaded ++ class ∷ [])) xs
    more xs each = all-then (IsLoaded loaded) (IsLoaded (loaded ++ class ∷ [])) (λ c h. among-front c loaded (class ∷ []) h) xs each

pub load-supertypes : (p : Program) (loaded name : List ℕ) → HasSupertypes p loaded → HasSupertypes p (load_of p loaded name).loaded
load-supertypes p loaded name above = (named-load p (HasSupertypes p) (one-more p) (length p.classes + 1) [] name loaded).kept above

pub load-grows : (p : Program) (loaded name : List ℕ) (class : ℕ) → IsLoaded loaded class → IsLoaded (load_of p loaded name).loaded class
load-grows p loaded name = (named-load p (HasSupertypes p) (one-more p) (length p.classes + 1) [] name loaded).grown

-- where there is no fault, the class of the name, or of the elements, is loaded
pub load-there : (p : Program) (loaded name : List ℕ) → (load_of p loaded name).fault ≡ None → (own : List ℕ) → (meaning_of name).element ≡ Named own
    → (class : ℕ) → class_named p own ≡ Some class → IsLoaded (load_of p loaded name).loaded class
load-there p loaded name = (named-load p (HasSupertypes p) (one-more p) (length p.classes + 1) [] name loaded).there

-- ---- walks

module _ (p : Program) (loaded : List ℕ) (above : HasSupertypes p loaded) where
  superclasses-within : (n class : ℕ) → IsLoaded loaded class → AllByRecursion (IsLoaded loaded) (superclasses_within p n class)
  superclasses-within zero class is = tt
  superclasses-within (suc n) class is =
      (is, all-flat (IsLoaded loaded) (superclasses_within p n) (superclasses-within n) (superclass_of p class) (above.superclass class is))

  superinterfaces-within : (n class : ℕ) → IsLoaded loaded class → AllByRecursion (IsLoaded loaded) (superinterfaces_within p n class)
  superinterfaces-within zero class is = tt
  superinterfaces-within (suc n) class is =
      all-both (IsLoaded loaded) (flat_map (λ i. i ∷ superinterfaces_within p n i) (interfaces_of p class))
      (if is_interface p class then [] else flat_map (superinterfaces_within p n) (superclass_of p class))
      (all-flat (IsLoaded loaded) (λ i. i ∷ superinterfaces_within p n i) (λ i there. (there, superinterfaces-within n i there)) (interfaces_of p class) (above.interfaces class is))
      (by (is_interface p class) (all-flat (IsLoaded loaded) (superinterfaces_within p n) (superinterfaces-within n) (superclass_of p class) (above.superclass class is)))
    where
      by : (b : Bool) → AllByRecursion (IsLoaded loaded) (flat_map (superinterfaces_within p n) (superclass_of p class))
          → AllByRecursion (IsLoaded loaded) (if b then [] else flat_map (superinterfaces_within p n) (superclass_of p class))
      by true each = tt
      by false each = each

  supertypes-within : (n class : ℕ) → IsLoaded loaded class → AllByRecursion (IsLoaded loaded) (supertypes_within p n class)
  supertypes-within zero class is = tt
  supertypes-within (suc n) class is = (
    is,
    all-both (IsLoaded loaded) (flat_map (supertypes_within p n) (interfaces_of p class)) (flat_map (supertypes_within p n) (superclass_of p class))
        (all-flat (IsLoaded loaded) (supertypes_within p n) (supertypes-within n) (interfaces_of p class) (above.interfaces class is))
        (all-flat (IsLoaded loaded) (supertypes_within p n) (supertypes-within n) (superclass_of p class) (above.superclass class is)),
  )

  pub superclasses-loaded : (class : ℕ) → IsLoaded loaded class → AllByRecursion (IsLoaded loaded) (superclasses p class)
  superclasses-loaded = superclasses-within (length p.classes)

  pub superinterfaces-loaded : (class : ℕ) → IsLoaded loaded class → AllByRecursion (IsLoaded loaded) (superinterfaces p class)
  superinterfaces-loaded = superinterfaces-within (length p.classes)

  pub supertypes-loaded : (class : ℕ) → IsLoaded loaded class → AllByRecursion (IsLoaded loaded) (supertypes p class)
  supertypes-loaded = supertypes-within (length p.classes)
