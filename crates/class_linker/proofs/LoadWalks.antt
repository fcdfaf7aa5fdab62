-- What loading leaves as it is, and what is loaded when it has no fault.
use Rattle.std.proofs.Common.{◌≡◌, ◌≢◌, ℕ, zero, suc, ◌-◌, Bool, true, false, List, [], ◌∷◌, ◌++◌, map, ap, ap₂, sym, refl, ◌∙◌, arith}
use Rattle.std.specs.Prelude.{Option, Some, None, filter_map, not, unwrap_or, ◌&&◌, if◌then◌else◌}
use Rattle.std.specs.Bool.{beq}
use Rattle.std.specs.List.{cons_option, list_all}
use Rattle.std.specs.Option.{option_and_then, option_map_or, option_to_list}
use Rattle.std.proofs.lemmas.Bool.{false≢true, and_parts}
use Rattle.std.proofs.lemmas.Option.{none-some}
use Rattle.const_pool.specs.declared.class.ClassFile.{ClassFile}
use Rattle.const_pool.specs.References.{named_class}
use Rattle.jvm_model.specs.Classes.Kinds.{Named, array_from, array_meaning, is_array_name}
use Rattle.jvm_model.specs.Classes.Load.{Fault, Circular, Incompatible, Loading, Need, There, Begun, Fresh as Unloaded, behind_needs, by_load_state, class_needs, loading_done, loading_failed, go_on, is_among, is_met, load_element, load_named, load_needs, need, need_fault, needs_of, load_state_of, unless}
use Rattle.jvm_model.specs.Classes.Lookup.{interface_names, interfaces_of, is_interface, superclass_of}
use Rattle.jvm_model.specs.Basis.Programs.{class_at, class_named}
use Rattle.jvm_model.specs.declared.program.Program.{Program}
use Rattle.jvm_model.proofs.Loading.LoadKept.{named_kept, needs_kept}
use Rattle.jvm_model.proofs.Loading.Among.{among-last, among-front}
use Rattle.class_linker.specs.declared.loading.Fault as code
use Rattle.class_linker.specs.declared.loading.Standing.{Standing}
use Rattle.class_linker.specs.declared.loading.Standing.TheVariants.{Ended, Fresh}
use Rattle.class_linker.specs.States.{loading_view, named_loading, standing_loading}

-- ---- what is loaded stays

module _ (p : Program) (c : ℕ) where
  pub named_stays : (depth : ℕ) (path name loaded : List ℕ) → is_among c loaded ≡ true → is_among c (load_named p depth path name loaded).loaded ≡ true
  named_stays depth path name loaded h =
      named_kept p (λ l. is_among c l ≡ true) [] (λ l class out g. among-front c l (class ∷ []) g) depth path (λ class out. refl) name loaded h

  pub needs_stay : (depth : ℕ) (path : List ℕ) (needs : List Need) (loaded : List ℕ) → is_among c loaded ≡ true
      → is_among c (load_needs p (load_named p depth path) needs loaded).loaded ≡ true
  needs_stay depth path needs loaded h =
      needs_kept p (λ l. is_among c l ≡ true) [] (λ l class out g. among-front c l (class ∷ []) g) (load_named p depth path) (named_stays depth path) needs loaded h

-- ---- a name that is looked up

-- what a class loads that is not loaded yet
abbrev pub fresh_of : Program → ℕ → List ℕ → List ℕ → ℕ → Loading
fresh_of p depth path loaded class = behind_needs class (load_needs p (load_named p (depth - 1) (path ++ class ∷ [])) (needs_of p class) loaded)

one_less : (n : ℕ) → n ≡ suc n - 1
one_less n = omega arith

opened : (p : Program) (depth : ℕ) (path name loaded : List ℕ) → depth ≢ 0
    → load_named p depth path name loaded ≡ named_loading p path name loaded (fresh_of p depth path loaded)
opened p zero path name loaded some = absurd (some refl)
opened p (suc n) path name loaded some =
    ap (λ d. named_loading p path name loaded (λ class. behind_needs class (load_needs p (load_named p d (path ++ class ∷ [])) (needs_of p class) loaded))) (one_less n)

module _ (p : Program) (depth : ℕ) (path name loaded : List ℕ) (some : depth ≢ 0) (s : Standing)
    (looked : (fresh : ℕ → Loading) → standing_loading s loaded fresh ≡ named_loading p path name loaded fresh) where
  pub ended_is : (fault : Option code.Fault) → s ≡ Ended fault → loading_view loaded fault ≡ load_named p depth path name loaded
  ended_is fault is =
      ap (λ t. standing_loading t loaded (fresh_of p depth path loaded)) (sym is)
      ∙ (looked (fresh_of p depth path loaded) ∙ sym (opened p depth path name loaded some))

  pub fresh_is : (class : ℕ) → s ≡ Fresh class → fresh_of p depth path loaded class ≡ load_named p depth path name loaded
  fresh_is class is =
      ap (λ t. standing_loading t loaded (fresh_of p depth path loaded)) (sym is)
      ∙ (looked (fresh_of p depth path loaded) ∙ sym (opened p depth path name loaded some))

-- ---- where loading stops

-- at a need that has a fault
pub stops_at : (p : Program) (load : List ℕ → List ℕ → Loading) (n : Need) (rest : List Need) (loaded after : List ℕ) (fault : Fault)
    → load n.name loaded ≡ loading_failed after fault → load_needs p load (n ∷ rest) loaded ≡ loading_failed after fault
stops_at p load n rest loaded after fault e = ap (λ l. go_on l (λ l. unless (need_fault p n) l (load_needs p load rest))) e

-- at a need that is not met
pub stops_behind : (p : Program) (load : List ℕ → List ℕ → Loading) (n : Need) (rest : List Need) (loaded after : List ℕ)
    → load n.name loaded ≡ loading_done after → is_met p n ≡ false → load_needs p load (n ∷ rest) loaded ≡ loading_failed after Incompatible
stops_behind p load n rest loaded after e not_met =
    ap (λ l. go_on l (λ l. unless (need_fault p n) l (load_needs p load rest))) e
    ∙ ap (λ b. unless (if b then None else Some Incompatible) after (load_needs p load rest)) not_met

-- ---- what is loaded where there is no fault

failed_done : (loaded after : List ℕ) (fault : Fault) → loading_failed loaded fault ≡ loading_done after → ⊥
failed_done loaded after fault e = none-some fault (sym (ap (λ (l : Loading). l.fault) e))

done_done : (loaded after : List ℕ) → loading_done loaded ≡ loading_done after → loaded ≡ after
done_done loaded after e = ap (λ (l : Loading). l.loaded) e

module _ (p : Program) (class : ℕ) (after : List ℕ) where
  behind_done : (l : Loading) → behind_needs class l ≡ loading_done after → is_among class after ≡ true
  behind_done l e = by l.fault e
    where
      by : (o : Option Fault) → unless o l.loaded (λ loaded. loading_done (loaded ++ class ∷ [])) ≡ loading_done after → is_among class after ≡ true
      by None h = ap (is_among class) (sym (done_done (l.loaded ++ class ∷ []) after h)) ∙ among-last class l.loaded
      by (Some fault) h = absurd (failed_done l.loaded after fault h)

  class_done : (depth : ℕ) (path name loaded : List ℕ)
      → by_load_state (load_state_of path loaded (Some class)) name loaded (λ class. behind_needs class (load_needs p (load_named p depth (path ++ class ∷ [])) (needs_of p class) loaded)) ≡ loading_done after
      → is_among class after ≡ true
  class_done depth path name loaded e = by (is_among class loaded) (is_among class path) refl e
    where
      fresh : ℕ → Loading
      fresh class = behind_needs class (load_needs p (load_named p depth (path ++ class ∷ [])) (needs_of p class) loaded)

      by : (a b : Bool) → is_among class loaded ≡ a
          → by_load_state (if a then There else if b then Begun else Unloaded class) name loaded (λ class. behind_needs class (load_needs p (load_named p depth (path ++ class ∷ [])) (needs_of p class) loaded)) ≡ loading_done after
          → is_among class after ≡ true
      by true b is h = ap (is_among class) (sym (done_done loaded after h)) ∙ is
      by false true is h = absurd (failed_done loaded after Circular h)
      by false false is h = behind_done (load_needs p (load_named p depth (path ++ class ∷ [])) (needs_of p class) loaded) h

  pub named_done : (depth : ℕ) (path name loaded : List ℕ) → is_array_name name ≡ false → class_named p name ≡ Some class
      → load_named p depth path name loaded ≡ loading_done after → is_among class after ≡ true
  named_done zero path name loaded plain is e = absurd (failed_done loaded after Circular e)
  named_done (suc n) path name loaded plain is e =
      let fresh : ℕ → Loading = λ class. behind_needs class (load_needs p (load_named p n (path ++ class ∷ [])) (needs_of p class) loaded) in
      let by_name : List ℕ → Loading = λ class_name. by_load_state (load_state_of path loaded (class_named p class_name)) class_name loaded fresh in
      class_done n path name loaded
      (sym (ap (λ o. by_load_state (load_state_of path loaded o) name loaded fresh) is)
      ∙ (sym (ap (λ (b : Bool). load_element (if b then unwrap_or (array_from 0 name) (array_meaning 0 (Named name)) else array_meaning 0 (Named name)).element loaded by_name) plain) ∙ e))

-- ---- the classes of needs

-- the class of a need passes the test
abbrev pub passes : Program → (ℕ → Bool) → Need → Bool
passes p test n = option_map_or test (class_named p n.name) false

module _ (p : Program) (depth : ℕ) (path after : List ℕ) where
  met_done : (n : Need) (rest : List Need) (loaded now : List ℕ) → load_named p depth path n.name loaded ≡ loading_done now
      → load_needs p (load_named p depth path) rest now ≡ loading_done after → is_met p n ≡ true → passes p (λ c. is_among c after) n ≡ true
  met_done n rest loaded now one others met = by (class_named p n.name) refl (and_parts (not (is_array_name n.name)) _ met).1
    where
      plain : (b : Bool) → not b ≡ true → b ≡ false
      plain false h = refl
      plain true h = absurd (false≢true h)

      by : (o : Option ℕ) → class_named p n.name ≡ o → option_map_or (λ class. beq (is_interface p class) n.interface) o false ≡ true
          → option_map_or (λ c. is_among c after) o false ≡ true
      by None is h = absurd (false≢true h)
      by (Some class) is h =
          let there = named_done p class now depth path n.name loaded
          (plain (is_array_name n.name) (and_parts (not (is_array_name n.name)) _ met).0) is one in
          ap (is_among class) (sym (ap (λ (l : Loading). l.loaded) others)) ∙ needs_stay p class depth path rest now there

  pub needs_done : (needs : List Need) (loaded : List ℕ) → load_needs p (load_named p depth path) needs loaded ≡ loading_done after
      → list_all (passes p (λ c. is_among c after)) needs ≡ true
  needs_done [] loaded e = refl
  needs_done (n ∷ rest) loaded e =
      by_fault (load_named p depth path n.name loaded).fault refl e (needs_done rest (load_named p depth path n.name loaded).loaded)
    where
      now : List ℕ
      now = (load_named p depth path n.name loaded).loaded

      by_met : (b : Bool) → is_met p n ≡ b → load_named p depth path n.name loaded ≡ loading_done (load_named p depth path n.name loaded).loaded
          → unless (if b then None else Some Incompatible) (load_named p depth path n.name loaded).loaded (load_needs p (load_named p depth path) rest) ≡ loading_done after
          → (load_needs p (load_named p depth path) rest (load_named p depth path n.name loaded).loaded ≡ loading_done after → list_all (passes p (λ c. is_among c after)) rest ≡ true)
          → (passes p (λ c. is_among c after) n && list_all (passes p (λ c. is_among c after)) rest) ≡ true
      by_met true met one h others =
          ap₂ (λ a b. a && b) (met_done n rest loaded (load_named p depth path n.name loaded).loaded one h met) (others h)
      by_met false met one h others = absurd (failed_done (load_named p depth path n.name loaded).loaded after Incompatible h)

      by_fault : (o : Option Fault) → (load_named p depth path n.name loaded).fault ≡ o
          → unless o (load_named p depth path n.name loaded).loaded (λ l. unless (need_fault p n) l (load_needs p (load_named p depth path) rest)) ≡ loading_done after
          → (load_needs p (load_named p depth path) rest (load_named p depth path n.name loaded).loaded ≡ loading_done after → list_all (passes p (λ c. is_among c after)) rest ≡ true)
          → (passes p (λ c. is_among c after) n && list_all (passes p (λ c. is_among c after)) rest) ≡ true
      by_fault None is h others =
          by_met (is_met p n) refl (ap (λ o. record { loaded = (load_named p depth path n.name loaded).loaded; fault = o }) is) h others
      by_fault (Some fault) is h others = absurd (failed_done (load_named p depth path n.name loaded).loaded after fault h)

-- ---- the direct supertypes

module _ (p : Program) (test : ℕ → Bool) where
  names_pass : (b : Bool) (names : List (List ℕ)) → list_all (passes p test) (map (need b) names) ≡ true
      → list_all test (filter_map (class_named p) names) ≡ true
  names_pass b [] h = refl
  names_pass b (name ∷ names) h =
      by (class_named p name) (and_parts (passes p test (need b name)) (list_all (passes p test) (map (need b) names)) h).0
      (names_pass b names (and_parts (passes p test (need b name)) (list_all (passes p test) (map (need b) names)) h).1)
    where
      by : (o : Option ℕ) → option_map_or test o false ≡ true → list_all test (filter_map (class_named p) names) ≡ true
          → list_all test (cons_option o (filter_map (class_named p) names)) ≡ true
      by None h rest = absurd (false≢true h)
      by (Some c) h rest = ap₂ (λ a b. a && b) h rest

  split : (xs ys : List Need) → list_all (passes p test) (xs ++ ys) ≡ true
      → (list_all (passes p test) xs ≡ true) × (list_all (passes p test) ys ≡ true)
  split [] ys h = (refl, h)
  split (x ∷ xs) ys h =
      let both = split xs ys (and_parts (passes p test x) (list_all (passes p test) (xs ++ ys)) h).1 in
      (ap₂ (λ a b. a && b) (and_parts (passes p test x) (list_all (passes p test) (xs ++ ys)) h).0 both.0, both.1)

  one_name : (o : Option (List ℕ)) → filter_map (class_named p) (option_to_list o) ≡ option_to_list (option_and_then (class_named p) o)
  one_name None = refl
  one_name (Some name) = by (class_named p name)
    where
      by : (o : Option ℕ) → cons_option o [] ≡ option_to_list o
      by None = refl
      by (Some c) = refl

  directs : (o : Option ClassFile) → list_all (passes p test) (option_map_or class_needs o []) ≡ true
      → (list_all test (filter_map (class_named p) (option_map_or interface_names o [])) ≡ true)
      × (list_all test (option_to_list (option_and_then (class_named p) (option_and_then (λ (c : ClassFile). named_class c.pool c.super_class) o))) ≡ true)
  directs None h = (refl, refl)
  directs (Some c) h =
      let parts = split (map (need false) (option_to_list (named_class c.pool c.super_class))) (map (need true) (interface_names c)) h in (
        names_pass true (interface_names c) parts.1,
        ap (list_all test) (sym (one_name (named_class c.pool c.super_class))) ∙ names_pass false (option_to_list (named_class c.pool c.super_class)) parts.0,
      )

  pub interfaces_pass : (class : ℕ) → list_all (passes p test) (needs_of p class) ≡ true → list_all test (interfaces_of p class) ≡ true
  interfaces_pass class h = (directs (class_at p class) h).0

  pub superclass_passes : (class : ℕ) → list_all (passes p test) (needs_of p class) ≡ true → list_all test (superclass_of p class) ≡ true
  superclass_passes class h = (directs (class_at p class) h).1

pub all_have : (f g : ℕ → Bool) → ((c : ℕ) → f c ≡ true → g c ≡ true) → (xs : List ℕ) → list_all f xs ≡ true → list_all g xs ≡ true
all_have f g h [] all = refl
all_have f g h (x ∷ xs) all =
    ap₂ (λ a b. a && b) (h x (and_parts (f x) (list_all f xs) all).0) (all_have f g h xs (and_parts (f x) (list_all f xs) all).1)
