-- What loading a name does where its class is loaded, and where it is not (JVM Specification 5.3).
use Rattle.std.proofs.Common.{◌≡◌, ℕ, suc, Bool, true, false, List, [], ◌∷◌, ◌++◌, cond, Some, ap, ◌∙◌}
use Rattle.std.specs.Prelude.{unwrap_or}
use Rattle.jvm_model.specs.declared.program.Program.{Program}
use Rattle.jvm_model.specs.Classes.Kinds.{Element, Named, Meaning, array_from, array_meaning, is_array_name}
use Rattle.jvm_model.specs.Classes.Load.{Loading, There, Begun, Fresh, behind_needs, by_load_state, loading_done, is_among, load_element, load_named, load_needs, needs_of, load_state_of}
use Rattle.jvm_model.specs.Basis.Programs.{class_named}

module _ (p : Program) where
  abbrev element_by : Bool → List ℕ → Element
  element_by array name = let m : Meaning = cond array (unwrap_or (array_from 0 name) (array_meaning 0 (Named name))) (array_meaning 0 (Named name)) in m.element

  abbrev fresh_class : ℕ → List ℕ → List ℕ → ℕ → Loading
  fresh_class depth path loaded class = behind_needs class (load_needs p (load_named p depth (path ++ class ∷ [])) (needs_of p class) loaded)

  abbrev load_class : ℕ → List ℕ → List ℕ → List ℕ → Loading
  load_class depth path loaded name = by_load_state (load_state_of path loaded (class_named p name)) name loaded (fresh_class depth path loaded)

  -- what is no array's name loads the class of that name
  pub load-class : (depth : ℕ) (path loaded name : List ℕ) → is_array_name name ≡ false → load_named p (suc depth) path name loaded ≡ load_class depth path loaded name
  load-class depth path loaded name plain = ap (λ b. load_element (element_by b name) loaded (load_class depth path loaded)) plain

  -- a class that is loaded loads nothing
  pub load-there : (depth : ℕ) (path loaded name : List ℕ) (class : ℕ) → is_array_name name ≡ false → class_named p name ≡ Some class → is_among class loaded ≡ true
      → load_named p (suc depth) path name loaded ≡ loading_done loaded
  load-there depth path loaded name class plain named among =
      load-class depth path loaded name plain
      ∙ (ap (λ o. by_load_state (load_state_of path loaded o) name loaded (fresh_class depth path loaded)) named
      ∙ ap (λ b. by_load_state (cond b There (cond (is_among class path) Begun (Fresh class))) name loaded (fresh_class depth path loaded)) among)

  -- a class that is not loaded is loaded behind what it needs
  pub load-fresh : (depth : ℕ) (loaded name : List ℕ) (class : ℕ) → is_array_name name ≡ false → class_named p name ≡ Some class → is_among class loaded ≡ false
      → load_named p (suc depth) [] name loaded ≡ fresh_class depth [] loaded class
  load-fresh depth loaded name class plain named among =
      load-class depth [] loaded name plain
      ∙ (ap (λ o. by_load_state (load_state_of [] loaded o) name loaded (fresh_class depth [] loaded)) named
      ∙ ap (λ b. by_load_state (cond b There (Fresh class)) name loaded (fresh_class depth [] loaded)) among)
