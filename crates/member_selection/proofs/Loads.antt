-- A load without a fault (JVM Specification 5.3): the name stands for a kind, whose class is loaded then.
use Rattle.std.proofs.Common.{◌≡◌, ℕ, zero, suc, ◌+◌, ◌*◌, ◌≤◌, Bool, true, false, List, [], ◌∷◌, ◌++◌, ap, subst, refl, sym}
use Rattle.std.specs.Prelude.{◌/◌, length, Option, Some, None, if◌then◌else◌}
use Rattle.std.specs.Option.{option_map}
use Rattle.std.proofs.lemmas.Option.{none-some}
use Rattle.jvm_model.specs.declared.program.Program.{Program}
use Rattle.jvm_model.specs.Basis.KindNumbers.{base_of_class, kind_number, user_count}
use Rattle.jvm_model.specs.Classes.Kinds.{Element, Primitive, Named, kind_named, meaning_of, parts_named}
use Rattle.jvm_model.specs.Classes.Load.{Fault, NoClass, Circular, Loading, There, Begun, Fresh, behind_needs, by_load_state, loading_done, is_among, load_element, load_named, load_needs, load_of, needs_of, load_state_of, unless}
use Rattle.jvm_model.specs.Basis.Programs.{class_named}
use Rattle.member_selection.specs.Objects.{IsUsable}
use Rattle.jvm_model.proofs.Soundness.SoundKinds.{name-usable}
use Rattle.jvm_model.proofs.Loading.Among.{among-last}

-- ---- the class of a name

behind-there : (class : ℕ) (o : Option Fault) (loaded : List ℕ) → (unless o loaded (λ after. loading_done (after ++ class ∷ []))).fault ≡ None
    → is_among class (unless o loaded (λ after. loading_done (after ++ class ∷ []))).loaded ≡ true
behind-there class None loaded none = among-last class loaded
behind-there class (Some fault) loaded none = absurd (none-some fault (sym none))

module _ (path name loaded : List ℕ) (load : ℕ → Loading) where
  standing-there : (class : ℕ) (a b : Bool) → is_among class loaded ≡ a
      → (by_load_state (if a then There else if b then Begun else Fresh class) name loaded (λ c. behind_needs c (load c))).fault ≡ None
      → is_among class (by_load_state (if a then There else if b then Begun else Fresh class) name loaded (λ c. behind_needs c (load c))).loaded ≡ true
  standing-there class true b is none = is
  standing-there class false true is none = absurd (none-some Circular (sym none))
  standing-there class false false is none = behind-there class (load class).fault (load class).loaded none

  -- there is one, and it is loaded
  pub record Stands (o : Option ℕ) : Type 0 where
    pub class : ℕ
    pub found : o ≡ Some class
    pub there : is_among class (by_load_state (load_state_of path loaded o) name loaded (λ c. behind_needs c (load c))).loaded ≡ true

  stands : (o : Option ℕ) → (by_load_state (load_state_of path loaded o) name loaded (λ c. behind_needs c (load c))).fault ≡ None → Stands o
  stands None none = absurd (none-some (NoClass name) (sym none))
  stands (Some class) none =
      record { class = class; found = refl; there = standing-there class (is_among class loaded) (is_among class path) refl none }

-- the class that an element names is loaded
pub record Loads (p : Program) (e : Element) (l : Loading) : Type 0 where
  pub class : (name : List ℕ) → e ≡ Named name → (class : ℕ) × (class_named p name ≡ Some class) × (is_among class l.loaded ≡ true)

no-named : (code : ℕ) (name : List ℕ) → Primitive code ≡ Named name → ⊥
no-named code name e = cc

same-name : (a b : List ℕ) → Named a ≡ Named b → a ≡ b
same-name a b e = cc

name-loads : (p : Program) (path own loaded : List ℕ) (load : ℕ → Loading)
    → (by_load_state (load_state_of path loaded (class_named p own)) own loaded (λ class. behind_needs class (load class))).fault ≡ None
    → Loads p (Named own) (by_load_state (load_state_of path loaded (class_named p own)) own loaded (λ class. behind_needs class (load class)))
name-loads p path own loaded load none = by (stands path own loaded load (class_named p own) none)
  where
    by : Stands path own loaded load (class_named p own)
        → Loads p (Named own) (by_load_state (load_state_of path loaded (class_named p own)) own loaded (λ class. behind_needs class (load class)))
    by s = record {
      class = λ name is.
          subst (λ n. (class : ℕ) × (class_named p n ≡ Some class)
          × (is_among class (by_load_state (load_state_of path loaded (class_named p own)) own loaded (λ c. behind_needs c (load c))).loaded ≡ true))
          (same-name own name is) (s.class, s.found, s.there);
    }

by-element : (p : Program) (n : ℕ) (path loaded : List ℕ) (e : Element)
    → (load_element e loaded (λ name. by_load_state (load_state_of path loaded (class_named p name)) name loaded
    (λ class. behind_needs class (load_needs p (load_named p n (path ++ class ∷ [])) (needs_of p class) loaded)))).fault ≡ None
    → Loads p e (load_element e loaded (λ name. by_load_state (load_state_of path loaded (class_named p name)) name loaded
    (λ class. behind_needs class (load_needs p (load_named p n (path ++ class ∷ [])) (needs_of p class) loaded))))
by-element p n path loaded (Primitive code) none = record { class = λ name is. absurd (no-named code name is) }
by-element p n path loaded (Named own) none =
    name-loads p path own loaded (λ class. load_needs p (load_named p n (path ++ class ∷ [])) (needs_of p class) loaded) none

by-depth : (p : Program) (depth : ℕ) (path name loaded : List ℕ) → (load_named p depth path name loaded).fault ≡ None
    → Loads p (meaning_of name).element (load_named p depth path name loaded)
by-depth p zero path name loaded none = absurd (none-some Circular (sym none))
by-depth p (suc n) path name loaded none = by-element p n path loaded (meaning_of name).element none

pub loads : (p : Program) (name loaded : List ℕ) → (load_of p loaded name).fault ≡ None → Loads p (meaning_of name).element (load_of p loaded name)
loads p name loaded none = by-depth p _ [] name loaded none

-- ---- the kind

module _ (p : Program) (dimensions : ℕ) (l : Loading) where
  of-named : (own : List ℕ) → (class : ℕ) × (class_named p own ≡ Some class) × (is_among class l.loaded ≡ true)
      → (kind : ℕ) × (option_map kind_number (parts_named p (record { dimensions = dimensions; element = Named own })) ≡ Some kind)
  of-named own (class, found, there) = (
    dimensions * 16777216 + base_of_class p class,
    ap (λ o. option_map kind_number (option_map (λ base. record { dimensions = dimensions; base = base }) (option_map (base_of_class p) o))) found,
  )

  of-element : (e : Element) → Loads p e l → (kind : ℕ) × (option_map kind_number (parts_named p (record { dimensions = dimensions; element = e })) ≡ Some kind)
  of-element (Primitive code) loads = (dimensions * 16777216 + code, refl)
  of-element (Named own) loads = of-named own (loads.class own refl)

-- the name of a load without a fault stands for a kind, whose class is loaded then
pub resolves : (p : Program) (name loaded : List ℕ) → (load_of p loaded name).fault ≡ None → length p.classes ≤ 4149
    → is_among (user_count p) (load_of p loaded name).loaded ≡ true
    → (kind : ℕ) × (kind_named p name ≡ Some kind) × IsUsable (record { program = p; loaded = (load_of p loaded name).loaded }) kind
    × (kind / 16777216 ≡ (meaning_of name).dimensions)
resolves p name loaded none few root =
    by (of-element p (meaning_of name).dimensions (load_of p loaded name) (meaning_of name).element (loads p name loaded none))
  where
    by : (kind : ℕ) × (kind_named p name ≡ Some kind)
        → (kind : ℕ) × (kind_named p name ≡ Some kind) × IsUsable (record { program = p; loaded = (load_of p loaded name).loaded }) kind
        × (kind / 16777216 ≡ (meaning_of name).dimensions)
    by (kind, named) =
        let usable = name-usable p name loaded kind few root none named in
        (kind, named, usable.0, usable.1)
