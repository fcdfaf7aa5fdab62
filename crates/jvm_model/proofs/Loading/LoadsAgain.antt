-- Loading again, where all that a resolution loads is loaded, loads no class more and ends with the same fault (JVM
-- Specification 5.3). So an instruction whose classes are loaded before it is attempted finds, by the same name, what
-- its load ended with.
use Rattle.std.proofs.Common.{◌≡◌, ℕ, zero, suc, Bool, true, false, List, [], ◌∷◌, ◌++◌, ap, sym, refl, ◌∙◌, arith}
use Rattle.std.proofs.Math.Seq.{drop-append_seam, drop-length}
use Rattle.std.specs.Prelude.{length, drop, Option, Some, None, if◌then◌else◌}
use Rattle.std.proofs.lemmas.Option.{none-some}
use Rattle.jvm_model.specs.Basis.Data.{Operands}
use Rattle.jvm_model.specs.Running.Growth.{Extends}
use Rattle.jvm_model.specs.Classes.Kinds.{Element, Primitive, Named, kind_named, meaning_of}
use Rattle.jvm_model.specs.Classes.Load.{Fault, Circular, Loading, Need, There, Begun, Fresh, behind_needs, by_load_state, loading_done, loading_failed, go_on, is_among, load_element, load_named, load_needs, load_of, need_fault, needs_of, load_state_of, unless}
use Rattle.jvm_model.specs.Instructions.SymbolicReference.{SymbolicReference, kind_unless, newly_loaded, resolved_kind, resolved_name, resolves}
use Rattle.jvm_model.specs.Basis.Programs.{class_named}
use Rattle.jvm_model.specs.declared.program.Program.{Program}
use Rattle.jvm_model.proofs.Running.Growth.{Extends-appended, Extends-same, Extends-trans}
use Rattle.jvm_model.proofs.Loading.Among.{among-last}
use Rattle.jvm_model.proofs.Loading.LoadKept.{named_kept, needs_stay, not_loaded}

-- ---- what was loaded without a fault loads nothing where it and more is loaded

failed-done : (loaded after : List ℕ) (fault : Fault) → loading_failed loaded fault ≡ loading_done after → ⊥
failed-done loaded after fault e = none-some fault (sym (ap (λ (l : Loading). l.fault) e))

done-done : (loaded after : List ℕ) → loading_done loaded ≡ loading_done after → loaded ≡ after
done-done loaded after e = ap (λ (l : Loading). l.loaded) e

-- all classes of the one list are among the other
abbrev Within : List ℕ → List ℕ → Type 0
Within after big = (c : ℕ) → is_among c after ≡ true → is_among c big ≡ true

module _ (p : Program) (path after big : List ℕ) (within : Within after big) where
  behind-there : (class : ℕ) (o : Option Fault) (loaded : List ℕ) → unless o loaded (λ l. loading_done (l ++ class ∷ [])) ≡ loading_done after → is_among class big ≡ true
  behind-there class None loaded e = within class (ap (is_among class) (sym (done-done (loaded ++ class ∷ []) after e)) ∙ among-last class loaded)
  behind-there class (Some fault) loaded e = absurd (failed-done loaded after fault e)

  class-there : (name loaded : List ℕ) (load : ℕ → Loading) (o : Option ℕ)
      → ((class : ℕ) → load class ≡ loading_done after → is_among class big ≡ true)
      → by_load_state (load_state_of path loaded o) name loaded load ≡ loading_done after
      → (again : ℕ → Loading) → by_load_state (load_state_of path big o) name big again ≡ loading_done big
  class-there name loaded load None there e again = absurd (failed-done loaded after _ e)
  class-there name loaded load (Some class) there e again =
      ap (λ b. by_load_state (if b then There else if is_among class path then Begun else Fresh class) name big again)
      (by (is_among class loaded) (is_among class path) refl e)
    where
      by : (a b : Bool) → is_among class loaded ≡ a
          → by_load_state (if a then There else if b then Begun else Fresh class) name loaded load ≡ loading_done after → is_among class big ≡ true
      by true b is h = within class (ap (is_among class) (sym (done-done loaded after h)) ∙ is)
      by false true is h = absurd (failed-done loaded after Circular h)
      by false false is h = there class h

  element-there : (e : Element) (loaded : List ℕ) (load again : List ℕ → Loading)
      → ((name : List ℕ) → load name ≡ loading_done after → again name ≡ loading_done big)
      → load_element e loaded load ≡ loading_done after → load_element e big again ≡ loading_done big
  element-there (Primitive code) loaded load again there e = refl
  element-there (Named name) loaded load again there e = there name e

  named-there : (depth : ℕ) (name loaded : List ℕ) → load_named p depth path name loaded ≡ loading_done after → load_named p depth path name big ≡ loading_done big
  named-there zero name loaded e = absurd (failed-done loaded after Circular e)
  named-there (suc n) name loaded e =
      let fresh : List ℕ → ℕ → Loading = λ l class. behind_needs class (load_needs p (load_named p n (path ++ class ∷ [])) (needs_of p class) l) in
      element-there (meaning_of name).element loaded
      (λ class_name. by_load_state (load_state_of path loaded (class_named p class_name)) class_name loaded (fresh loaded))
      (λ class_name. by_load_state (load_state_of path big (class_named p class_name)) class_name big (fresh big))
      (λ class_name h. class-there class_name loaded (fresh loaded) (class_named p class_name)
      (λ class. behind-there class (load_needs p (load_named p n (path ++ class ∷ [])) (needs_of p class) loaded).fault (load_needs p (load_named p n (path ++ class ∷ [])) (needs_of p class) loaded).loaded)
      h (fresh big)) e

-- ---- needs again

module _ (p : Program) (load : List ℕ → List ℕ → Loading)
    (named-again : (name loaded : List ℕ) → load name (load name loaded).loaded ≡ load name loaded)
    (named-there : (name loaded after big : List ℕ) → Within after big → load name loaded ≡ loading_done after → load name big ≡ loading_done big)
    (stays : (needs : List Need) (loaded : List ℕ) → Within loaded (load_needs p load needs loaded).loaded) where
  needs-again : (needs : List Need) (loaded : List ℕ) → load_needs p load needs (load_needs p load needs loaded).loaded ≡ load_needs p load needs loaded
  needs-again [] loaded = refl
  needs-again (n ∷ rest) loaded = by_fault (load n.name loaded).fault refl (needs-again rest)
    where
      by_need : (o : Option Fault) → need_fault p n ≡ o → (load n.name loaded).fault ≡ None
          → ((l : List ℕ) → load_needs p load rest (load_needs p load rest l).loaded ≡ load_needs p load rest l)
          → go_on (load n.name (unless o (load n.name loaded).loaded (load_needs p load rest)).loaded) (λ l. unless o l (load_needs p load rest))
          ≡ unless o (load n.name loaded).loaded (load_needs p load rest)
      by_need None is none others =
          ap (λ (l : Loading). go_on l (load_needs p load rest))
          (named-there n.name loaded (load n.name loaded).loaded (load_needs p load rest (load n.name loaded).loaded).loaded
          (stays rest (load n.name loaded).loaded)
          (ap (λ o. record { loaded = (load n.name loaded).loaded; fault = o }) none))
          ∙ others (load n.name loaded).loaded
      by_need (Some fault) is none others =
          ap (λ (l : Loading). go_on l (λ l. loading_failed l fault)) (named-again n.name loaded)
          ∙ ap (λ o. unless o (load n.name loaded).loaded (λ l. loading_failed l fault)) none

      by_fault : (o : Option Fault) → (load n.name loaded).fault ≡ o
          → ((l : List ℕ) → load_needs p load rest (load_needs p load rest l).loaded ≡ load_needs p load rest l)
          → go_on (load n.name (unless o (load n.name loaded).loaded (λ l. unless (need_fault p n) l (load_needs p load rest))).loaded)
          (λ l. unless (need_fault p n) l (load_needs p load rest))
          ≡ unless o (load n.name loaded).loaded (λ l. unless (need_fault p n) l (load_needs p load rest))
      by_fault None none others = by_need (need_fault p n) refl none others
      by_fault (Some fault) is others =
          ap (λ (l : Loading). go_on l (λ l. unless (need_fault p n) l (load_needs p load rest))) (named-again n.name loaded)
          ∙ ap (λ o. unless o (load n.name loaded).loaded (λ l. unless (need_fault p n) l (load_needs p load rest))) is

-- ---- a name again

module _ (p : Program) (path : List ℕ) (class : ℕ) (load : ℕ → List ℕ → Loading)
    (load-again : (loaded : List ℕ) → load class (load class loaded).loaded ≡ load class loaded)
    (not-there : (loaded : List ℕ) → is_among class loaded ≡ false → is_among class (load class loaded).loaded ≡ false) where
  -- a class that is neither loaded nor being loaded
  fresh-again : (name loaded : List ℕ) (o : Option Fault) → is_among class loaded ≡ false → is_among class path ≡ false → (load class loaded).fault ≡ o
      → by_load_state (load_state_of path (unless o (load class loaded).loaded (λ l. loading_done (l ++ class ∷ []))).loaded (Some class)) name
      (unless o (load class loaded).loaded (λ l. loading_done (l ++ class ∷ []))).loaded
      (λ c. behind_needs c (load c (unless o (load class loaded).loaded (λ l. loading_done (l ++ class ∷ []))).loaded))
      ≡ unless o (load class loaded).loaded (λ l. loading_done (l ++ class ∷ []))
  fresh-again name loaded None out off is =
      ap (λ b. by_load_state (if b then There else if is_among class path then Begun else Fresh class) name ((load class loaded).loaded ++ class ∷ [])
      (λ c. behind_needs c (load c ((load class loaded).loaded ++ class ∷ []))))
      (among-last class (load class loaded).loaded)
  fresh-again name loaded (Some fault) out off is =
      ap (λ b. by_load_state (if b then There else if is_among class path then Begun else Fresh class) name (load class loaded).loaded
      (λ c. behind_needs c (load c (load class loaded).loaded)))
      (not-there loaded out)
      ∙ (ap (λ b. by_load_state (if b then Begun else Fresh class) name (load class loaded).loaded (λ c. behind_needs c (load c (load class loaded).loaded))) off
      ∙ (ap (behind_needs class) (load-again loaded) ∙ ap (λ o. unless o (load class loaded).loaded (λ l. loading_done (l ++ class ∷ []))) is))

  class-again : (name loaded : List ℕ) (a b : Bool) → is_among class loaded ≡ a → is_among class path ≡ b
      → by_load_state (load_state_of path (by_load_state (if a then There else if b then Begun else Fresh class) name loaded (λ c. behind_needs c (load c loaded))).loaded (Some class)) name
      (by_load_state (if a then There else if b then Begun else Fresh class) name loaded (λ c. behind_needs c (load c loaded))).loaded
      (λ c. behind_needs c (load c (by_load_state (if a then There else if b then Begun else Fresh class) name loaded (λ c. behind_needs c (load c loaded))).loaded))
      ≡ by_load_state (if a then There else if b then Begun else Fresh class) name loaded (λ c. behind_needs c (load c loaded))
  class-again name loaded true b is on =
      ap (λ k. by_load_state (if k then There else if is_among class path then Begun else Fresh class) name loaded (λ c. behind_needs c (load c loaded))) is
  class-again name loaded false true is on =
      ap (λ k. by_load_state (if k then There else if is_among class path then Begun else Fresh class) name loaded (λ c. behind_needs c (load c loaded))) is
      ∙ ap (λ k. by_load_state (if k then Begun else Fresh class) name loaded (λ c. behind_needs c (load c loaded))) on
  class-again name loaded false false is on = fresh-again name loaded (load class loaded).fault is on refl

-- what a class needs, with the class on the path
abbrev within : Program → ℕ → List ℕ → ℕ → List ℕ → Loading
within p n path class loaded = load_needs p (load_named p n (path ++ class ∷ [])) (needs_of p class) loaded

-- the class of a name
abbrev by_name : Program → ℕ → List ℕ → List ℕ → List ℕ → Loading
by_name p n path loaded name =
    by_load_state (load_state_of path loaded (class_named p name)) name loaded (λ class. behind_needs class (within p n path class loaded))

module _ (p : Program) (n : ℕ) (path : List ℕ)
    (within-again : (class : ℕ) (loaded : List ℕ) → within p n path class (within p n path class loaded).loaded ≡ within p n path class loaded) where
  name-again : (name loaded : List ℕ) → by_name p n path (by_name p n path loaded name).loaded name ≡ by_name p n path loaded name
  name-again name loaded = by (class_named p name)
    where
      by : (o : Option ℕ)
          → by_load_state (load_state_of path (by_load_state (load_state_of path loaded o) name loaded (λ class. behind_needs class (within p n path class loaded))).loaded o) name
          (by_load_state (load_state_of path loaded o) name loaded (λ class. behind_needs class (within p n path class loaded))).loaded
          (λ class. behind_needs class (within p n path class (by_load_state (load_state_of path loaded o) name loaded (λ class. behind_needs class (within p n path class loaded))).loaded))
          ≡ by_load_state (load_state_of path loaded o) name loaded (λ class. behind_needs class (within p n path class loaded))
      by None = refl
      by (Some class) =
          class-again p path class (within p n path) (within-again class)
          (λ l out. not_loaded p class n (path ++ class ∷ []) (needs_of p class) l (among-last class path) out)
          name loaded (is_among class loaded) (is_among class path) refl refl

  element-again : (e : Element) (loaded : List ℕ)
      → load_element e (load_element e loaded (by_name p n path loaded)).loaded (by_name p n path (load_element e loaded (by_name p n path loaded)).loaded)
      ≡ load_element e loaded (by_name p n path loaded)
  element-again (Primitive code) loaded = refl
  element-again (Named name) loaded = name-again name loaded

named-again : (p : Program) (depth : ℕ) (path name loaded : List ℕ)
    → load_named p depth path name (load_named p depth path name loaded).loaded ≡ load_named p depth path name loaded
named-again p zero path name loaded = refl
named-again p (suc n) path name loaded =
    element-again p n path
    (λ class l. needs-again p (load_named p n (path ++ class ∷ [])) (named-again p n (path ++ class ∷ []))
    (λ name l after big inside e. named-there p (path ++ class ∷ []) after big inside n name l e)
    (λ needs l c there. needs_stay p c n (path ++ class ∷ []) needs l there)
    (needs_of p class) l)
    (meaning_of name).element loaded

pub loads-again : (p : Program) (loaded name : List ℕ) → load_of p (load_of p loaded name).loaded name ≡ load_of p loaded name
loads-again p loaded name = named-again p _ [] name loaded

-- ---- what an instruction loads before it is attempted

abbrev named : Program → List ℕ → SymbolicReference → Loading
named p loaded n = load_of p loaded (resolved_name n)

load-extends : (p : Program) (loaded name : List ℕ) → Extends loaded (load_of p loaded name).loaded
load-extends p loaded name =
    named_kept p (λ l. Extends loaded l) [] (λ l class out e. Extends-trans e (Extends-appended l (class ∷ []))) _ [] (λ c out. refl) name loaded (Extends-same loaded)

extended : (before after : List ℕ) → Extends before after → before ++ drop (length before) after ≡ after
extended before after e =
    ap (λ l. before ++ drop (length before) l) e.longer ∙ (ap (λ l. before ++ l) (drop-append_seam before e.more) ∙ sym e.longer)

-- what is loaded then is what the resolution loads
pub newly-loaded : (p : Program) (loaded : List ℕ) (n : SymbolicReference) (o : Operands) → resolves n o ≡ true
    → loaded ++ newly_loaded p loaded n o ≡ (load_of p loaded (resolved_name n)).loaded
newly-loaded p loaded n o does =
    ap (λ b. loaded ++ (if b then drop (length loaded) (named p loaded n).loaded else [])) does
    ∙ extended loaded (named p loaded n).loaded (load-extends p loaded (resolved_name n))

-- and the rule finds by the name what the load ended with
pub resolved-again : (p : Program) (loaded : List ℕ) (n : SymbolicReference) (o : Operands) → resolves n o ≡ true
    → resolved_kind p (loaded ++ newly_loaded p loaded n o) (resolved_name n) ≡ resolved_kind p loaded (resolved_name n)
resolved-again p loaded n o does =
    ap (λ l. resolved_kind p l (resolved_name n)) (newly-loaded p loaded n o does)
    ∙ ap (λ (l : Loading). kind_unless l.fault (kind_named p (resolved_name n))) (loads-again p loaded (resolved_name n))

-- another attempt loads nothing
pub newly-again : (p : Program) (loaded : List ℕ) (n : SymbolicReference) (o : Operands) → newly_loaded p (loaded ++ newly_loaded p loaded n o) n o ≡ []
newly-again p loaded n o = by (resolves n o) refl
  where
    by : (b : Bool) → resolves n o ≡ b
        → (if b then drop (length (loaded ++ newly_loaded p loaded n o)) (named p (loaded ++ newly_loaded p loaded n o) n).loaded else []) ≡ []
    by false does = refl
    by true does =
        ap (λ l. drop (length l) (named p l n).loaded) (newly-loaded p loaded n o does)
        ∙ (ap (λ (l : Loading). drop (length (named p loaded n).loaded) l.loaded) (loads-again p loaded (resolved_name n))
        ∙ drop-length (named p loaded n).loaded)
