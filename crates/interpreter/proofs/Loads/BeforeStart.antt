-- Before the start the built-in classes are loaded, those of exceptions among them, and so is the class of each object
-- that is there.
use Rattle.std.proofs.Common.{◌≡◌, ℕ, zero, suc, Bool, true, false, List, [], ◌∷◌, Option, None, Some, refl, sym, ap, subst, ◌∙◌}
use Rattle.std.specs.Prelude.{IfSome, map, slice_get, unwrap_or, ◌||◌}
use Rattle.std.specs.List.{list_any}
use Rattle.std.proofs.lemmas.Slice.Eq.{bytes_eq-Decides}
use Rattle.const_pool.specs.BuiltIn.{built_in_names}
use Rattle.heap_objects.specs.Heaps.{HeapView}
use Rattle.frame_stack.specs.FrameLists.{PlacedFrame}
use Rattle.jvm_model.specs.declared.exception.Exception.{Exception}
use Rattle.jvm_model.specs.declared.exception.Exception.TheVariants.{AbstractMethod, Arithmetic, ArrayStore, ClassCast, ClassCircularity, IncompatibleClassChange, InInitializer, IndexOutside, Instantiation, NegativeArraySize, NoClassDefinition, NoSuchField, NoSuchMethod, NullPointer, StackOverflow, UnsatisfiedLink, BuiltIn}
use Rattle.jvm_model.specs.declared.program.Program.{Program}
use Rattle.jvm_model.specs.declared.state.Shared.{Shared}
use Rattle.jvm_model.specs.declared.state.State.{State}
use Rattle.jvm_model.specs.Basis.Data.{World}
use Rattle.jvm_model.specs.Basis.Descriptors.{same_text}
use Rattle.jvm_model.specs.Basis.SharedState.{kind_for, shared_before, string, throwable}
use Rattle.jvm_model.specs.Instructions.Exceptions.{exception_name}
use Rattle.jvm_model.specs.Running.Run.{before}
use Rattle.jvm_model.specs.Soundness.Sound.{IsBuiltInName, IsFit}
use Rattle.jvm_model.proofs.Soundness.SoundKinds.{has-root, kind-usable}
use Rattle.jvm_model.proofs.Soundness.SoundObjects.{before-sound}
use Rattle.class_linker.specs.Linkers.{LinkerView}
use Rattle.symbolic_references.specs.declared.runtime.Beginning.{Beginning}
use Rattle.symbolic_references.specs.Natives.{HasBuiltIn}
use Rattle.member_selection.specs.Objects.{AreLoaded, IsUsable}
use Rattle.symbolic_references.specs.ProgramFacts.{HasExceptions}
use Rattle.prepared_code.specs.States.{active}

-- ---- names of built-in classes

-- a name of the list, where there is one, is among them
found-among : (names : List (List ℕ)) (place : ℕ) → IfSome (slice_get names place) (λ name. list_any (same_text name) names ≡ true)
found-among [] place = tt
found-among (x ∷ names) zero = ap (λ b. b || list_any (same_text x) names) ((bytes_eq-Decides x x).1 refl)
found-among (x ∷ names) (suc place) = among-more x names (slice_get names place) (found-among names place)
  where
    by : (b c : Bool) → c ≡ true → (b || c) ≡ true
    by true c is = refl
    by false c is = is

    among-more : (x : List ℕ) (names : List (List ℕ)) (found : Option (List ℕ)) → IfSome found (λ name. list_any (same_text name) names ≡ true)
        → IfSome found (λ name. list_any (same_text name) (x ∷ names) ≡ true)
    among-more x names None is = tt
    among-more x names (Some name) is = by (same_text name x) (list_any (same_text name) names) is

-- the name at a place, or another that is built-in too
named-or : (found : Option (List ℕ)) (other : List ℕ) → IfSome found IsBuiltInName → IsBuiltInName other → IsBuiltInName (unwrap_or found other)
named-or None other is is_other = is_other
named-or (Some name) other is is_other = is

named-built-in : (e : Exception) → IsBuiltInName (exception_name e)
named-built-in AbstractMethod = refl
named-built-in Arithmetic = refl
named-built-in ArrayStore = refl
named-built-in ClassCast = refl
named-built-in ClassCircularity = refl
named-built-in IncompatibleClassChange = refl
named-built-in InInitializer = refl
named-built-in IndexOutside = refl
named-built-in Instantiation = refl
named-built-in NegativeArraySize = refl
named-built-in NoClassDefinition = refl
named-built-in NoSuchField = refl
named-built-in NoSuchMethod = refl
named-built-in NullPointer = refl
named-built-in StackOverflow = refl
named-built-in UnsatisfiedLink = refl
named-built-in (BuiltIn place) = named-or (slice_get built_in_names place) throwable (found-among built_in_names place) refl

-- ---- over a linker

module _ (p : Program) (fit : IsFit p) where
  abbrev linker : LinkerView
  linker = record { program = p; loaded = (shared_before p).loaded }

  usable : (name : List ℕ) → IsBuiltInName name → IsUsable linker (kind_for p name)
  usable name known = kind-usable p fit (shared_before p).loaded fit.before name known

  linker-is : (l : LinkerView) → l.program ≡ p → l.loaded ≡ (shared_before p).loaded → linker ≡ l
  linker-is l program loaded =
      sym (ap (λ q. let m : LinkerView = record { program = q; loaded = l.loaded } in m) program
      ∙ ap (λ (classes : List ℕ). let m : LinkerView = record { program = p; loaded = classes } in m) loaded)

  pub built-in-before : (l : LinkerView) → l.program ≡ p → l.loaded ≡ (shared_before p).loaded → HasBuiltIn l
  built-in-before l program loaded = subst HasBuiltIn (linker-is l program loaded) fit.before

  pub exceptions-before : (l : LinkerView) → l.program ≡ p → l.loaded ≡ (shared_before p).loaded → HasExceptions l
  exceptions-before l program loaded =
      subst HasExceptions (linker-is l program loaded) (record { each = λ e. usable (exception_name e) (named-built-in e); text = usable string refl })

  pub objects-before : (l : LinkerView) (heap : HeapView) → l.program ≡ p → l.loaded ≡ (shared_before p).loaded → heap ≡ (shared_before p).heap → AreLoaded l heap
  objects-before l heap program loaded objects =
      subst (λ (h : HeapView). AreLoaded l h) (sym objects)
      (subst (λ (m : LinkerView). AreLoaded m (shared_before p).heap) (linker-is l program loaded) (record {
        objects = (before-sound p fit).objects;
        root = has-root p fit (shared_before p).loaded fit.before;
      }))

-- ---- the state

pub state-before : (w : World) (fs : List PlacedFrame) (s : Shared) (output : List ℕ) → fs ≡ [] → s ≡ shared_before w.program → output ≡ []
    → (let state : State = record { stack = map active fs; thrown = (before w).thrown; begun = false; shared = s; output = output; ending = (before w).ending } in state) ≡ before w
state-before w fs s output none shared nothing =
    ap (λ (fs : List PlacedFrame). let state : State = record { stack = map active fs; thrown = (before w).thrown; begun = false; shared = s; output = output; ending = (before w).ending } in state) none
    ∙ (ap (λ (s : Shared). let state : State = record { stack = []; thrown = (before w).thrown; begun = false; shared = s; output = output; ending = (before w).ending } in state) shared
    ∙ ap (λ (out : List ℕ). let state : State = record { stack = []; thrown = (before w).thrown; begun = false; shared = shared_before w.program; output = out; ending = (before w).ending } in state) nothing)

-- what all share then
pub shared-before : (p q : Program) (loaded : List ℕ) (b : Beginning) → q ≡ p → loaded ≡ (shared_before p).loaded → b.phases ≡ (shared_before q).phases
    → b.statics ≡ (shared_before q).statics → b.heap ≡ (shared_before q).heap → b.made ≡ (shared_before q).made
    → (let s : Shared = record { loaded = loaded; phases = b.phases; statics = b.statics; heap = b.heap; made = b.made; read = 0 } in s) ≡ shared_before p
shared-before p q loaded b same loads phased valued held makes =
    ap (λ x. let s : Shared = record { loaded = x; phases = b.phases; statics = b.statics; heap = b.heap; made = b.made; read = 0 } in s) loads
    ∙ (ap (λ x. let s : Shared = record { loaded = (shared_before p).loaded; phases = x; statics = b.statics; heap = b.heap; made = b.made; read = 0 } in s) phased
    ∙ (ap (λ x. let s : Shared = record { loaded = (shared_before p).loaded; phases = (shared_before q).phases; statics = x; heap = b.heap; made = b.made; read = 0 } in s) valued
    ∙ (ap (λ x. let s : Shared = record { loaded = (shared_before p).loaded; phases = (shared_before q).phases; statics = (shared_before q).statics; heap = x; made = b.made; read = 0 } in s) held
    ∙ (ap (λ x. let s : Shared = record { loaded = (shared_before p).loaded; phases = (shared_before q).phases; statics = (shared_before q).statics; heap = (shared_before q).heap; made = x; read = 0 } in s) makes
    ∙ ap (λ (x : Program). let s : Shared = record { loaded = (shared_before p).loaded; phases = (shared_before x).phases; statics = (shared_before x).statics; heap = (shared_before x).heap; made = (shared_before x).made; read = 0 } in s) same))))
