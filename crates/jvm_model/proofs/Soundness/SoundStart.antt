-- The start gives a sound state, or one in which it was refused (JVM Specification 5.2, 5.3).
use Rattle.std.proofs.Common.{◌≡◌, ℕ, Bool, true, false, [], ap, sym, subst, refl, ◌∙◌, ◌⊎◌, inl, inr}
use Rattle.std.specs.Prelude.{Option, Some, None, unwrap_or}
use Rattle.jvm_model.specs.Basis.Data.{State, World}
use Rattle.jvm_model.specs.Classes.Kinds.{meaning_of}
use Rattle.jvm_model.specs.Classes.Load.{Fault, NoClass, Circular, Incompatible, error_of}
use Rattle.jvm_model.specs.Instructions.SymbolicReference.{New, message_of}
use Rattle.jvm_model.specs.Basis.Programs.{name_at}
use Rattle.jvm_model.specs.Running.Run.{arguments_made, before, main_class, main_classes, main_loading, run_opened, starts_if, starts_unless}
use Rattle.jvm_model.specs.Basis.SharedState.{null, exception_raised, shared_before, with_arguments}
use Rattle.jvm_model.specs.Soundness.Sound.{HasSupertypes, IsBuiltInName, IsFit, IsLoaded, IsSoundShared}
use Rattle.jvm_model.specs.Soundness.SoundListings.{IsSound}
use Rattle.jvm_model.proofs.Running.Attempts.{with_loaded-shared}
use Rattle.jvm_model.proofs.Loading.LoadsAgain.{newly-loaded}
use Rattle.jvm_model.proofs.Soundness.SoundClasses.{load-supertypes, load-there, plain-element}
use Rattle.jvm_model.proofs.Soundness.SoundObjects.{arguments-sound, before-sound, exception-sound, with-heap}
use Rattle.jvm_model.proofs.Soundness.SoundRuns.{shared-more, with-loaded-is}

-- `Runs` tells which versions a frame of a method can be in
module _ (Runs : ℕ → ℕ → Type 0) (w : World) (fit : IsFit w.program) where
  -- the arguments do not fit, or loading the main class was refused
  pub record IsRefused (s : State) : Type 0 where
    pub object : ℕ
    pub shared : IsSoundShared w.program s.shared
    pub stack : s.stack ≡ []
    pub ending : s.ending ≡ None
    pub thrown : s.thrown ≡ Some object

  abbrev given : State
  given = arguments_made w (before w)

  abbrev loaded_state : State
  loaded_state = run_opened w

  main-loaded : loaded_state.shared.loaded ≡ (main_loading w).loaded
  main-loaded = with-loaded-is (main_classes w) given ∙ newly-loaded w.program (before w).shared.loaded (New (unwrap_or (name_at w.program (main_class w.program)) [])) [] refl

  given-sound : IsSoundShared w.program given.shared
  given-sound =
      with-heap w.program (shared_before w.program) (with_arguments w.program (shared_before w.program).heap) (before-sound w.program fit)
      (arguments-sound w.program fit (shared_before w.program).loaded fit.before (shared_before w.program).heap (before-sound w.program fit).objects)

  loaded-sound : IsSoundShared w.program loaded_state.shared
  loaded-sound =
      shared-more w.program (main_classes w) given
      (subst (HasSupertypes w.program) (sym (sym (with-loaded-is (main_classes w) given) ∙ main-loaded))
      (load-supertypes w.program (before w).shared.loaded (unwrap_or (name_at w.program (main_class w.program)) []) fit.above))
      given-sound

  main-there : (main_loading w).fault ≡ None → IsLoaded loaded_state.shared.loaded (main_class w.program)
  main-there none =
      let named : unwrap_or (name_at w.program (main_class w.program)) [] ≡ fit.main.name = ap (λ o. unwrap_or o []) fit.main.named in
      subst (λ loaded. IsLoaded loaded (main_class w.program)) (sym main-loaded)
      (load-there w.program (before w).shared.loaded (unwrap_or (name_at w.program (main_class w.program)) []) none fit.main.name
      (ap (λ name. (meaning_of name).element) named ∙ plain-element fit.main.name fit.main.plain)
      (main_class w.program) (fit.names (main_class w.program) fit.main.name fit.main.named))

  fault-named : (fault : Fault) → IsBuiltInName (error_of fault)
  fault-named (NoClass name) = refl
  fault-named Circular = refl
  fault-named Incompatible = refl

  begins : (o : Option Fault) → (main_loading w).fault ≡ o → IsSound Runs w.program (starts_unless w o loaded_state) ⊎ IsRefused (starts_unless w o loaded_state)
  begins None none = inl (record {
    shared = record { built_in = loaded-sound.built_in; above = loaded-sound.above; objects = loaded-sound.objects };
    stack = (main-there none, tt);
    main = λ on. main-there none;
  })
  begins (Some fault) is = inr (record {
    object = (exception_raised w loaded_state.shared (error_of fault) (message_of fault)).reference;
    shared = (exception-sound w fit loaded_state.shared loaded-sound (error_of fault) (message_of fault) null (fault-named fault)).shared;
    stack = ap (λ (s : State). s.stack) (with_loaded-shared (main_classes w) given);
    ending = ap (λ (s : State). s.ending) (with_loaded-shared (main_classes w) given);
    thrown = refl;
  })

  -- or there is no room for the arguments
  pub begins-if : (fits : Bool) → IsSound Runs w.program (starts_if w fits) ⊎ IsRefused (starts_if w fits)
  begins-if true = begins (main_loading w).fault refl
  begins-if false = inr (record { object = 1; shared = before-sound w.program fit; stack = refl; ending = refl; thrown = refl })
