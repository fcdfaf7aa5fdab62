-- What an instruction loads keeps what is shared sound, and nothing is left to load then (JVM Specification 5.3).
use Rattle.std.proofs.Common.{◌≡◌, ℕ, Bool, true, false, List, [], ◌∷◌, ◌++◌, ap, sym, subst, refl, ◌∙◌}
use Rattle.std.proofs.lemmas.List.{append-nil}
use Rattle.std.specs.Prelude.{drop, length, if◌then◌else◌}
use Rattle.jvm_model.specs.Basis.Data.{Operands, Shared, State, Local, Operation, Within, Named, Athrow, Monitor, Newarray, Arraylength, LoadElement, StoreElement, LdcString, Program, World}
use Rattle.jvm_model.specs.Instructions.Does.{does, loads}
use Rattle.jvm_model.specs.Classes.Load.{load_of}
use Rattle.jvm_model.specs.Instructions.SymbolicReference.{newly_loaded, resolved_name, resolves}
use Rattle.jvm_model.specs.Running.Run.{with_classes_loaded}
use Rattle.jvm_model.specs.Soundness.Sound.{HasSupertypes, IsSoundShared}
use Rattle.jvm_model.proofs.Loading.LoadsAgain.{newly-again, newly-loaded}
use Rattle.jvm_model.proofs.Soundness.SoundClasses.{load-supertypes}
use Rattle.jvm_model.proofs.Soundness.SoundObjects.{objects-grow}
use Rattle.jvm_model.proofs.Loading.Among.{among-front}

-- ---- classes are loaded

pub with-loaded-is : (classes : List ℕ) (s : State) → (with_classes_loaded classes s).shared.loaded ≡ s.shared.loaded ++ classes
with-loaded-is [] s = sym (append-nil s.shared.loaded)
with-loaded-is (c ∷ more) s = refl

pub loads-supertypes : (w : World) (op : Operation Local) (s : Shared) (o : Operands) → HasSupertypes w.program s.loaded → HasSupertypes w.program (s.loaded ++ loads w op s o)
loads-supertypes w (Named n) s o above = by (resolves n o) refl
  where
    by : (b : Bool) → resolves n o ≡ b → HasSupertypes w.program (s.loaded ++ newly_loaded w.program s.loaded n o)
    by true does =
        subst (HasSupertypes w.program) (sym (newly-loaded w.program s.loaded n o does)) (load-supertypes w.program s.loaded (resolved_name n) above)
    by false does =
        subst (HasSupertypes w.program)
        (sym (ap (λ (b : Bool). s.loaded ++ (if b then drop (length s.loaded) (load_of w.program s.loaded (resolved_name n)).loaded else [])) does ∙ append-nil s.loaded)) above
loads-supertypes w (Within i) s o above = subst (HasSupertypes w.program) (sym (append-nil s.loaded)) above
loads-supertypes w Athrow s o above = subst (HasSupertypes w.program) (sym (append-nil s.loaded)) above
loads-supertypes w Monitor s o above = subst (HasSupertypes w.program) (sym (append-nil s.loaded)) above
loads-supertypes w (Newarray kind) s o above = subst (HasSupertypes w.program) (sym (append-nil s.loaded)) above
loads-supertypes w Arraylength s o above = subst (HasSupertypes w.program) (sym (append-nil s.loaded)) above
loads-supertypes w (LoadElement k) s o above = subst (HasSupertypes w.program) (sym (append-nil s.loaded)) above
loads-supertypes w (StoreElement k) s o above = subst (HasSupertypes w.program) (sym (append-nil s.loaded)) above
loads-supertypes w (LdcString units) s o above = subst (HasSupertypes w.program) (sym (append-nil s.loaded)) above

-- what is loaded is looked at alone
pub loads-same : (w : World) (op : Operation Local) (a b : Shared) (o : Operands) → a.loaded ≡ b.loaded → loads w op a o ≡ loads w op b o
loads-same w (Named n) a b o e = ap (λ loaded. newly_loaded w.program loaded n o) e
loads-same w (Within i) a b o e = refl
loads-same w Athrow a b o e = refl
loads-same w Monitor a b o e = refl
loads-same w (Newarray kind) a b o e = refl
loads-same w Arraylength a b o e = refl
loads-same w (LoadElement k) a b o e = refl
loads-same w (StoreElement k) a b o e = refl
loads-same w (LdcString units) a b o e = refl

-- nothing is left to load then
pub loads-again : (w : World) (op : Operation Local) (s : State) (o : Operands) → loads w op (with_classes_loaded (loads w op s.shared o) s).shared o ≡ []
loads-again w (Named n) s o =
    ap (λ loaded. newly_loaded w.program loaded n o) (with-loaded-is (newly_loaded w.program s.shared.loaded n o) s) ∙ newly-again w.program s.shared.loaded n o
loads-again w (Within i) s o = refl
loads-again w Athrow s o = refl
loads-again w Monitor s o = refl
loads-again w (Newarray kind) s o = refl
loads-again w Arraylength s o = refl
loads-again w (LoadElement k) s o = refl
loads-again w (StoreElement k) s o = refl
loads-again w (LdcString units) s o = refl

pub shared-more : (p : Program) (classes : List ℕ) (s : State) → HasSupertypes p (s.shared.loaded ++ classes) → IsSoundShared p s.shared
    → IsSoundShared p (with_classes_loaded classes s).shared
shared-more p [] s above is = is
shared-more p (c ∷ more) s above is = record {
  built_in = record {
    whole = is.built_in.whole;
    each = λ class behind within. among-front class s.shared.loaded (c ∷ more) (is.built_in.each class behind within);
  };
  above = above;
  objects = objects-grow p s.shared.loaded (s.shared.loaded ++ c ∷ more) (λ class h. among-front class s.shared.loaded (c ∷ more) h) s.shared.heap.objects is.objects;
}
