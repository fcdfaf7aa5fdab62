-- The attempt of any instruction keeps what is shared sound (JVM Specification 6.5), and an instruction of original
-- code can be attempted.
use Rattle.std.proofs.Common.{◌≡◌, ℕ, Bool, true, false, List, [], ◌∷◌, refl}
use Rattle.std.specs.Prelude.{drop, Option, Some, None, ℤ, if◌then◌else◌}
use Rattle.heap_objects.specs.declared.datum.Datum.{Datum}
use Rattle.heap_objects.specs.declared.Value.TheVariants.{Ref}
use Rattle.heap_objects.specs.Heaps.{HeapView, interned_number, with_interned, with_slot_at}
use Rattle.const_pool.specs.declared.descriptor.Kind.{Kind}
use Rattle.jvm_model.specs.Basis.Data.{Locals, Operands, Local, Shared, Operation, Within, Named, Athrow, Monitor, Newarray, Arraylength, LoadElement, StoreElement, LdcString, Outcome, GoesOn, Next, Throws, Raises, Breaks, Done, World}
use Rattle.jvm_model.specs.Instructions.ConstantRules.{pushes_string}
use Rattle.jvm_model.specs.Running.Constants.{can_intern}
use Rattle.jvm_model.specs.Instructions.Does.{does, loads}
use Rattle.jvm_model.specs.Instructions.LocalRules.{within}
use Rattle.jvm_model.specs.Instructions.ObjectRules.{Access, ToNull, ToAnother, Outside, Inside, Storing, access_to, done, fits_array, loads_element, measures, array_element_of, access_refused, stores_at, stores_element, storing_of, throws, watches}
use Rattle.jvm_model.specs.Basis.SharedState.{array_store, kind_for, string}
use Rattle.jvm_model.specs.Soundness.Sound.{CanAttempt, IsFit, IsSoundDone, IsSoundOutcome, IsSoundShared}
use Rattle.jvm_model.specs.Basis.Values.{int_of, ref_of}
use Rattle.jvm_model.proofs.Soundness.IdleRules.{IsIdle, idle-sound, element-idle, measures-idle, refused-idle, throws-idle, watches-idle, within-idle}
use Rattle.jvm_model.proofs.Soundness.SoundKinds.{has-root, kind-usable, primitive}
use Rattle.jvm_model.proofs.Soundness.SoundObjects.{objects-interned, objects-slot, with-heap}
use Rattle.jvm_model.proofs.Soundness.SoundRules.{array-fine, sound-named}

module _ (w : World) (fit : IsFit w.program) (s : Shared) (is : IsSoundShared w.program s) where
  quiet : (outcome : Outcome) → IsSoundOutcome w.program s.loaded outcome → IsSoundDone w.program s.loaded (done s outcome)
  quiet outcome sound = record { loaded_same = refl; shared = is; outcome = sound }

  idle : (outcome : Outcome) → IsIdle outcome → IsSoundDone w.program s.loaded (done s outcome)
  idle outcome is_idle = quiet outcome (idle-sound w.program s.loaded outcome is_idle)

  stores-fine : (access : Access) (r : ℕ) (i : ℤ) (d : Datum) (l : Locals) (o : Operands) → IsSoundDone w.program s.loaded (stores_at w.program access r i d s l o)
  stores-fine ToNull r i d l o = idle (access_refused ToNull i) (refused-idle ToNull i)
  stores-fine ToAnother r i d l o = idle (access_refused ToAnother i) (refused-idle ToAnother i)
  stores-fine Outside r i d l o = idle (access_refused Outside i) (refused-idle Outside i)
  stores-fine (Inside slot) r i d l o = by (fits_array w.program d r s.heap)
    where
      by : (b : Bool) → IsSoundDone w.program s.loaded (let d1 : Done = if b
          then record { shared = record s { heap = with_slot_at r slot d s.heap }; wrote = []; outcome = GoesOn l (drop 3 o) Next }
          else done s (Raises array_store None) in d1)
      by true = record {
        loaded_same = refl;
        shared = with-heap w.program s (with_slot_at r slot d s.heap) is (objects-slot w.program s.loaded r slot d s.heap is.objects);
        outcome = tt;
      }
      by false = quiet (Raises array_store None) refl

  store-fine : (k : Kind) (storing : Option Storing) (l : Locals) (o : Operands) → IsSoundDone w.program s.loaded (stores_element w.program k storing s l o)
  store-fine k None l o = quiet (Breaks false) tt
  store-fine k (Some x) l o = stores-fine (access_to k x.array x.index s.heap) x.array x.index x.datum l o

  string-fine : (units : List ℕ) (l : Locals) (o : Operands) → IsSoundDone w.program s.loaded (pushes_string w.program units s l o)
  string-fine units l o = by (can_intern units s.heap)
    where
      interned : HeapView
      interned = with_interned (kind_for w.program string) units s.heap

      by : (b : Bool) → IsSoundDone w.program s.loaded (let d : Done = if b
          then done (record s { heap = interned }) (GoesOn l (Ref (interned_number units s.heap) ∷ o) Next)
          else done s (Throws 1) in d)
      by true = record {
        loaded_same = refl;
        shared = with-heap w.program s interned is
            (objects-interned w.program s.loaded (kind_for w.program string) units s.heap
            (kind-usable w.program fit s.loaded is.built_in string refl) is.objects);
        outcome = tt;
      }
      by false = quiet (Throws 1) tt

  pub sound-does : (op : Operation Local) (l : Locals) (o : Operands) → CanAttempt w.program s.loaded op → loads w op s o ≡ []
      → IsSoundDone w.program s.loaded (does w op s l o)
  sound-does (Within i) l o can nothing = idle (within i l o) (within-idle i l o)
  sound-does (Named n) l o can nothing = sound-named w fit s is n l o can.0 can.1 nothing
  sound-does Athrow l o can nothing = idle (throws w s (ref_of o)) (throws-idle w s (ref_of o))
  sound-does Monitor l o can nothing = idle (watches (ref_of o) l o) (watches-idle (ref_of o) l o)
  sound-does (Newarray kind) l o can nothing =
      array-fine w fit s is kind (int_of o) l o (primitive w.program s.loaded (has-root w.program fit s.loaded is.built_in) kind can)
  sound-does Arraylength l o can nothing = idle (measures (ref_of o) s l o) (measures-idle (ref_of o) s l o)
  sound-does (LoadElement k) l o can nothing = idle (loads_element k (array_element_of o) s l o) (element-idle k (array_element_of o) s l o)
  sound-does (StoreElement k) l o can nothing = store-fine k (storing_of k o) l o
  sound-does (LdcString units) l o can nothing = string-fine units l o
