-- ldc and ldc_w of a String and of a Class (JVM Specification 5.1, 6.5). Where there is no room for the object, object
-- 1 is thrown.
use Rattle.std.specs.Prelude.{ℕ, List, ◌∷◌, if◌then◌else◌}
use Rattle.heap_objects.specs.declared.Value.TheVariants.{Ref}
use Rattle.heap_objects.specs.Heaps.{interned_number, with_interned}
use Rattle.native_effects.specs.Effects.Making.{answer_of_class, heap_after_class, made_after_class}
use Rattle.jvm_model.specs.Running.Constants.{can_intern}
use Rattle.jvm_model.specs.Basis.Data.{Locals, Operands, Program, Shared, Next, GoesOn, Throws, Done}
use Rattle.jvm_model.specs.Instructions.SymbolicReference.{resolved_kind, unless_refused}
use Rattle.jvm_model.specs.Instructions.NativeRules.{outcome_of}
use Rattle.jvm_model.specs.Instructions.ObjectRules.{done}
use Rattle.jvm_model.specs.Basis.SharedState.{kind_for, string}

-- a String is made once for equal units
abbrev pub pushes_string : Program → List ℕ → Shared → Locals → Operands → Done
pushes_string p units s l o =
    if can_intern units s.heap
    then done (record s { heap = with_interned (kind_for p string) units s.heap }) (GoesOn l (Ref (interned_number units s.heap) ∷ o) Next)
    else done s (Throws 1)

-- the one Class object of this kind, as Object.getClass gives it
abbrev pub pushes_object_of : ℕ → Shared → Locals → Operands → Done
pushes_object_of kind s l o =
    done (record s { heap = heap_after_class kind s.made s.heap; made = made_after_class kind s.heap s.made })
    (outcome_of (answer_of_class kind s.made s.heap) l o)

-- of the class, or the array, that the name stands for
abbrev pub pushes_class : Program → List ℕ → Shared → Locals → Operands → Done
pushes_class p name s l o = unless_refused s (resolved_kind p s.loaded name) (λ kind. pushes_object_of kind s l o)
