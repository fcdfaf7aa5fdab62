-- What is invoked of a method that was selected is known by its number.
use Rattle.std.proofs.Common.{◌≡◌, ℕ, false, List, Some, None, ap, ◌∙◌}
use Rattle.std.specs.Prelude.{if◌then◌else◌}
use Rattle.std.specs.Option.{option_map_or}
use Rattle.heap_objects.specs.declared.datum.Datum.{Datum}
use Rattle.jvm_model.specs.declared.state.Shared.{Shared}
use Rattle.jvm_model.specs.Basis.Data.{Locals, Operands, World, Invokes, Raises, Breaks}
use Rattle.jvm_model.specs.Instructions.InvocationRules.{abstract_method, invokes_number, invokes_selected, method_reference, unsatisfied_link}
use Rattle.jvm_model.specs.Classes.Lookup.{MemberPlace}
use Rattle.jvm_model.specs.Instructions.NativeRules.{runs_native, runs_number}
use Rattle.jvm_model.specs.Instructions.ObjectRules.{done}
use Rattle.jvm_model.specs.Basis.Programs.{number_of_method}
use Rattle.member_selection.specs.Callees.{IsCode, IsNative}

module _ (w : World) (m : MemberPlace) (args : List Datum) (s : Shared) (l : Locals) (below : Operands) where
  -- a method that has Code
  pub code-invoked : (n : ℕ) → IsCode w.program m n → invokes_selected w (Some m) args s l below ≡ done s (Invokes n args below)
  code-invoked n is =
      ap (λ b. if b then done s (Raises abstract_method None) else invokes_number w m (number_of_method w.program m.class m.position) args s l below) is.concrete
      ∙ ap (λ o. invokes_number w m o args s l below) is.numbered

  -- a native method of a built-in class, by its number
  pub native-invoked : (n : ℕ) → IsNative w.program m n → invokes_selected w (Some m) args s l below ≡ runs_number w n args s l below
  native-invoked n is =
      ap (λ b. if b then done s (Raises abstract_method None) else invokes_number w m (number_of_method w.program m.class m.position) args s l below) is.concrete
      ∙ (ap (λ o. invokes_number w m o args s l below) is.codeless
      ∙ (ap (λ b. if b then done s (Raises unsatisfied_link None) else runs_native w (method_reference w.program m) args s l below) is.built_in
      ∙ ap (λ o. option_map_or (λ number. runs_number w number args s l below) o (done s (Breaks false))) is.named))
