-- The constant of a field as the code has it, and the static fields of all classes with one of them set.
use Rattle.std.specs.Prelude.{◌≡◌, ℕ, List, Option, Result, IfOk, slice_get, slice_set}
use Rattle.std.specs.Option.{option_map_or}
use Rattle.jvm_model.specs.Running.Constants as model
use Rattle.heap_objects.specs.declared.datum.Datum.{Datum}
use Rattle.jvm_model.specs.declared.state.Shared.{Shared}
use Rattle.jvm_model.specs.Basis.SharedState.{Field}
use Rattle.jf_bytes.specs.declared.error.NoMemory.{NoMemory}
use Rattle.symbolic_references.specs.declared.runtime.constants.FieldConstant.{FieldConstant}
use Rattle.symbolic_references.specs.declared.runtime.constants.FieldConstant.TheVariants.{Number, Units}

-- ---- constants

abbrev pub constant_view : FieldConstant → model.FieldConstant
constant_view (Number d) = model.Number d
constant_view (Units text) = model.Units text.now

-- ---- static fields

abbrev pub field_of : ℕ → ℕ → Field
field_of class position = record { class = class; position = position }

abbrev pub with_static_in : List (List Datum) → ℕ → ℕ → Datum → List (List Datum)
with_static_in statics class position d =
    option_map_or (λ fields. slice_set statics class (slice_set fields position d)) (slice_get statics class) statics

-- ---- setting

-- unless memory ran out, what is shared and the object that is thrown are those of the definition
abbrev pub IsSetting : Result (Option ℕ) NoMemory → Shared → model.Setting → Type 0
IsSetting result shared s = IfOk result (λ thrown. (thrown ≡ s.thrown) × (shared ≡ s.shared))
