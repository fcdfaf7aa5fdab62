-- Reading a descriptor unit by unit, as this crate does it: the stages, and what a unit makes of each.
use Rattle.std.specs.Prelude.{◌≡◌, ℕ, zero, suc, ◌+◌, ◌-◌, List, [], ◌++◌, Option, Some, None, Result, Ok, Err, ◌==◌, ◌||◌, nat_lt, if◌then◌else◌}
use Rattle.std.specs.Option.{option_map, option_to_list}
use Rattle.const_pool.specs.declared.descriptor.Kind.{Kind}
use Rattle.const_pool.specs.declared.descriptor.Kind.TheVariants.{Int, Long, Ref, Byte, Bool as boolean, Char, Short, Float, Double}
use Rattle.const_pool.specs.declared.descriptor.Shape.{Shape}
use Rattle.const_pool.specs.declared.descriptor.DescriptorError.{DescriptorError}
use Rattle.const_pool.specs.declared.descriptor.DescriptorError.TheVariants.{BadDescriptor, NoMemory}
use Rattle.const_pool.specs.declared.stages.Front.{Front}
use Rattle.const_pool.specs.declared.stages.Front.TheVariants.{Dimensions, Class, Name}
use Rattle.const_pool.specs.declared.stages.FieldStage.{FieldStage}
use Rattle.const_pool.specs.declared.stages.FieldStage.TheVariants.{Within, Whole}
use Rattle.const_pool.specs.declared.stages.Stage.{Stage}
use Rattle.const_pool.specs.declared.stages.Stage.TheVariants as stage
use Rattle.const_pool.specs.declared.stages.Step.{Step}
use Rattle.const_pool.specs.Fronts.{answer_from}

-- ---- field descriptors

abbrev pub letter_kind : ℕ → Option Kind
letter_kind unit =
    if unit == 66 then Some Byte
    else if unit == 67 then Some Char
    else if unit == 68 then Some Double
    else if unit == 70 then Some Float
    else if unit == 73 then Some Int
    else if unit == 74 then Some Long
    else if unit == 83 then Some Short
    else if unit == 90 then Some boolean
    else None

-- an array is held by reference
abbrev pub array_kind : ℕ → Kind → Kind
array_kind zero element = element
array_kind (suc n) element = Ref

abbrev pub dimensions_step : ℕ → ℕ → Option FieldStage
dimensions_step dimensions unit =
    if unit == 91 then (if nat_lt dimensions 255 then Some (Within (Dimensions (dimensions + 1))) else None)
    else if unit == 76 then Some (Within Class)
    else option_map (λ kind. Whole (array_kind dimensions kind)) (letter_kind unit)

abbrev pub class_step : ℕ → Option FieldStage
class_step unit = if unit == 59 then None else Some (Within Name)

abbrev pub name_step : ℕ → FieldStage
name_step unit = if unit == 59 then Whole Ref else Within Name

abbrev pub front_step : Front → ℕ → Option FieldStage
front_step (Dimensions dimensions) unit = dimensions_step dimensions unit
front_step Class unit = class_step unit
front_step Name unit = Some (name_step unit)

abbrev pub field_step : FieldStage → ℕ → Option FieldStage
field_step (Within front) unit = front_step front unit
field_step (Whole kind) unit = None

abbrev pub field_end : FieldStage → Option Kind
field_end (Within front) = None
field_end (Whole kind) = Some kind

abbrev pub field_from : FieldStage → ℕ → List ℕ → Result Kind ℕ
field_from stage at units = answer_from field_step field_end stage at units

abbrev pub field_answer : List ℕ → Result Kind ℕ
field_answer units = field_from (Within (Dimensions 0)) 0 units

-- ---- method descriptors

abbrev pub first_slots : ℕ → ℕ
first_slots unit = if (unit == 74) || (unit == 68) then 2 else 1

abbrev pub to_stage : Stage → Step
to_stage s = record { stage = s; param = None }

abbrev pub within_param : ℕ → FieldStage → Step
within_param room (Within front) = to_stage (stage.Param room front)
within_param room (Whole kind) = record { stage = stage.Params room; param = Some kind }

abbrev pub param_step : ℕ → Front → ℕ → Option Step
param_step room front unit = option_map (within_param room) (front_step front unit)

abbrev pub params_step : ℕ → ℕ → Option Step
params_step room unit =
    if unit == 41 then Some (to_stage stage.Result)
    else if nat_lt room (first_slots unit) then None
    else param_step (room - first_slots unit) (Dimensions 0) unit

abbrev pub within_result : FieldStage → Step
within_result (Within front) = to_stage (stage.Returned front)
within_result (Whole kind) = to_stage (stage.Whole (Some kind))

abbrev pub result_step : Front → ℕ → Option Step
result_step front unit = option_map within_result (front_step front unit)

abbrev pub method_step : Stage → ℕ → Option Step
method_step stage.Open unit = if unit == 40 then Some (to_stage (stage.Params 255)) else None
method_step (stage.Params room) unit = params_step room unit
method_step (stage.Param room front) unit = param_step room front unit
method_step stage.Result unit = if unit == 86 then Some (to_stage (stage.Whole None)) else result_step (Dimensions 0) unit
method_step (stage.Returned front) unit = result_step front unit
method_step (stage.Whole kind) unit = None

-- a stage, and the parameters before it
pub record Reading : Type 0 where
  pub stage : Stage
  pub params : List Kind

abbrev pub with_step : List Kind → Step → Reading
with_step params step = record { stage = step.stage; params = params ++ option_to_list step.param }

abbrev pub reading_step : Reading → ℕ → Option Reading
reading_step reading unit = option_map (with_step reading.params) (method_step reading.stage unit)

abbrev pub stage_end : Stage → List Kind → Option Shape
stage_end (stage.Whole kind) params = Some (record { params = params; result = kind })
stage_end _ params = None

abbrev pub reading_end : Reading → Option Shape
reading_end reading = stage_end reading.stage reading.params

abbrev pub reading_from : Stage → List Kind → ℕ → List ℕ → Result Shape ℕ
reading_from s params at units = answer_from reading_step reading_end (record { stage = s; params = params }) at units

abbrev pub method_answer : List ℕ → Result Shape ℕ
method_answer units = reading_from stage.Open [] 0 units

-- ---- what the calls make of an answer

abbrev pub fault_told : {A : Type 0} → Result A ℕ → Result A DescriptorError
fault_told (Ok x) = Ok x
fault_told (Err at) = Err (BadDescriptor at)

-- a call tells the answer, where it has the memory for it
abbrev pub Answers : {A : Type 0} → Result A DescriptorError → Result A ℕ → Type 0
Answers (Ok x) answer = answer ≡ Ok x
Answers (Err (BadDescriptor at)) answer = answer ≡ Err at
Answers (Err NoMemory) answer = Unit {0}
