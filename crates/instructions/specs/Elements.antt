-- Elements of arrays (JVM Specification 6.5): where an array and an index lead, and what becomes of a state by that.
use Rattle.std.specs.Prelude.{◌≡◌, ℕ, Bool, true, false, drop, Option, Some, None, ℤ, pos}
use Rattle.const_pool.specs.declared.descriptor.Kind.{Kind}
use Rattle.frame_stack.specs.FrameLists.{top_operands}
use Rattle.heap_objects.specs.declared.datum.Datum.{Datum}
use Rattle.heap_objects.specs.declared.datum.Datum.TheVariants as datum
use Rattle.heap_objects.specs.declared.Value.TheVariants.{Int}
use Rattle.heap_objects.specs.Heaps.{HeapView, slot_at, with_slot_at}
use Rattle.jvm_model.specs.declared.instruction.Operation.{Operation}
use Rattle.jvm_model.specs.declared.instruction.Operation.TheVariants as operation
use Rattle.jvm_model.specs.Instructions.ObjectRules.{Access, ToNull, ToAnother, Outside, Inside, Storing, access_to, array_length, array_element_of, storing_of}
use Rattle.jvm_model.specs.Basis.Values.{as_value, ref_of}
use Rattle.jvm_basic.specs.declared.effect.Effect.TheVariants.{Next}
use Rattle.jvm_basic.specs.Outcomes.{GoesOn, Rule, after, effect_of}
use Rattle.jvm_basic.specs.Rules.{replaces, rule_of}
use Rattle.instructions.specs.declared.elements.Led.{Led}
use Rattle.instructions.specs.declared.elements.Led.TheVariants as led
use Rattle.instructions.specs.declared.elements.ArrayElement.{ArrayElement}
use Rattle.instructions.specs.declared.elements.Storing.{Storing as TheStoring}
use Rattle.prepared_lines.specs.declared.line.LocalAction.{LocalAction}
use Rattle.prepared_lines.specs.declared.line.LocalAction.TheVariants as local_action
use Rattle.prepared_lines.specs.declared.line.Line.{Line}
use Rattle.prepared_code.specs.declared.parts.Parts.{Parts}
use Rattle.symbolic_references.specs.Runtimes.{with_heap}

abbrev pub access_of : Led → Access
access_of led.ToNull = ToNull
access_of led.ToAnother = ToAnother
access_of led.Outside = Outside
access_of (led.Inside slot) = Inside slot

abbrev pub place_by : ArrayElement → ℕ × ℤ
place_by x = (x.array, x.index)

abbrev pub storing_by : TheStoring → Storing
storing_by x = record { array = x.place.array; index = x.place.index; datum = x.datum }

-- the element to which the access leads
abbrev pub element_at : Access → ℕ → HeapView → Option Datum
element_at (Inside slot) r h = slot_at r slot h
element_at _ r h = None

-- ---- where nothing is raised

abbrev pub is_number : Datum → Bool
is_number (datum.Ref r) = false
is_number _ = true

abbrev pub drops_three : ℕ → Rule
drops_three next l o = GoesOn l (drop 3 o) next

-- the element at this place is loaded, and the frame goes on
pub record IsLoaded (line : Line) (k : Kind) (old new : Parts) : Type 0 where
  pub array : ℕ
  pub index : ℤ
  pub datum : Datum
  pub at : array_element_of (top_operands old.frames.frames) ≡ Some (array, index)
  pub there : element_at (access_to k array index old.runtime.shared.heap) array old.runtime.shared.heap ≡ Some datum
  pub goes : effect_of (replaces 2 (Some (as_value datum)) line.next) old.frames ≡ Next
  pub changed : new ≡ record old { frames = after (replaces 2 (Some (as_value datum)) line.next) old.frames }

-- the number is stored at this place, and the frame goes on
pub record IsStored (line : Line) (k : Kind) (old new : Parts) : Type 0 where
  pub storing : Storing
  pub slot : ℕ
  pub at : storing_of k (top_operands old.frames.frames) ≡ Some storing
  pub there : access_to k storing.array storing.index old.runtime.shared.heap ≡ Inside slot
  pub number : is_number storing.datum ≡ true
  pub goes : effect_of (drops_three line.next) old.frames ≡ Next
  pub changed : new ≡ record old {
    frames = after (drops_three line.next) old.frames;
    runtime = with_heap (with_slot_at storing.array slot storing.datum old.runtime.shared.heap) old.runtime;
  }

-- the length of the array stands in its place, and the frame goes on
pub record IsMeasured (line : Line) (old new : Parts) : Type 0 where
  pub array : ℕ
  pub count : ℕ
  pub at : ref_of (top_operands old.frames.frames) ≡ Some array
  pub long : array_length array old.runtime.shared.heap ≡ Some count
  pub goes : effect_of (replaces 1 (Some (Int (pos count))) line.next) old.frames ≡ Next
  pub changed : new ≡ record old { frames = after (replaces 1 (Some (Int (pos count))) line.next) old.frames }

-- ---- lines that a step passes by

-- what its frame does by itself, and elements
abbrev pub is_plain : Operation LocalAction → Bool
is_plain (operation.Within local_action.Basic) = true
is_plain (operation.LoadElement k) = true
is_plain (operation.StoreElement k) = true
is_plain _ = false

-- it was done, where it raises nothing and the frame goes on
pub record IsPassed (line : Line) (old new : Parts) : Type 0 where
  pub plain : is_plain line.operation ≡ true
  pub alone : line.operation ≡ operation.Within local_action.Basic → effect_of (rule_of line.instr line.constant line.next) old.frames ≡ Next
  pub frames : line.operation ≡ operation.Within local_action.Basic → new ≡ record old { frames = after (rule_of line.instr line.constant line.next) old.frames }
  pub loaded : (k : Kind) → line.operation ≡ operation.LoadElement k → IsLoaded line k old new
  pub stored : (k : Kind) → line.operation ≡ operation.StoreElement k → IsStored line k old new
