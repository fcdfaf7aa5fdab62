-- The frame that a method begins with, by the values on top of its caller (JVM Specification 2.6.1).
use Rattle.std.specs.Prelude.{ℕ, Bool, List, ◌∷◌, length, nat_le, take, Option, Some, None, if◌then◌else◌}
use Rattle.heap_objects.specs.declared.Value.{Value}
use Rattle.frame_stack.specs.FrameLists.{FramesView, PlacedFrame, arguments, without_arguments, can_enter, new_frame}
use Rattle.frame_stack.specs.Widths.{height_of}
use Rattle.jvm_model.specs.Basis.Data.{Operands}
use Rattle.jvm_model.specs.Basis.Data.{World}
use Rattle.jvm_model.specs.Basis.Programs.{max_stack_of, max_locals_of}
use Rattle.prepared_code.specs.Tables.{Versions}
use Rattle.prepared_code.specs.Versions.{Setup, current_of, first_of}

abbrev pub can_begin : World → ℕ → ℕ → List PlacedFrame → Bool
can_begin w method args fs = can_enter (max_locals_of w method) args fs

-- a frame of the method's current version, at its first place
abbrev pub frame_begun : Versions → ℕ → ℕ → ℕ → List Value → PlacedFrame
frame_begun v method max_locals max_stack taken =
    record (new_frame (current_of v method) method max_locals max_stack taken) { place = first_of v (current_of v method) }

abbrev pub with_version_frame : Versions → ℕ → ℕ → ℕ → ℕ → FramesView → FramesView
with_version_frame v method max_locals max_stack args s = record {
  frames = frame_begun v method max_locals max_stack (arguments args s.frames) ∷ without_arguments args s.frames;
  room = None;
}

-- one which has taken its arguments from the caller
abbrev pub begun_frame : Setup → ℕ → ℕ → List PlacedFrame → PlacedFrame
begun_frame w method args fs = frame_begun w.versions method (max_locals_of w.world method) (max_stack_of w.world method) (arguments args fs)

abbrev pub with_begun : Bool → Setup → ℕ → ℕ → List PlacedFrame → List PlacedFrame
with_begun b w method args fs = if b then begun_frame w method args fs ∷ without_arguments args fs else fs

-- ---- the locals that arguments take

-- so many of the topmost operands, where there are as many
abbrev pub taken_slots : ℕ → Operands → Option ℕ
taken_slots count o = if nat_le count (length o) then Some (height_of (take count o)) else None
