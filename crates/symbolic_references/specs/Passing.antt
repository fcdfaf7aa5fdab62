-- Instructions that name something and raise nothing, where it is known what their names came to: the frame has gone
-- on, or nothing was done.
use Rattle.std.specs.Prelude.{◌≡◌, ℕ, Bool, true, false, List, length}
use Rattle.frame_stack.specs.FrameLists.{FramesView, with_frames}
use Rattle.jvm_model.specs.declared.state.Phase.{Phase}
use Rattle.jvm_model.specs.declared.state.Phase.TheVariants.{Ready, Running}
use Rattle.jvm_model.specs.declared.state.Shared.{Shared}
use Rattle.jvm_model.specs.Basis.Data.{Done, Invokes}
use Rattle.jvm_model.specs.Instructions.ObjectRules.{done}
use Rattle.std.specs.Prelude.{Option, Some}
use Rattle.symbolic_references.specs.declared.invoked.Call.{Call}
use Rattle.std.specs.Prelude.{◌≤◌, IsSome, drop, slice_get}
use Rattle.base_classes.specs.Natives.{native_methods}
use Rattle.frame_stack.specs.FrameLists.{PlacedFrame, top_operands}
use Rattle.jvm_basic.specs.Outcomes.{top_locals}
use Rattle.jvm_model.specs.Basis.Data.{World}
use Rattle.jvm_model.specs.Instructions.NativeRules.{runs_number}
use Rattle.symbolic_references.specs.declared.invoked.Invoked.{Invoked}
use Rattle.symbolic_references.specs.declared.invoked.Invoked.TheVariants as invoked
use Rattle.symbolic_references.specs.declared.invoked.NativeCall.{NativeCall}
use Rattle.symbolic_references.specs.Runtimes.{RuntimeView, after}
use Rattle.member_selection.specs.Answers.{frames_after, goes_on}
use Rattle.member_selection.specs.Targets.{data_in}

-- a class is initialized, or is being
abbrev pub is_usable : Option Phase → Bool
is_usable (Some Ready) = true
is_usable (Some Running) = true
is_usable _ = false

-- by what its rule says the frame has gone on, to the next place
pub record HasPassed (d : Done) (next : ℕ) (old : FramesView) (before : RuntimeView) (new : FramesView) (left : RuntimeView) : Type 0 where
  pub goes : goes_on d.outcome old.frames ≡ true
  pub frames : new ≡ with_frames (frames_after d.outcome next old.frames) old
  pub runtime : left ≡ after d before

-- it has, or nothing was done
abbrev pub IfPassed : Bool → Done → ℕ → FramesView → RuntimeView → FramesView → RuntimeView → Type 0
IfPassed true d next old before new left = HasPassed d next old before new left
IfPassed false d next old before new left = (new ≡ old) × (left ≡ before)

-- what a rule says is that this method is invoked, with so many operands
pub record IsCall (c : Call) (d : Done) (s : Shared) (fs : List PlacedFrame) : Type 0 where
  pub invokes : d ≡ done s (Invokes c.method (data_in c.count (top_operands fs)) (drop c.count (top_operands fs)))
  pub within : c.count ≤ length (top_operands fs)

-- ---- native methods

-- what a native method comes to on so many operands of the current frame
abbrev pub runs_native_call : World → NativeCall → Shared → List PlacedFrame → Done
runs_native_call w n s fs = runs_number w n.number (data_in n.count (top_operands fs)) s (top_locals fs) (drop n.count (top_operands fs))

-- what a rule says is that this native method is done
pub record IsNativeCall (w : World) (n : NativeCall) (d : Done) (s : Shared) (fs : List PlacedFrame) : Type 0 where
  pub stands : IsSome (slice_get native_methods n.number)
  pub within : n.count ≤ length (top_operands fs)
  pub runs : d ≡ runs_native_call w n s fs

abbrev pub IsInvoked : World → Invoked → Done → Shared → List PlacedFrame → Type 0
IsInvoked w (invoked.Code c) d s fs = IsCall c d s fs
IsInvoked w (invoked.Native n) d s fs = IsNativeCall w n d s fs
