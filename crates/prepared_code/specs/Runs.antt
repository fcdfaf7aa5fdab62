-- Several steps of the run of original code.
use Rattle.std.specs.Prelude.{◌≡◌, ℕ, zero, suc, ◌<◌, false, List, [], ◌∷◌, length, Option, Some, None, is_some, refl}
use Rattle.std.specs.Option.{option_and_then}
use Rattle.frame_stack.specs.FrameLists.{PlacedFrame}
use Rattle.jvm_model.specs.declared.instruction.Operation.TheVariants.{Within}
use Rattle.jvm_model.specs.declared.state.State.{State}
use Rattle.jvm_model.specs.Running.Run.{step}
use Rattle.prepared_lines.specs.declared.line.LocalAction.TheVariants.{Basic}
use Rattle.prepared_lines.specs.declared.line.Line.{Line}
use Rattle.prepared_code.specs.declared.initializations.Initialization.{Initialization}
use Rattle.prepared_code.specs.declared.parts.Parts.{Parts}
use Rattle.prepared_code.specs.Initializations.{initialization_on, state_of, with_initializations}
use Rattle.prepared_code.specs.States.{state_with}
use Rattle.prepared_code.specs.Tables.{Version, version_at}
use Rattle.prepared_code.specs.Versions.{Setup, listing_of, line_at, line_in}

-- the state after so many steps
unfoldable pub steps_from : Setup → ℕ → State → State
steps_from w zero s = s
steps_from w (suc n) s = (step w.world (listing_of w.versions) (steps_from w n s)).after

pub steps_from-zero : (w : Setup) (s : State) → steps_from w 0 s ≡ s
unfolding steps_from
steps_from-zero w s = refl

pub steps_from-suc : (w : Setup) (n : ℕ) (s : State) → steps_from w (suc n) s ≡ (step w.world (listing_of w.versions) (steps_from w n s)).after
unfolding steps_from
steps_from-suc w n s = refl

-- So many steps lead from one state to another, none of them behind the end of the run.
pub record Leads (w : Setup) (old : State) (n : ℕ) (new : State) : Type 0 where
  pub made : new ≡ steps_from w n old
  pub before : (k : ℕ) → k < n → is_some (steps_from w k old).ending ≡ false

-- ---- steps that the current frame does by itself

-- it stands at this line, which it does by itself
abbrev pub IsPlainLine : Setup → List PlacedFrame → Line → Type 0
IsPlainLine w [] line = ⊥
IsPlainLine w (f ∷ fs) line = (line_at w.versions f.version f.place ≡ Some line) × (line.operation ≡ Within Basic)

-- it stands at this line of a version
abbrev pub IsLineIn : Version → List PlacedFrame → Line → Type 0
IsLineIn x [] line = ⊥
IsLineIn x (f ∷ fs) line = line_in f.place x ≡ Some line

-- the version of the current frame
abbrev pub top_version : List PlacedFrame → Option ℕ
top_version [] = None
top_version (f ∷ fs) = Some f.version

-- it runs this one
abbrev pub RunsVersion : Setup → Version → List PlacedFrame → Type 0
RunsVersion w x fs = option_and_then (version_at w.versions) (top_version fs) ≡ Some x

-- the run goes on, nothing is thrown, and no initialization stands on so many frames
pub record IsAtInstruction (n : ℕ) (ms : List Initialization) (p : Parts) : Type 0 where
  pub ending : p.ending ≡ None
  pub thrown : p.thrown ≡ None
  pub executing : initialization_on n ms ≡ None

-- none of so many steps has a change: nothing is loaded, nothing begins and nothing ends
abbrev pub AreQuiet : Setup → State → ℕ → Type 0
AreQuiet w s n = (k : ℕ) → k < n → (step w.world (listing_of w.versions) (steps_from w k s)).changes ≡ []

-- So many steps change the frames to these, which are as many, and nothing else, whatever else there is.
pub record LeadsPlainly (w : Setup) (old : List PlacedFrame) (n : ℕ) (new : List PlacedFrame) : Type 0 where
  pub many : length new ≡ length old
  pub leads : (ms : List Initialization) (p : Parts) → IsAtInstruction (length old) ms p → Leads w (with_initializations ms (state_with old p)) n (with_initializations ms (state_with new p))
  pub quiet : (ms : List Initialization) (p : Parts) → IsAtInstruction (length old) ms p → AreQuiet w (with_initializations ms (state_with old p)) n

-- So many steps change the current frame and elements of arrays, and nothing else.
pub record LeadsAlone (w : Setup) (old : Parts) (n : ℕ) (new : Parts) : Type 0 where
  pub many : length new.frames.frames ≡ length old.frames.frames
  pub ending : new.ending ≡ old.ending
  pub thrown : new.thrown ≡ old.thrown
  pub loaded : new.runtime.shared.loaded ≡ old.runtime.shared.loaded
  pub world : new.runtime.world ≡ old.runtime.world
  pub leads : (ms : List Initialization) → IsAtInstruction (length old.frames.frames) ms old → Leads w (state_of ms old) n (state_of ms new)
  pub quiet : (ms : List Initialization) → IsAtInstruction (length old.frames.frames) ms old → AreQuiet w (state_of ms old) n
