-- Several steps of the run that tell nothing, in one activation or in several: what begins or ends in them has no
-- probes.
use Rattle.std.specs.Prelude.{◌≡◌, ℕ, ◌<◌, Bool, true, false, List, [], ◌∷◌, length, nat_le, Option, None, ◌==◌, ◌||◌}
use Rattle.heap_objects.specs.declared.Value.{Value}
use Rattle.frame_stack.specs.FrameLists.{FramesView, PlacedFrame}
use Rattle.frame_stack.specs.Widths.{height_of}
use Rattle.method_versions.specs.Tables.{is_superseded_in}
use Rattle.jvm_model.specs.declared.due.Due.{Due}
use Rattle.jvm_model.specs.declared.due.Due.TheVariants.{Nothing}
use Rattle.jvm_model.specs.declared.state.Entry.{Entry}
use Rattle.jvm_model.specs.declared.state.Entry.TheVariants.{Active, Initializing}
use Rattle.jvm_model.specs.declared.state.State.{State}
use Rattle.jvm_model.specs.Turns.Pauses.{stop_in}
use Rattle.jvm_model.specs.Turns.Rest.{step_loads}
use Rattle.jvm_model.specs.Running.Run.{step}
use Rattle.jvm_model.specs.Turns.Told.{helds, mark_now}
use Rattle.jvm_model.specs.Basis.Values.{with_value}
use Rattle.member_selection.specs.declared.known.Found.{Found}
use Rattle.member_selection.specs.declared.known.Found.TheVariants as found
use Rattle.prepared_code.specs.declared.initializations.Initialization.{Initialization}
use Rattle.prepared_code.specs.declared.parts.Parts.{Parts}
use Rattle.prepared_code.specs.Initializations.{state_of}
use Rattle.prepared_code.specs.Runs.{IsAtInstruction, Leads, steps_from}
use Rattle.prepared_lines.specs.declared.line.Line.{Line}
use Rattle.prepared_code.specs.Tables.{Versions}
use Rattle.prepared_code.specs.Versions.{Setup, line_at, mark_of, listing_of}

-- ---- live activations

-- one of them runs this version
abbrev pub runs : ℕ → List Entry → Bool
runs k [] = false
runs k (Active f ∷ below) = f.version == k || runs k below
runs k (Initializing class part ∷ below) = runs k below

-- each superseded version that these run is run by those
abbrev pub AreKeptBy : Setup → List Entry → List Entry → Type 0
AreKeptBy w old new = (k : ℕ) → is_superseded_in w.versions.slots w.versions.current k ≡ true → runs k old ≡ true → runs k new ≡ true

-- ---- a step that tells nothing

-- the first of its changes of which a probe tells
abbrev pub step_due : Setup → State → Due
step_due w s =
    let v = mark_of w.versions in let t = listing_of w.versions in
    (stop_in (mark_now v t) 0 (helds v s.stack) (step w.world t s).changes).due

-- it loads no class, no probe tells of it, and no version that is held is left behind by it
pub record IsSilent (w : Setup) (s : State) : Type 0 where
  pub loads : step_loads w.world (listing_of w.versions) s ≡ []
  pub undelivered : step_due w s ≡ Nothing
  pub keeps : AreKeptBy w s.stack (step w.world (listing_of w.versions) s).after.stack

abbrev pub AreSilent : Setup → State → ℕ → Type 0
AreSilent w s n = (k : ℕ) → k < n → IsSilent w (steps_from w k s)

-- So many steps lead from parts beneath these initializations to others beneath the same; they tell nothing, and the
-- run goes on.
pub record Passes (w : Setup) (ms : List Initialization) (old : Parts) (n : ℕ) (new : Parts) : Type 0 where
  pub at_instruction : IsAtInstruction (length new.frames.frames) ms new
  pub loaded : new.runtime.shared.loaded ≡ old.runtime.shared.loaded
  pub world : new.runtime.world ≡ old.runtime.world
  pub leads : Leads w (state_of ms old) n (state_of ms new)
  pub silent : AreSilent w (state_of ms old) n

-- a step was made, or none
abbrev pub steps_if : Bool → ℕ
steps_if true = 1
steps_if false = 0

-- with other frames
abbrev pub on_frames : FramesView → Parts → Parts
on_frames frames p = record p { frames = frames }

-- what a member's name came to is a method
abbrev pub is_method : Found → Bool
is_method (found.Fixed m) = true
is_method (found.Selected site) = true
is_method _ = false

-- ---- returns

-- the frames where the top one is off, and its caller goes on at a place, with a value on top if there is one
abbrev pub gone_back : Option Value → ℕ → List PlacedFrame → List PlacedFrame
gone_back v place (f ∷ g ∷ fs) = record g { place = place; operands = with_value v g.operands } ∷ fs
gone_back v place fs = fs

-- there is a caller, and its operands are within its limit then
abbrev pub fits_given : Option Value → List PlacedFrame → Bool
fits_given v (f ∷ g ∷ fs) = nat_le (height_of (with_value v g.operands)) g.max_stack
fits_given v fs = false

-- what stands where the caller does
abbrev pub caller_line : Versions → List PlacedFrame → Option Line
caller_line v (f ∷ g ∷ fs) = line_at v g.version g.place
caller_line v fs = None
