-- The probe from which an event comes: in the version that a method has for a mark it stands where the activation's
-- frame stands when it tells.
use Rattle.std.specs.Prelude.{◌≡◌, ℕ, false, true, List, ◌∷◌, length, take, drop, Some}
use Rattle.std.specs.Option.{option_map_or}
use Rattle.const_pool.specs.declared.class.CodeAttribute.{CodeAttribute}
use Rattle.const_pool.specs.Tail.{enter_index, leave_index, root_index, unwind_index}
use Rattle.code_model.specs.declared.laying.Homes.{Homes}
use Rattle.code_model.specs.Groups.{IsBytes}
use Rattle.code_model.specs.Layout.{home_of}
use Rattle.jvm_model.specs.declared.due.Due.TheVariants.{Ends}
use Rattle.jvm_model.specs.declared.event.Event.{Event}
use Rattle.jvm_model.specs.declared.event.EventKind.{EventKind}
use Rattle.jvm_model.specs.declared.event.EventKind.TheVariants.{Root, Enter, Leave, Unwind}
use Rattle.jvm_model.specs.declared.event.Mark.{Mark}
use Rattle.jvm_model.specs.declared.program.Program.{Program}
use Rattle.jvm_model.specs.Basis.Data.{Instruction}
use Rattle.jvm_model.specs.Rewriting.Images.{is_off}
use Rattle.jvm_model.specs.Codes.Moved.{IsPlace}
use Rattle.jvm_model.specs.Codes.Originals.{original}
use Rattle.jvm_model.specs.Codes.ProgramPlaces.{IsClosedCode}
use Rattle.jvm_model.specs.Basis.Programs.{code_of_method}
use Rattle.jvm_model.specs.Turns.StepPauses.{is_return}
use Rattle.jvm_model.specs.Turns.Told.{Held}
use Rattle.jvm_model.specs.Rewriting.Versions.{IsVersion, probe_bytes}
use Rattle.prepared_code.specs.Standing.{places_of}
use Rattle.jvm_machine.specs.declared.advancing.Telling.{Telling}
use Rattle.jvm_machine.specs.declared.advancing.Telling.TheVariants as telling
use Rattle.jvm_machine.specs.View.{View}

-- ---- what stands in a code

abbrev pub HasBytes : List ℕ → ℕ → List ℕ → Type 0
HasBytes code place bytes = take (length bytes) (drop place code) ≡ bytes

-- the pool entry, behind so many, that a probe of this kind invokes
abbrev pub probe_index : ℕ → EventKind → ℕ
probe_index count Root = root_index count
probe_index count Enter = enter_index count
probe_index count Leave = leave_index count
probe_index count Unwind = unwind_index count

-- ---- where it stands

-- At the code's start where a method begins; at the home of a return at this offset of the original code; and behind
-- the code, to where the version's last handler leads whatever leaves it.
abbrev pub probe_place : EventKind → ℕ → CodeAttribute → Homes → ℕ
probe_place Root at old homes = 0
probe_place Enter at old homes = 0
probe_place Leave at old homes = home_of homes at
probe_place Unwind at old homes = home_of homes (length old.code)

-- a return stands at this place of a method
pub record IsReturn (p : Program) (method at : ℕ) : Type 0 where
  pub place : IsPlace (places_of p) method at
  pub returns : option_map_or (λ (i : Instruction). is_return i.operation) ((original p).at method at) false ≡ true

-- The method of the current activation has one. What is seen of a machine has no places, so which one is not said.
pub record HasReturn (v : View) : Type 0 where
  pub current : Held
  pub others : List Held
  pub live : v.live ≡ current ∷ others
  pub at : ℕ
  pub returns : IsReturn v.program current.method at

-- where a return is told next: the method that is left has a return
abbrev pub IfLeaves : Telling → View → Type 0
IfLeaves (telling.Due (Ends Leave)) v = HasReturn v
IfLeaves _ v = Unit {0}

-- The current activation's version has probes. At a leave event its method has a return at the place that is told of.
-- In the version that the method's original code has for that mark the probe of this kind, with the method's number,
-- stands at that place.
pub record ComesFromProbe (v : View) (event : Event) : Type 0 where
  pub mark : Mark
  pub others : List Held
  pub live : v.live ≡ record { method = event.method; mark = mark } ∷ others
  pub marked : is_off mark ≡ false
  pub at : ℕ
  pub returns : event.kind ≡ Leave → IsReturn v.program event.method at
  pub stands : (count : ℕ) (old new : CodeAttribute) (homes : Homes) → code_of_method v.program event.method ≡ Some old
      → IsBytes old.code → IsClosedCode old → IsVersion count event.method mark old new homes
      → HasBytes new.code (probe_place event.kind at old homes) (probe_bytes event.method (probe_index count event.kind))
