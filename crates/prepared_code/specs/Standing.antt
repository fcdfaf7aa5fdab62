-- That what is set up stands for original code: the versions are of the program, whose codes lead to their own places
-- alone, and a state of them stands for the run's.
use Rattle.std.specs.Prelude.{◌≡◌, ◌<◌, ℕ, false, List, length, Option, Some, ◌==◌}
use Rattle.frame_stack.specs.FrameLists.{PlacedFrame, pins_of}
use Rattle.jvm_model.specs.declared.state.Entry.{Entry}
use Rattle.jvm_model.specs.declared.state.Entry.TheVariants.{Active, Initializing}
use Rattle.std.specs.List.{AllByRecursion}
use Rattle.std.specs.Option.{IfSome}
use Rattle.const_pool.specs.declared.class.ClassFile.{ClassFile}
use Rattle.const_pool.specs.declared.class.CodeAttribute.{CodeAttribute}
use Rattle.code_model.specs.declared.laying.Homes.{Homes}
use Rattle.jvm_model.specs.declared.event.Mark.{Mark}
use Rattle.jvm_model.specs.declared.program.Program.{Program}
use Rattle.jvm_model.specs.declared.state.State.{State}
use Rattle.jvm_model.specs.Codes.Closed.{norm_of}
use Rattle.jvm_model.specs.Basis.Methods.{method_code}
use Rattle.jvm_model.specs.Basis.Programs.{class_at}
use Rattle.jvm_model.specs.Running.Run.{run}
use Rattle.jvm_model.specs.Soundness.Sound.{IsFit}
use Rattle.jvm_model.specs.Rewriting.StandsForRun.{StandsFor}
use Rattle.jvm_model.specs.Rewriting.Versions.{IsVersion}
use Rattle.prepared_code.specs.Tables.{Version}
use Rattle.prepared_code.specs.ClassVersions.{homes_at}
use Rattle.prepared_code.specs.LaidMethods.{CanBeLaid, NamesClass}
use Rattle.jvm_model.specs.Codes.ProgramPlaces.{HasClosedCodes, is_place_in}
use Rattle.prepared_code.specs.Ready.{IsOwnLine, IsSoundIn}
use Rattle.prepared_code.specs.Versions.{Setup, line_at, line_in, method_of}
use Rattle.prepared_code.specs.VersionListings.{AreVersions, IsVersionOf}

-- the places of the program's codes
abbrev pub places_of : Program → ℕ → ℕ → ℕ
places_of p = norm_of (is_place_in p)

-- with the homes of each version by its number
pub record HasVersions (w : Setup) (homes : ℕ → ℕ → ℕ) : Type 0 where
  pub fit : IsFit w.world.program
  pub closed : HasClosedCodes w.world.program
  pub are : AreVersions w.world.program (places_of w.world.program) homes w.versions
  pub lines : (version place : ℕ) → IfSome (line_at w.versions version place) IsOwnLine

pub record IsSetUp (w : Setup) : Type 0 where
  pub homes : ℕ → ℕ → ℕ
  pub has : HasVersions w homes

-- the state stands for the run's after so many steps
pub record IsRunOf (w : Setup) (clock : ℕ) (s : State) : Type 0 where
  pub homes : ℕ → ℕ → ℕ
  pub has : HasVersions w homes
  pub stands : StandsFor (places_of w.world.program) (method_of w.versions) homes s (run w.world clock)
  pub sound : IsSoundIn w s

-- a frame's version is one that these frames run
abbrev pub IsPinnedEntry : List PlacedFrame → Entry → Type 0
IsPinnedEntry fs (Active f) = (pins_of f.version fs == 0) ≡ false
IsPinnedEntry fs (Initializing class part) = Unit {0}

abbrev pub IsPinned : List PlacedFrame → List Entry → Type 0
IsPinned fs stack = AllByRecursion (IsPinnedEntry fs) stack

-- ---- what is added

-- a version of the program
pub record IsOfProgram (p : Program) (x : Version) : Type 0 where
  pub home : ℕ → ℕ
  pub version : IsVersionOf p (places_of p) x home
  pub own : x.method < length p.methods
  pub lines : (place : ℕ) → IfSome (line_in place x) IsOwnLine

-- a method's code in an image is its version for some mark
pub record IsMethodImage (c image : ClassFile) (old new : CodeAttribute) (homes : Homes) : Type 0 where
  pub count : ℕ
  pub number : ℕ
  pub mark : Mark
  pub version : IsVersion count number mark old new homes
  pub can : CanBeLaid count number mark c image old version.reading
  pub named : AllByRecursion (NamesClass c image) old.handlers

-- each method of the class that has homes
abbrev pub AreMethodImages : Program → ℕ → ClassFile → List (Option Homes) → Type 0
AreMethodImages p class image homes = (c : ClassFile) (at : ℕ) (old new : CodeAttribute) (h : Homes) → class_at p class ≡ Some c → method_code c at ≡ Some old
    → homes_at homes at ≡ Some h → method_code image at ≡ Some new → IsMethodImage c image old new h
