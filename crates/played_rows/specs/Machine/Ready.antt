-- What is known of a row's machine while its lines are played.
use Rattle.std.specs.Prelude.{◌≡◌, ℕ, false, List, [], Option, Some}
use Rattle.const_pool.specs.declared.class.ClassFile.{ClassFile}
use Rattle.const_pool.specs.ClassFile.{IsClassFile}
use Rattle.code_model.specs.declared.laying.Homes.{Homes}
use Rattle.jvm_model.specs.declared.event.Mark.{Mark}
use Rattle.jvm_model.specs.declared.program.Program.{Program}
use Rattle.jvm_model.specs.Basis.Programs.{class_at}
use Rattle.class_shape.specs.Swaps.{IsSwap}
use Rattle.jvm_machine.specs.Installs.{IsImageOf}
use Rattle.jvm_machine.specs.View.{View, machine_made}
use Rattle.program_fit.specs.Runnable.{IsAdmitted}

-- The machine has found memory so far, and its program was admitted.
pub record IsReady (v : View) : Type 0 where
  pub whole : v.broken ≡ false
  pub admitted : IsAdmitted v.program

-- it was just made, on no input
pub record IsFresh (v : View) : Type 0 where
  pub program : Program
  pub admitted : IsAdmitted program
  pub made : v ≡ machine_made program []

-- a class file that is the image of a class for these marks
pub record IsImageFile (p : Program) (class : ℕ) (marks : List Mark) (image : ClassFile) (homes : List (Option Homes)) : Type 0 where
  pub made : IsImageOf p class marks image homes
  pub formed : IsClassFile image

-- the bytes redefine no class at this position
abbrev pub IsUnfit : Program → ℕ → List ℕ → Type 0
IsUnfit p class bytes = (original image : ClassFile) → class_at p class ≡ Some original → IsSwap original bytes image → ⊥
