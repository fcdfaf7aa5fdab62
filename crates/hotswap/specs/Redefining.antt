-- When the class of a machine's program is redefined by bytes, and when they are refused.
use Rattle.std.specs.Prelude.{◌≡◌, ℕ, List, Option, Some}
use Rattle.const_pool.specs.declared.class.ClassFile.{ClassFile}
use Rattle.code_model.specs.declared.laying.Homes.{Homes}
use Rattle.jvm_model.specs.declared.event.Mark.{Mark}
use Rattle.jvm_model.specs.declared.program.Program.{Program}
use Rattle.jvm_model.specs.Basis.Programs.{class_at}
use Rattle.jvm_machine.specs.Installs.{IsImageOf}
use Rattle.class_shape.specs.declared.error.SwapError.{SwapError}
use Rattle.class_shape.specs.Swaps.{IsSwap, IsSwapFault}

-- Whatever class of the class's shape the bytes spell is its image for these marks, and the homes are that image's.
abbrev pub SpellsImage : Program → ℕ → List ℕ → List Mark → List (Option Homes) → Type 0
SpellsImage p class bytes marks homes =
    (original image : ClassFile) → class_at p class ≡ Some original → IsSwap original bytes image → IsImageOf p class marks image homes

-- the bytes spell this class, and it has the shape of the class at this position
pub record IsImageFor (p : Program) (class : ℕ) (bytes : List ℕ) (image : ClassFile) : Type 0 where
  pub original : ClassFile
  pub is : class_at p class ≡ Some original
  pub swap : IsSwap original bytes image

-- the bytes redefine the class
abbrev pub Redefines : Program → ℕ → List ℕ → Type 0
Redefines p class bytes = (image : ClassFile) × IsImageFor p class bytes image

-- they don't, and this is told
pub record IsRefused (p : Program) (class : ℕ) (bytes : List ℕ) (refusal : SwapError) : Type 0 where
  pub original : ClassFile
  pub is : class_at p class ≡ Some original
  pub fault : IsSwapFault original bytes refusal
