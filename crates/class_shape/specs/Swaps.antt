-- What redefines a class, and what is refused.
use Rattle.std.specs.Prelude.{◌≢◌, ℕ, List, Option}
use Rattle.const_pool.specs.declared.class.ClassFile.{ClassFile}
use Rattle.const_pool.specs.ClassFile.{Spells}
use Rattle.code_model.specs.declared.laying.Homes.{Homes}
use Rattle.class_reader.specs.declared.error.ReadError.TheVariants.{NoMemory as unread}
use Rattle.class_reader.specs.Files.{IsImageFault}
use Rattle.jvm_model.specs.declared.event.Mark.{Mark}
use Rattle.jvm_model.specs.Rewriting.Images.{IsImage}
use Rattle.class_shape.specs.declared.error.SwapError.{SwapError}
use Rattle.class_shape.specs.declared.error.SwapError.TheVariants.{Unreadable, NotSameShape, NoMemory}
use Rattle.class_shape.specs.ClassShapes.{HasSameShape, IsShapeFault}

-- the bytes spell the class, and it has the original's shape
pub record IsSwap (original : ClassFile) (bytes : List ℕ) (image : ClassFile) : Type 0 where
  pub spelled : Spells bytes image
  pub shape : HasSameShape original image

-- the bytes spell a class of another shape, and this number is told of it
pub record HasOtherShape (original : ClassFile) (bytes : List ℕ) (told : ℕ) : Type 0 where
  pub image : ClassFile
  pub spelled : Spells bytes image
  pub shape : IsShapeFault original image told

-- The bytes redefine nothing, and this is told. Want of memory is no fault of the bytes.
abbrev pub IsSwapFault : ClassFile → List ℕ → SwapError → Type 0
IsSwapFault original bytes (Unreadable fault) = IsImageFault bytes fault × (fault ≢ unread)
IsSwapFault original bytes (NotSameShape told) = HasOtherShape original bytes told
IsSwapFault original bytes NoMemory = ⊥

-- the second class is the image of the first one for some marks
pub record IsSomeImage (class image : ClassFile) : Type 0 where
  pub first : ℕ
  pub marks : List Mark
  pub homes : List (Option Homes)
  pub made : IsImage class first marks image homes
