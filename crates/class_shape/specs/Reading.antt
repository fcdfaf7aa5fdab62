-- What is answered, by what was read and what is told of the two shapes.
use Rattle.std.specs.Prelude.{ℕ, List, Option, Some, None, Result, Ok, Err}
use Rattle.const_pool.specs.declared.class.ClassFile.{ClassFile}
use Rattle.class_reader.specs.declared.error.ReadError.{ReadError}
use Rattle.class_reader.specs.declared.error.ReadError.TheVariants.{NoMemory as unread}
use Rattle.class_shape.specs.declared.error.SwapError.{SwapError}
use Rattle.class_shape.specs.declared.error.SwapError.TheVariants.{Unreadable, NotSameShape, NoMemory}
use Rattle.class_shape.specs.Swaps.{IsSwap, IsSwapFault}

abbrev pub refusal_of : ReadError → SwapError
refusal_of unread = NoMemory
refusal_of fault = Unreadable fault

abbrev pub answer_by : Option ℕ → ClassFile → Result ClassFile SwapError
answer_by (Some told) image = Err (NotSameShape told)
answer_by None image = Ok image

-- What bytes come to for a class: memory ran out, or they redefine it, or what is told of them.
pub data IsAnswered (original : ClassFile) (bytes : List ℕ) : Result ClassFile SwapError → Type 0 where
  wants : IsAnswered original bytes (Err NoMemory)
  takes : (image : ClassFile) → IsSwap original bytes image → IsAnswered original bytes (Ok image)
  tells : (refusal : SwapError) → IsSwapFault original bytes refusal → IsAnswered original bytes (Err refusal)
