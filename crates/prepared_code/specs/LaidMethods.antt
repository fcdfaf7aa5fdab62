-- What is asked of a method's code and of its image, so that the image's code is a version of the method.
use Rattle.std.specs.Prelude.{◌≡◌, ◌≤◌, ◌<◌, ℕ, length, None}
use Rattle.std.specs.List.{AllByRecursion}
use Rattle.const_pool.specs.declared.class.ClassFile.{ClassFile}
use Rattle.const_pool.specs.declared.class.CodeAttribute.{CodeAttribute}
use Rattle.const_pool.specs.declared.class.Handler.{Handler}
use Rattle.const_pool.specs.References.{named_class}
use Rattle.code_model.specs.declared.instr.Code.{Code}
use Rattle.code_model.specs.Groups.{IsBytes}
use Rattle.code_model.specs.Layout.{first_far}
use Rattle.jvm_model.specs.declared.event.Mark.{Mark}
use Rattle.jvm_model.specs.Codes.Lines.{operation_of}
use Rattle.jvm_model.specs.Rewriting.Versions.{entry_probe, groups_of, laid_version}

-- what a handler catches is named by the image, too
abbrev pub NamesClass : ClassFile → ClassFile → Handler → Type 0
NamesClass c image h = named_class image.pool h.catch_class ≡ named_class c.pool h.catch_class

-- The code's bytes have a reading, each instruction does in the image what it does in the class, and its branches reach
-- in the image.
pub record CanBeLaid (count number : ℕ) (mark : Mark) (c image : ClassFile) (old : CodeAttribute) (reading : Code) : Type 0 where
  pub bytes : IsBytes old.code
  pub most : length old.code ≤ 65535
  pub some : 0 < length reading.instrs
  pub near : first_far (entry_probe count number mark) (groups_of count number reading.instrs) ≡ None
  pub short : length (laid_version count number mark reading.instrs).code ≤ 65535
  pub does : AllByRecursion (λ i. operation_of image i ≡ operation_of c i) reading.instrs
