-- The image of a class for the marks of its methods, as bytes.
use Rattle.std.specs.Prelude.{◌≡◌, ◌≤◌, refl, ℕ, List, length, unwrap_or}
use Rattle.std.specs.List.{AllByRecursion}
use Rattle.const_pool.specs.declared.class.ClassFile.{ClassFile}
use Rattle.const_pool.specs.ClassFile.{IsClassFile, class_bytes}
use Rattle.inject_events.specs.declared.image.Image.{Image}
use Rattle.inject_events.specs.Answers.{IsProfilable, IsReadableClass}
use Rattle.inject_events.specs.Rewriting.{image_of}
use Rattle.jvm_model.specs.declared.event.Mark.{Mark}
use Rattle.jvm_model.specs.declared.program.Program.{Program}
use Rattle.jvm_model.specs.Basis.Programs.{class_at, no_class, methods_numbered}
use Rattle.jvm_model.specs.Profiling.Revealed.{Revealed, stand_of}
use Rattle.jvm_model.specs.Soundness.SoundPrograms.{HasOperations}
use Rattle.jvm_model.specs.Profiling.Swaps.{first_number, marks_of_class}
use Rattle.jvm_model.specs.Profiling.Targets.{operations_of}

abbrev pub class_in : Program → ℕ → ClassFile
class_in p class = unwrap_or (class_at p class) no_class

-- the marks of a class's methods, in its order
abbrev pub marks_for : Program → Revealed → ℕ → List Mark
marks_for p r class = marks_of_class p (operations_of p) (stand_of r) class

abbrev pub image_for : Program → ℕ → List Mark → Image
image_for p class marks = image_of (class_in p class) (first_number p class) marks

unfoldable pub image_bytes : Program → ℕ → List Mark → List ℕ
image_bytes p class marks = class_bytes (image_for p class marks).class

pub image_bytes-is : (p : Program) (class : ℕ) (marks : List Mark) → image_bytes p class marks ≡ class_bytes (image_for p class marks).class
unfolding image_bytes
image_bytes-is p class marks = refl

-- What is asked of a program, so that each of its classes can be rewritten for any marks: its classes are class files
-- that can be read and rewritten, its methods are those with Code, numbered in order, as many as admission takes, and
-- each instruction does something. An admitted program is one.
pub record AreImageable (p : Program) : Type 0 where
  pub formed : AllByRecursion IsClassFile p.classes
  pub readable : AllByRecursion IsReadableClass p.classes
  pub profilable : AllByRecursion IsProfilable p.classes
  pub numbered_are : p.methods ≡ methods_numbered p.classes
  pub few : length p.methods ≤ 32768
  pub operations : HasOperations p
