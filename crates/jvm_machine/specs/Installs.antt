-- An image of a class of a program, and what is seen of a machine in which its versions were made current.
use Rattle.std.specs.Prelude.{◌≡◌, ℕ, List, [], ◌∷◌, length, Option, Some, ◌==◌, if◌then◌else◌}
use Rattle.std.specs.List.{AllByRecursion}
use Rattle.const_pool.specs.declared.class.ClassFile.{ClassFile}
use Rattle.const_pool.specs.ClassFile.{IsClassFile}
use Rattle.code_model.specs.declared.laying.Homes.{Homes}
use Rattle.jvm_model.specs.declared.event.Mark.{Mark}
use Rattle.jvm_model.specs.declared.program.MethodPlace.{MethodPlace}
use Rattle.jvm_model.specs.declared.program.Program.{Program}
use Rattle.jvm_model.specs.Rewriting.Images.{IsImage}
use Rattle.jvm_model.specs.Basis.Programs.{class_at, methods_numbered}
use Rattle.jvm_model.specs.Soundness.SoundPrograms.{HasOperations}
use Rattle.jvm_model.specs.Rewriting.StandsFor.{mark_at}
use Rattle.jvm_model.specs.Profiling.Swaps.{first_number}
use Rattle.jvm_machine.specs.View.{View}

-- What images are made of: its classes are class files, its methods are those that have Code, and each of their
-- instructions does something that the rules of instructions know. A sound program is one.
pub record IsFormed (p : Program) : Type 0 where
  pub formed : AllByRecursion IsClassFile p.classes
  pub methods : p.methods ≡ methods_numbered p.classes
  pub operations : HasOperations p

-- the image of this class of a program for these marks, one a method of the class
pub record IsImageOf (p : Program) (class : ℕ) (marks : List Mark) (image : ClassFile) (homes : List (Option Homes)) : Type 0 where
  pub file : ClassFile
  pub there : class_at p class ≡ Some file
  pub counted : length marks ≡ length file.methods
  pub imaged : IsImage file (first_number p class) marks image homes

-- ---- what is seen then

-- a method of this class has its mark among these, by its position; the others keep theirs
abbrev pub mark_over : ℕ → List Mark → MethodPlace → Mark → Mark
mark_over class marks place was = if place.class == class then mark_at marks place.position else was

abbrev pub marks_over : ℕ → List Mark → List MethodPlace → List Mark → List Mark
marks_over class marks (place ∷ places) (was ∷ more) = mark_over class marks place was ∷ marks_over class marks places more
marks_over class marks _ _ = []

-- methods of the class begin in versions with these marks, and live activations keep theirs
abbrev pub with_class : ℕ → List Mark → View → View
with_class class marks v = record v { marks = marks_over class marks v.program.methods v.marks }
