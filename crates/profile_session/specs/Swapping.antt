-- Classes are swapped for the marks of what is revealed now.
use Rattle.std.specs.Prelude.{◌≡◌, ℕ, ◌<◌, List, [], ◌∷◌, ◌++◌, length}
use Rattle.std.specs.List.{AllByRecursion}
use Rattle.std.specs.Option.{option_map_or}
use Rattle.jvm_model.specs.declared.event.Mark.{Mark}
use Rattle.jvm_model.specs.declared.event.Mark.TheVariants.{Off}
use Rattle.jvm_model.specs.declared.program.Program.{Program}
use Rattle.jvm_model.specs.Basis.Programs.{number_of_method}
use Rattle.jvm_model.specs.Profiling.Revealed.{Revealed, mark_of}
use Rattle.const_pool.specs.ClassFile.{IsClassFile}
use Rattle.inject_events.specs.declared.image.Image.{Image}
use Rattle.jvm_machine.specs.Installs.{IsImageOf, with_class}
use Rattle.jvm_machine.specs.View.{View}
use Rattle.profile_session.specs.declared.swap.Swap.{Swap}
use Rattle.profile_session.specs.declared.swapping.Redefinition.{Redefinition}
use Rattle.profile_session.specs.Images.{image_bytes, image_for, marks_for}
use Rattle.profile_session.specs.Keeping.{swapped_now}

-- of the method at a position of a class; one without Code has none but Off
abbrev pub mark_at_position : Program → Revealed → ℕ → ℕ → Mark
mark_at_position p r class position = option_map_or (mark_of p r) (number_of_method p class position) Off

-- the program has these classes
abbrev pub AreKnown : Program → List ℕ → Type 0
AreKnown p classes = AllByRecursion (λ class. class < length p.classes) classes

-- one class after another
abbrev pub with_classes : Program → Revealed → List ℕ → View → View
with_classes p r [] v = v
with_classes p r (class ∷ more) v = with_classes p r more (with_class class (marks_for p r class) v)

-- the image of a class, as the machine takes it
pub record IsImaged (p : Program) (class : ℕ) (marks : List Mark) (image : Image) : Type 0 where
  pub is : image ≡ image_for p class marks
  pub formed : IsClassFile image.class
  pub made : IsImageOf p class marks image.class image.homes

-- what a class is redefined by
pub record IsMade (p : Program) (r : Revealed) (class : ℕ) (m : Redefinition) : Type 0 where
  pub marks : m.marks.items ≡ marks_for p r class
  pub image : Image
  pub imaged : IsImaged p class (marks_for p r class) image
  pub homes : m.homes ≡ image.homes
  pub bytes : m.bytes.items ≡ image_bytes p class (marks_for p r class)

-- the classes were swapped
pub record HasSwapped (p : Program) (r : Revealed) (classes : List ℕ) (old new : View) (before after : List Swap) : Type 0 where
  pub vm : new ≡ with_classes p r classes old
  pub swaps : after ≡ before ++ swapped_now p old.clock r classes
