-- The machine of a row.
use Rattle.std.specs.Prelude.{◌≡◌, ℕ, true, false, List, [], ◌∷◌, ◌++◌, Option, Ok, codes, if◌then◌else◌}
use Rattle.std.specs.Str.{bytes_eq}
use Rattle.byte_streams.specs.Streams.{Told}
use Rattle.jf_bytes.specs.Unicode.{utf16_of}
use Rattle.const_pool.specs.declared.class.ClassFile.{ClassFile}
use Rattle.class_reader.specs.Files.{IsFile}
use Rattle.plan_text.specs.Lines.{silent_plan}
use Rattle.jvm_model.specs.declared.program.Program.{Program}
use Rattle.admit_check.specs.Admission.{admission_of}
use Rattle.jvm_machine.specs.View.{View, machine_made}
use Rattle.played_rows.specs.Files.{IsFileAt}
use Rattle.played_rows.specs.Machine.Words.{rest_of, word_of}

-- a line `class FILE` adds the class that the file's bytes spell, and another line none
pub data AddsClass (told : Option Told) (text : List ℕ) : List ClassFile → List ClassFile → Type 0 where
  class : (classes : List ClassFile) (bytes : List ℕ) (c : ClassFile) → bytes_eq (word_of text) (codes "class") ≡ true
      → IsFileAt told (rest_of text) bytes → IsFile bytes c → AddsClass told text classes (classes ++ c ∷ [])
  other : (classes : List ClassFile) → bytes_eq (word_of text) (codes "class") ≡ false → AddsClass told text classes classes

-- the classes of the files that these lines name, in order
pub data AreClasses (told : Option Told) : List (List ℕ) → List ClassFile → Type 0 where
  none : AreClasses told [] []
  more : (texts : List (List ℕ)) (text : List ℕ) (old new : List ClassFile) → AreClasses told texts old → AddsClass told text old new
      → AreClasses told (texts ++ text ∷ []) new

-- the main class that the first line `main NAME` names
abbrev pub main_said : List (List ℕ) → List ℕ
main_said [] = []
main_said (text ∷ texts) = if bytes_eq (word_of text) (codes "main") then rest_of text else main_said texts

-- the program that admission makes of these classes with this main class
pub record IsProgramOf (told : Option Told) (texts : List (List ℕ)) (p : Program) : Type 0 where
  pub classes : List ClassFile
  pub read : AreClasses told texts classes
  pub admitted : admission_of classes (utf16_of (main_said texts)) silent_plan ≡ Ok p

-- a machine of it that was just made, on no input
pub record IsMade (told : Option Told) (texts : List (List ℕ)) (v : View) : Type 0 where
  pub program : Program
  pub of : IsProgramOf told texts program
  pub made : v ≡ machine_made program []
