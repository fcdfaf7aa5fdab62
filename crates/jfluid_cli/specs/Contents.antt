-- The classes of a call: the contents of its files, in the order of their words, or of generated ones,
-- and the classes that they spell.
use Rattle.std.specs.Prelude.{◌≡◌, ℕ, List, [], length, take, Option, Some, None, slice_get, unwrap_or}
use Rattle.std.specs.List.{AllZip}
use Rattle.byte_streams.specs.Streams.{Told, IsFetched, IsToldAs}
use Rattle.const_pool.specs.declared.class.ClassFile.{ClassFile}
use Rattle.class_reader.specs.declared.error.ReadError.{ReadError}
use Rattle.class_reader.specs.Files.{IsFile, IsFirstFault, most_bytes}
use Rattle.jvm_model.specs.declared.program.Program.{Program}
use Rattle.generated_programs.specs.Admitted.{generated_contents}
use Rattle.command_line.specs.declared.words.Generation.{Generation}

-- the word of the file at this position
abbrev pub word_at : List (List ℕ) → ℕ → List ℕ
word_at words at = unwrap_or (slice_get words at) []

-- ---- contents

-- each is what the files tell under its word, and there are as many
abbrev pub AreToldAs : Option Told → List (List ℕ) → List (List ℕ) → Type 0
AreToldAs told words contents = AllZip (IsToldAs told) words contents

-- the class files of the generated classes, in their order, or else what the files tell
abbrev pub AreContentsBy : Option Told → Option Generation → List (List ℕ) → List (List ℕ) → Type 0
AreContentsBy told None words contents = AreToldAs told words contents
AreContentsBy told (Some g) words contents = contents ≡ generated_contents g.seed g.size

-- what is fetched of a class file: its contents, or of longer ones a front that shows it
abbrev pub IsFrontFor : Option Told → List ℕ → List ℕ → Type 0
IsFrontFor told word front = IsFetched told word most_bytes front

-- each is what was fetched under its word
abbrev pub AreFetched : Option Told → List (List ℕ) → List (List ℕ) → Type 0
AreFetched told words fronts = AllZip (IsFrontFor told) words fronts

-- ---- classes

-- each is a file of its class
abbrev pub AreFiles : List (List ℕ) → List ClassFile → Type 0
AreFiles contents classes = AllZip IsFile contents classes

-- the classes with which a program begins, as many as there are files
abbrev pub classes_for : List (List ℕ) → Program → List ClassFile
classes_for files program = take (length files) program.classes

-- Those before this position are class files; the one at it is not, and this is its first fault.
pub record IsFaultAt (contents : List (List ℕ)) (at : ℕ) (fault : ReadError) : Type 0 where
  pub bytes : List ℕ
  pub there : slice_get contents at ≡ Some bytes
  pub first : IsFirstFault bytes fault
  pub classes : List ClassFile
  pub earlier : AreFiles (take at contents) classes

-- The bytes are a file of this class, and of no other, and have no fault.
pub record SpellsAlone (bytes : List ℕ) (c : ClassFile) : Type 0 where
  pub file : IsFile bytes c
  pub only : (d : ClassFile) → IsFile bytes d → d ≡ c
  pub faultless : (fault : ReadError) → IsFirstFault bytes fault → ⊥

-- each is a file of its class and of no other
abbrev pub SpellAlone : List (List ℕ) → List ClassFile → Type 0
SpellAlone contents classes = AllZip SpellsAlone contents classes
