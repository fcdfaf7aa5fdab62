-- When a class file is copied, what was put of it, and how a refusal is told.
use Rattle.std.specs.Prelude.{ℕ, List, Option, Result, Ok, Err, codes}
use Rattle.byte_streams.specs.Streams.{Told, IsToldAs, HasTold}
use Rattle.const_pool.specs.declared.class.ClassFile.{ClassFile}
use Rattle.class_reader.specs.Files.{IsFile, IsFirstFault}
use Rattle.class_copy.specs.declared.copying.CopyError.{CopyError}
use Rattle.class_copy.specs.declared.copying.CopyError.TheVariants.{NotFetched, NotRead, NotPut, NoMemory}

-- the bytes are a class file
abbrev pub IsSomeFile : List ℕ → Type 0
IsSomeFile bytes = (class : ClassFile) × IsFile bytes class

-- the bytes are a class file, and all of the file of that name
pub record IsFileTold (told : Option Told) (name bytes : List ℕ) : Type 0 where
  pub file : IsSomeFile bytes
  pub whole : IsToldAs told name bytes

-- A class file was put in that way: it is the file of that name.
pub record PutsFile (Way : Option (List ℕ) → Option (List ℕ) → List ℕ → Type 0) (told : Option Told) (name : List ℕ) (old new : Option (List ℕ)) : Type 0 where
  pub bytes : List ℕ
  pub file : IsFileTold told name bytes
  pub put : Way old new bytes

-- What each answer says of the file of that name, where the files tell their contents: it is there and is a class file,
-- or it is there and has that first fault. No file is both, and no file has two first faults, so a class file is copied
-- or not put, and any other file is not read. The two other answers say nothing of it.
abbrev pub IsAnswer : {A : Type 0} → Option Told → List ℕ → Result A CopyError → Type 0
IsAnswer told name (Ok x) = HasTold told name IsSomeFile
IsAnswer told name (Err NotPut) = HasTold told name IsSomeFile
IsAnswer told name (Err (NotRead fault)) = HasTold told name (λ bytes. IsFirstFault bytes fault)
IsAnswer told name (Err NotFetched) = Unit {0}
IsAnswer told name (Err NoMemory) = Unit {0}

-- what standard error tells of a refusal
abbrev pub reason_of : CopyError → List ℕ
reason_of NotFetched = codes "it could not be fetched"
reason_of (NotRead fault) = codes "it is no class file"
reason_of NotPut = codes "it could not be put"
reason_of NoMemory = codes "no memory"
