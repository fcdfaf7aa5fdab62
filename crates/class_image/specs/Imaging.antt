-- When a class file is rewritten, what was put of its image, and how a refusal is told.
use Rattle.std.specs.Prelude.{◌≡◌, ◌≢◌, ◌⊎◌, ℕ, List, [], length, Option, Some, None, IsSome, codes}
use Rattle.byte_streams.specs.Streams.{Told, IsFetched}
use Rattle.const_pool.specs.declared.class.ClassFile.{ClassFile}
use Rattle.const_pool.specs.ClassFile.{class_bytes}
use Rattle.class_reader.specs.declared.error.ReadError.{ReadError}
use Rattle.class_reader.specs.Files.{IsFile, IsFirstFault, most_bytes}
use Rattle.jvm_model.specs.declared.event.Mark.{Mark}
use Rattle.admit_check.specs.Admission.{class_fault}
use Rattle.inject_events.specs.Answers.{MarkedHaveCode}
use Rattle.inject_events.specs.Rewriting.{image_of, refused_of}
use Rattle.class_image.specs.declared.imaging.ImageError.{ImageError}
use Rattle.class_image.specs.declared.imaging.ImageError.TheVariants.{NotNumbered, NotMarked, NotFetched, NotRead, NotAdmitted, NotPut, NoMemory}
use Rattle.class_image.specs.Words.{first_said, marks_said}

-- the bytes are a class file, and admission takes its class
pub record IsAdmittedFile (bytes : List ℕ) (class : ClassFile) : Type 0 where
  pub file : IsFile bytes class
  pub fine : class_fault [] 0 class ≡ None

-- The bytes are those of the image of the class that the file has, for these marks.
pub record IsImageOf (bytes : List ℕ) (first : ℕ) (marks : List Mark) (out : List ℕ) : Type 0 where
  pub class : ClassFile
  pub admitted : IsAdmittedFile bytes class
  pub counted : length marks ≡ length class.methods
  pub coded : MarkedHaveCode marks class.methods
  pub profilable : refused_of class first marks ≡ None
  pub image : out ≡ class_bytes (image_of class first marks).class

-- ---- refusals

abbrev pub IsNoFile : List ℕ → Type 0
IsNoFile bytes = (fault : ReadError) × IsFirstFault bytes fault

abbrev pub IsNotAdmitted : List ℕ → Type 0
IsNotAdmitted bytes = (class : ClassFile) × IsFile bytes class × (class_fault [] 0 class ≢ None)

-- there are other methods than marks, or a method without Code is marked
abbrev pub AreNoMarks : ClassFile → List Mark → Type 0
AreNoMarks class marks = (length marks ≢ length class.methods) ⊎ (MarkedHaveCode marks class.methods → ⊥)

-- admission comes first
abbrev pub IsNotMarked : List ℕ → List Mark → Type 0
IsNotMarked bytes marks = (class : ClassFile) × IsAdmittedFile bytes class × AreNoMarks class marks

-- what a refusal says of the bytes of a file
abbrev pub IsRefusal : List ℕ → ℕ → List Mark → ImageError → Type 0
IsRefusal bytes first marks NotNumbered = ⊥
IsRefusal bytes first marks NotMarked = IsNotMarked bytes marks
IsRefusal bytes first marks NotFetched = ⊥
IsRefusal bytes first marks NotRead = IsNoFile bytes
IsRefusal bytes first marks NotAdmitted = IsNotAdmitted bytes
IsRefusal bytes first marks NotPut = ⊥
IsRefusal bytes first marks NoMemory = Unit {0}

-- of these only the first two come of the class alone
abbrev pub IsClassRefusal : List ℕ → ImageError → Type 0
IsClassRefusal bytes NotRead = IsNoFile bytes
IsClassRefusal bytes NotAdmitted = IsNotAdmitted bytes
IsClassRefusal bytes NoMemory = Unit {0}
IsClassRefusal bytes NotNumbered = ⊥
IsClassRefusal bytes NotMarked = ⊥
IsClassRefusal bytes NotFetched = ⊥
IsClassRefusal bytes NotPut = ⊥

-- ---- files

-- what was fetched of the file of that name has this image
pub record HasImage (told : Option Told) (name : List ℕ) (first : ℕ) (marks : List Mark) (out : List ℕ) : Type 0 where
  pub bytes : List ℕ
  pub fetched : IsFetched told name most_bytes bytes
  pub image : IsImageOf bytes first marks out

-- what was fetched is refused so, or nothing was
abbrev pub IsFileRefusal : Option Told → List ℕ → ℕ → List Mark → ImageError → Type 0
IsFileRefusal told name first marks error =
    (error ≡ NotFetched) ⊎ ((error ≡ NoMemory) ⊎ ((bytes : List ℕ) × IsFetched told name most_bytes bytes × IsRefusal bytes first marks error))

-- The image for the number and the marks that two words say was put in that way.
pub record PutsImage (Way : Option (List ℕ) → Option (List ℕ) → List ℕ → Type 0) (told : Option Told) (name first marks : List ℕ) (old new : Option (List ℕ)) : Type 0 where
  pub number : ℕ
  pub numbered : first_said first ≡ Some number
  pub letters : List Mark
  pub lettered : marks_said marks ≡ Some letters
  pub out : List ℕ
  pub image : HasImage told name number letters out
  pub put : Way old new out

-- a word is refused, or the file
pub record IsFileRefused (told : Option Told) (name first marks : List ℕ) (error : ImageError) : Type 0 where
  pub number : ℕ
  pub numbered : first_said first ≡ Some number
  pub letters : List Mark
  pub lettered : marks_said marks ≡ Some letters
  pub refused : IsFileRefusal told name number letters error

-- What each refusal says, in the order in which they are tried: FIRST is no number; it is one, and the letters are no
-- marks; both are, and the file is no class file, or is one that is not admitted, or is admitted and its methods cannot
-- have the marks. So no two of these hold of one file whose contents are told, and none holds where an image was put.
-- Memory is asked for behind the number alone.
abbrev pub IsTold : Option Told → List ℕ → List ℕ → List ℕ → ImageError → Type 0
IsTold told name first marks NotNumbered = first_said first ≡ None
IsTold told name first marks NotMarked =
    (IsSome (first_said first) × (marks_said marks ≡ None)) ⊎ IsFileRefused told name first marks NotMarked
IsTold told name first marks NotFetched = IsSome (first_said first) × IsSome (marks_said marks)
IsTold told name first marks NotRead = IsFileRefused told name first marks NotRead
IsTold told name first marks NotAdmitted = IsFileRefused told name first marks NotAdmitted
IsTold told name first marks NotPut = IsSome (first_said first) × IsSome (marks_said marks)
IsTold told name first marks NoMemory = IsSome (first_said first)

-- what standard error tells of a refusal
abbrev pub reason_of : ImageError → List ℕ
reason_of NotNumbered = codes "FIRST is no number up to 2147418112"
reason_of NotMarked = codes "its methods cannot have these marks"
reason_of NotFetched = codes "it could not be fetched"
reason_of NotRead = codes "it is no class file"
reason_of NotAdmitted = codes "it is not admitted"
reason_of NotPut = codes "it could not be put"
reason_of NoMemory = codes "no memory"
