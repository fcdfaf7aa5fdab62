-- The classes that contents spell, and the program that they are or are not.
use Rattle.std.proofs.Common.{◌≡◌, ℕ, List, [], ◌∷◌, length, take, Result, Ok, Err, refl, sym, ap, subst, ◌∙◌, ◌<◌, get_or, inl, inr}
use Rattle.std.proofs.lemmas.Option.{slice_get_read}
use Rattle.const_pool.specs.declared.class.ClassFile.{ClassFile}
use Rattle.class_reader.specs.declared.error.ReadError.{ReadError}
use Rattle.class_reader.specs.Files.{IsFile}
use Rattle.class_reader.proofs.Files.{one_class, no_first_fault}
use Rattle.jvm_model.specs.declared.program.Program.{Program}
use Rattle.code_admission.specs.declared.error.AdmitError.{AdmitError}
use Rattle.jfluid_cli.specs.declared.refusal.Refusal.{Refusal}
use Rattle.jfluid_cli.specs.Asking.{ProgramWanted}
use Rattle.jfluid_cli.specs.Stages.{IsUnread, IsReadRefusal}
use Rattle.jfluid_cli.specs.Contents.{AreFiles, IsFaultAt, SpellsAlone, SpellAlone, classes_for}
use Rattle.jfluid_cli.specs.Top.{IsProgram, HasRefused, HasNoProgram, answer_for}
use Rattle.jfluid_cli.proofs.Reports.Pairs.{zip-weaken, zip-length, zip-at}

-- ---- one content

pub spells-alone : (bytes : List ℕ) (c : ClassFile) → IsFile bytes c → SpellsAlone bytes c
spells-alone bytes c file = record {
  file = file;
  only = λ d other. one_class bytes d c other.spells file.spells;
  faultless = λ fault first. no_first_fault bytes c fault file first;
}

-- ---- several

pub files-alone : (contents : List (List ℕ)) (classes : List ClassFile) → SpellAlone contents classes
    → AreFiles contents classes
files-alone contents classes alone =
    zip-weaken SpellsAlone IsFile contents classes (λ bytes c is. is.file) alone

-- the content at a position is no class file, and those before it are
pub unread-at : (contents : List (List ℕ)) (classes : List ClassFile) (at : ℕ) (bytes : List ℕ)
    (r : Refusal) → at < length contents → bytes ≡ get_or contents at bytes
    → SpellAlone (take at contents) classes → IsUnread bytes at r → IsReadRefusal contents r
unread-at contents classes at bytes r within is alone (inl (fault, unread, first)) =
    inl (
      at,
      fault,
      unread,
      record {
        bytes = bytes;
        there = slice_get_read contents (length contents) at bytes refl within is;
        first = first;
        classes = classes;
        earlier = files-alone (take at contents) classes alone;
      },
    )
unread-at contents classes at bytes r within is alone (inr memory) = inr memory

both : (c d : ClassFile) (cs ds : List ClassFile) → c ≡ d → cs ≡ ds → c ∷ cs ≡ d ∷ ds
both c d cs ds e f = cc (e, f)

-- contents spell one list of classes
pub one-spelling : (contents : List (List ℕ)) (classes others : List ClassFile)
    → SpellAlone contents classes → AreFiles contents others → others ≡ classes
one-spelling [] [] [] alone files = refl
one-spelling [] [] (d ∷ others) alone files = absurd files
one-spelling [] (c ∷ classes) others alone files = absurd alone
one-spelling (bytes ∷ contents) [] others alone files = absurd alone
one-spelling (bytes ∷ contents) (c ∷ classes) [] alone files = absurd files
one-spelling (bytes ∷ contents) (c ∷ classes) (d ∷ others) alone files =
    both d c others classes (alone.0.only d files.0)
    (one-spelling contents classes others alone.1 files.1)

-- a program begins with the classes that its contents spell
pub begins : (contents : List (List ℕ)) (classes : List ClassFile) (p : Program)
    → SpellAlone contents classes → take (length classes) p.classes ≡ classes
    → classes_for contents p ≡ classes
begins contents classes p alone first =
    ap (λ (n : ℕ). take n p.classes) (zip-length SpellsAlone contents classes alone) ∙ first

pub spelled-program : (a : ProgramWanted) (contents : List (List ℕ)) (classes : List ClassFile) (p : Program)
    → SpellAlone contents classes → take (length classes) p.classes ≡ classes
    → answer_for a classes ≡ Ok p → IsProgram a contents p
spelled-program a contents classes p alone first admitted =
    let same : classes_for contents p ≡ classes = begins contents classes p alone first in
    record {
      files = subst (AreFiles contents) (sym same) (files-alone contents classes alone);
      admitted = subst (λ (cs : List ClassFile). answer_for a cs ≡ Ok p) (sym same) admitted;
    }

pub spelled-alone : (contents : List (List ℕ)) (classes : List ClassFile) (p : Program)
    → SpellAlone contents classes → take (length classes) p.classes ≡ classes
    → SpellAlone contents (classes_for contents p)
spelled-alone contents classes p alone first =
    subst (SpellAlone contents) (sym (begins contents classes p alone first)) alone

-- ---- no program

not-ok : (x : Program) (fault : AdmitError) → ◌≡◌ {A = Result Program AdmitError} (Ok x) (Err fault) → ⊥
not-ok x fault e = cc e

-- classes that are refused are no program
none-refused : (a : ProgramWanted) (contents : List (List ℕ)) (classes : List ClassFile) (fault : AdmitError)
    → SpellAlone contents classes → answer_for a classes ≡ Err fault → HasNoProgram a contents
none-refused a contents classes fault alone refused p program =
    let same : classes_for contents p ≡ classes =
    one-spelling contents classes (classes_for contents p) alone program.files in
    not-ok p fault (sym (subst (λ (cs : List ClassFile). answer_for a cs ≡ Ok p) same program.admitted) ∙ refused)

pub none-spelled : (a : ProgramWanted) (contents : List (List ℕ)) (fault : AdmitError) → HasRefused a fault contents
    → HasNoProgram a contents
none-spelled a contents fault has =
    none-refused a contents has.0 fault (zip-weaken IsFile SpellsAlone contents has.0 spells-alone has.1) has.2

-- contents with a fault are no program
pub none-faulty : (a : ProgramWanted) (contents : List (List ℕ)) (at : ℕ) (fault : ReadError)
    → IsFaultAt contents at fault → HasNoProgram a contents
none-faulty a contents at fault is p program =
    let here = zip-at IsFile contents (classes_for contents p) at is.bytes program.files is.there in
    no_first_fault is.bytes here.other fault here.holds is.first
