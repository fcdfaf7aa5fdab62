-- An admitted program can be prepared, started and rewritten.
use Rattle.std.proofs.Common.{◌≡◌, ℕ, suc, ◌+◌, List, [], length, ap, ◌∙◌, arith}
use Rattle.std.specs.List.{AllByRecursion}
use Rattle.std.proofs.lemmas.List.{length-append}
use Rattle.const_pool.specs.declared.class.ClassFile.{ClassFile}
use Rattle.base_classes.specs.BuiltInFiles.{built_in_files}
use Rattle.jvm_model.specs.declared.program.Program.{Program}
use Rattle.jvm_model.proofs.Soundness.SoundAnswers.{closed-codes}
use Rattle.prepared_code.specs.Prepared.{FitsOriginals}
use Rattle.admit_check.specs.Admission.{IsAdmittedProgram}
use Rattle.admit_check.proofs.FitNames.{IsOwnClass, own-classes}
use Rattle.admit_check.proofs.FitPlaces.{files-ordered}
use Rattle.program_fit.specs.Runnable.{IsAdmitted, IsRunnable}
use Rattle.program_fit.proofs.LoadedInOrder
use Rattle.program_fit.proofs.ShortCodes.{each-short}

module _ (classes : List ClassFile) (name : List ℕ) (p : Program) (admitted : IsAdmittedProgram classes name p) where
  abbrev n : ℕ
  n = length classes

  own : AllByRecursion IsOwnClass classes
  own = own-classes [] classes admitted.fine

  count : length p.classes ≡ n + 53
  count = ap length admitted.sound.classes_are ∙ (length-append classes built_in_files ∙ ap (λ k. n + k) files-ordered.count)

  more : length p.classes ≡ suc (n + 52)
  more = count ∙ (let e : n + 53 ≡ suc (n + 52) = omega arith in e)

  pub fits : FitsOriginals p
  fits = record {
    linkable = record { formed = admitted.sound.formed; count = (let c = count in let few = admitted.sound.few_classes in omega (arith, few, c)) };
    numbered = admitted.sound.methods;
    methods = (let m = admitted.sound.few in omega (arith, m));
    codes = each-short p.classes admitted.sound.formed;
    built_in = LoadedInOrder.loaded-in-order p classes built_in_files admitted.sound.classes_are own files-ordered (n + 52) more;
  }

  pub runs : IsRunnable p
  runs = record {
    fits = fits;
    fit = admitted.sound.fit;
    closed = closed-codes p admitted.sound.codes;
    starts = record { room = admitted.sound.heap.0 };
    formed = record { formed = admitted.sound.formed; methods = admitted.sound.methods; operations = admitted.sound.operations };
  }

pub runnable : (p : Program) → IsAdmitted p → IsRunnable p
runnable p admitted = runs admitted.classes admitted.name p admitted.is
