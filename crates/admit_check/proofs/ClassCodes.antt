-- The codes of a class that breaks no rule: they are read, lead to themselves, and each instruction has an operation.
use Rattle.std.proofs.Common.{◌≡◌, ℕ, zero, suc, ◌+◌, true, List, [], ◌∷◌, ◌++◌, length, map, Option, Some, None, Result, Ok, refl, subst}
use Rattle.std.specs.Prelude.{not, slice_get}
use Rattle.std.specs.List.{AllByRecursion}
use Rattle.std.specs.Option.{option_and_then, option_map, option_or}
use Rattle.std.proofs.lemmas.Option.{none-some, option_and_then_some, same_Some}
use Rattle.const_pool.specs.declared.class.ClassFile.{ClassFile}
use Rattle.const_pool.specs.declared.class.CodeAttribute.{CodeAttribute}
use Rattle.const_pool.specs.declared.class.Member.{Member}
use Rattle.const_pool.specs.declared.pool.Const.{Const}
use Rattle.const_pool.specs.ClassFile.{IsClassFile}
use Rattle.code_model.specs.declared.error.CodeError.{CodeError}
use Rattle.code_model.specs.declared.instr.Instr.{Instr}
use Rattle.code_model.specs.Instructions.{instruction_at}
use Rattle.code_model.proofs.Reading.Readings.{Reads-each}
use Rattle.jvm_model.specs.Basis.Methods.{code_of, method_code}
use Rattle.inject_events.specs.Answers.{IsProfilable, IsReadableClass}
use Rattle.code_admission.specs.declared.error.AdmitError.{AdmitError}
use Rattle.base_classes.specs.BuiltInFiles.{built_in_files}
use Rattle.base_classes.proofs.Computed.{all_formed}
use Rattle.admit_check.specs.Admission.{class_fault, classes_fault}
use Rattle.code_admission.specs.Checks.{fault_if, first_from, first_in, first_of}
use Rattle.admit_check.specs.Profiling.{HaveSoundTables, profiling_fault}
use Rattle.admit_check.specs.Shapes.{name_fault, shape_fault}
use Rattle.admit_check.specs.SoundBuiltIn.{IsSoundBuiltIn}
use Rattle.admit_check.proofs.BuiltInRules.{built-in-follow}
use Rattle.admit_check.proofs.Profilable.{profilable-none}
use Rattle.admit_check.proofs.SoundCodes.{tables-sound}
use Rattle.code_admission.specs.Codes.{AreRead, Method, cause_of, code_fault, codes_fault, instr_fault, instructions_of, method_fault, method_with, reading_of, result_of, told_in}
use Rattle.code_admission.specs.Floating.{first_floating, floating_body, floating_fault, floating_offset, is_floating_instr}
use Rattle.code_admission.specs.Uses.{fits_locals, fits_pool, fits_return, fits_targets, fits_type}
use Rattle.code_admission.specs.declared.error.CodeCause.{CodeCause}
use Rattle.code_admission.specs.declared.error.CodeCause.TheVariants as cause
use Rattle.code_admission.proofs.Decoded.{reading_is_read}
use Rattle.code_admission.proofs.Readable.{IsReadableClass-read}
use Rattle.jvm_model.specs.Soundness.SoundPrograms.{HaveOperations}
use Rattle.jvm_model.specs.Soundness.Whole.{HasSoundCode, instrs_of}
use Rattle.jvm_model.proofs.Soundness.PoolTexts.{have-texts, named-there}
use Rattle.code_admission.proofs.Operations.{operation-there}
use Rattle.code_admission.proofs.ReadCodes.{code-read}
use Rattle.code_admission.proofs.CodeStarts.{code-sound, first-none, fits-of, mapped-none, no-fault, read-as, rest-none}

-- each code of the class leads to its own starts
abbrev pub HaveSoundCodes : ClassFile → Type 0
HaveSoundCodes c = (n : ℕ) (code : CodeAttribute) → method_code c n ≡ Some code → HasSoundCode code

-- each of its instructions has an operation
abbrev pub HaveKnownCodes : ClassFile → Type 0
HaveKnownCodes c = (n : ℕ) (code : CodeAttribute) → method_code c n ≡ Some code → HaveOperations c (instrs_of code)

-- ---- a method

each-none : (k : ℕ) (pool : List Const) (first : ℕ) (methods : List Member) (n : ℕ) (m : Member) → first_from (method_fault k pool) first methods ≡ None → slice_get methods n ≡ Some m
    → (at : ℕ) × (method_fault k pool at m ≡ None)
each-none k pool first [] n m none at = absurd (none-some m at)
each-none k pool first (x ∷ rest) zero m none at =
    (first, subst (λ (y : Member). method_fault k pool first y ≡ None) (same_Some x m at) (first-none (method_fault k pool first x) (first_from (method_fault k pool) (first + 1) rest) none))
each-none k pool first (x ∷ rest) (suc n) m none at =
    each-none k pool (first + 1) rest n m (rest-none (method_fault k pool first x) (first_from (method_fault k pool) (first + 1) rest) none) at

record IsFineMethod (c : ClassFile) (n : ℕ) (code : CodeAttribute) : Type 0 where
  method : Member
  at : slice_get c.methods n ≡ Some method
  coded : code_of method ≡ Some code
  fine : code_fault c.pool (result_of c.pool method) code ≡ None

fine-at : (k : ℕ) (c : ClassFile) (n : ℕ) (m : Member) (code : CodeAttribute) → codes_fault k c ≡ None → slice_get c.methods n ≡ Some m → code_of m ≡ Some code
    → code_fault c.pool (result_of c.pool m) code ≡ None
fine-at k c n m code none at coded =
    let here = each-none k c.pool 0 c.methods n m none at in
    mapped-none (told_in k here.0) (code_fault c.pool (result_of c.pool m) code)
    (subst (λ (o : Option CodeAttribute). option_map (told_in k here.0) (option_and_then (code_fault c.pool (result_of c.pool m)) o) ≡ None) coded here.1)

fine-code : (k : ℕ) (c : ClassFile) (n : ℕ) (code : CodeAttribute) → codes_fault k c ≡ None → method_code c n ≡ Some code → IsFineMethod c n code
fine-code k c n code none is = option_and_then_some code_of (slice_get c.methods n) code is (λ m at coded. record { method = m; at = at; coded = coded; fine = fine-at k c n m code none at coded })

-- ---- they are read

methods-read : (k : ℕ) (c : ClassFile) → codes_fault k c ≡ None → AreRead c.methods
methods-read k c none n m code at coded = code-read c.pool (result_of c.pool m) code (fine-at k c n m code none at coded)

pub class-readable : (k : ℕ) (c : ClassFile) → IsClassFile c → codes_fault k c ≡ None → IsReadableClass c
class-readable k c formed none = IsReadableClass-read c formed (methods-read k c none)

-- ---- they lead to themselves

pub class-sound : (k : ℕ) (c : ClassFile) → codes_fault k c ≡ None → HaveSoundCodes c
class-sound k c none n code is = let here = fine-code k c n code none is in code-sound c.pool (result_of c.pool here.method) code here.fine

-- ---- each instruction has an operation

-- no code has a float
body-none : (k : ℕ) (pool : List Const) (first : ℕ) (methods : List Member) (n : ℕ) (m : Member) → first_from (floating_body k pool) first (map reading_of methods) ≡ None → slice_get methods n ≡ Some m
    → (at : ℕ) × (floating_body k pool at (reading_of m) ≡ None)
body-none k pool first [] n m none at = absurd (none-some m at)
body-none k pool first (x ∷ rest) zero m none at =
    (first, subst (λ (y : Member). floating_body k pool first (reading_of y) ≡ None) (same_Some x m at) (first-none (floating_body k pool first (reading_of x)) _ none))
body-none k pool first (x ∷ rest) (suc n) m none at = body-none k pool (first + 1) rest n m (rest-none (floating_body k pool first (reading_of x)) _ none) at

code-floats : (k : ℕ) (c : ClassFile) (n : ℕ) (m : Member) (code : CodeAttribute) (instrs : List Instr) → floating_fault k c ≡ None → slice_get c.methods n ≡ Some m → code_of m ≡ Some code
    → instructions_of code.code ≡ Ok instrs → first_floating c.pool instrs ≡ None
code-floats k c n m code instrs none at coded read =
    let bodies = first-none _ _ (rest-none _ _ (rest-none _ _ none)) in
    let here = body-none k c.pool 0 c.methods n m bodies at in
    let body : floating_offset c.pool (instructions_of code.code) ≡ None =
    mapped-none _ _ (subst (λ (o : Option CodeAttribute). floating_body k c.pool here.0 (option_map (λ (code : CodeAttribute). instructions_of code.code) o) ≡ None) coded here.1) in
    subst (λ (r : Result (List Instr) CodeError). floating_offset c.pool r ≡ None) read body

-- what an instruction fits, of which no check fails
parts-fit : (m : Method) (i : Instr) → cause_of m i ≡ None → (fits_pool m.pool i ≡ true) × (fits_type m.pool i.op i.arg ≡ true)
parts-fit m i none =
    let operand : Option CodeCause = option_or (fault_if (not (fits_type m.pool i.op i.arg)) cause.Operand) None in
    let return : Option CodeCause = option_or (fault_if (not (fits_return m.result i.op)) cause.Return) operand in
    let target : Option CodeCause = option_or (fault_if (not (fits_targets m.instrs i)) cause.Target) return in
    let local : Option CodeCause = option_or (fault_if (not (fits_locals m.max_locals i)) cause.Local) target in
    let behind = rest-none (fault_if (not (fits_locals m.max_locals i)) cause.Local) target (rest-none (fault_if (not (fits_pool m.pool i)) cause.Pool) local none) in
    let last = rest-none (fault_if (not (fits_return m.result i.op)) cause.Return) operand (rest-none (fault_if (not (fits_targets m.instrs i)) cause.Target) return behind) in (
      fits-of (fits_pool m.pool i) cause.Pool (first-none (fault_if (not (fits_pool m.pool i)) cause.Pool) local none),
      fits-of (fits_type m.pool i.op i.arg) cause.Operand (first-none (fault_if (not (fits_type m.pool i.op i.arg)) cause.Operand) None last),
    )

module _ (c : ClassFile) (formed : IsClassFile c) where
  each-there : (bytes : List ℕ) (m : Method) → m.pool ≡ c.pool → (is : List Instr) → AllByRecursion (λ i. instruction_at bytes i.at ≡ Some i) is → first_in (instr_fault m) is ≡ None
      → first_floating c.pool is ≡ None → HaveOperations c is
  each-there bytes m same [] stand none floats = tt
  each-there bytes m same (i ∷ is) stand none floats =
      let texts = have-texts c.pool formed.pool in
      let fit = parts-fit m i (mapped-none _ (cause_of m i) (first-none _ _ none)) in (
        operation-there c (named-there c.pool texts c.this_class formed.this_class) texts i (subst (λ p. fits_pool p i ≡ true) same fit.0)
            (subst (λ p. fits_type p i.op i.arg ≡ true) same fit.1) (no-fault (is_floating_instr c.pool i) _ (first-none _ _ floats)) bytes i.at stand.0,
        each-there bytes m same is stand.1 (rest-none _ _ none) (rest-none _ _ floats),
      )

  pub class-operations : (k : ℕ) → codes_fault k c ≡ None → floating_fault k c ≡ None → HaveKnownCodes c
  class-operations k none floats n code is =
      let here = fine-code k c n code none is in
      let read = read-as c.pool (result_of c.pool here.method) code here.fine in
      let reading = reading_is_read code.code (record { instrs = instrs_of code; len = length code.code }) (record { instrs = read.reads; len = refl }) in
      each-there code.code (method_with c.pool (result_of c.pool here.method) (instrs_of code) code.max_locals) refl (instrs_of code) (Reads-each code.code 0 (instrs_of code) read.reads)
      (first-none _ _ read.fine) (code-floats k c n here.method code (instrs_of code) floats here.at here.coded reading)

-- ---- all of it

pub record IsFineClass (c : ClassFile) : Type 0 where
  pub readable : IsReadableClass c
  pub profilable : IsProfilable c
  pub tables : HaveSoundTables c
  pub codes : HaveSoundCodes c
  pub operations : HaveKnownCodes c

pub fine-class : (k : ℕ) (c : ClassFile) → IsClassFile c → codes_fault k c ≡ None → floating_fault k c ≡ None → profiling_fault k c ≡ None → IsFineClass c
fine-class k c formed codes floats rewritten =
    let readable = class-readable k c formed codes in
    record {
      readable = readable;
      profilable = profilable-none k c rewritten;
      tables = tables-sound k c formed readable codes;
      codes = class-sound k c codes;
      operations = class-operations c formed k codes floats;
    }

fine-own : (named : Option AdmitError) (k : ℕ) (c : ClassFile) → IsClassFile c → first_of (named ∷ shape_fault k c ∷ codes_fault k c ∷ floating_fault k c ∷ profiling_fault k c ∷ []) ≡ None → IsFineClass c
fine-own named k c formed fine =
    let behind_floats : Option AdmitError = option_or (profiling_fault k c) None in
    let behind_codes : Option AdmitError = option_or (floating_fault k c) behind_floats in
    let behind_shape : Option AdmitError = option_or (codes_fault k c) behind_codes in
    let shape = rest-none named (option_or (shape_fault k c) behind_shape) fine in
    let codes = rest-none (shape_fault k c) behind_shape shape in
    let floats = rest-none (codes_fault k c) behind_codes codes in
    fine-class k c formed (first-none (codes_fault k c) behind_codes codes) (first-none (floating_fault k c) behind_floats floats)
    (first-none (profiling_fault k c) None (rest-none (floating_fault k c) behind_floats floats))

-- classes of which none has a fault
pub fine-classes : (earlier classes : List ClassFile) → AllByRecursion IsClassFile classes → classes_fault earlier classes ≡ None → AllByRecursion IsFineClass classes
fine-classes earlier [] formed fine = tt
fine-classes earlier (c ∷ rest) formed fine = (
  fine-own (name_fault earlier (length earlier) c) (length earlier) c formed.0 (first-none (class_fault earlier (length earlier) c) (classes_fault (earlier ++ c ∷ []) rest) fine),
  fine-classes (earlier ++ c ∷ []) rest formed.1 (rest-none (class_fault earlier (length earlier) c) (classes_fault (earlier ++ c ∷ []) rest) fine),
)

fine-following : (cs : List ClassFile) → AllByRecursion IsClassFile cs → AllByRecursion IsSoundBuiltIn cs → AllByRecursion IsFineClass cs
fine-following [] formed follow = tt
fine-following (c ∷ cs) formed follow =
    (fine-class 0 c formed.0 (follow.0.codes_fine 0) (follow.0.floats 0) (follow.0.rewritten 0), fine-following cs formed.1 follow.1)

-- and the built-in ones
pub fine-built-in : AllByRecursion IsFineClass built_in_files
fine-built-in = fine-following built_in_files (all_formed built_in_files refl) built-in-follow
