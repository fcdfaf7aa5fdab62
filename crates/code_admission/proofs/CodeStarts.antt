-- A code without a fault is instructions from its front to its end, which lead to starts of instructions, and so do its
-- handlers, whose ranges may end where the code does.
use Rattle.std.proofs.Common.{◌≡◌, ℕ, zero, suc, ◌+◌, ◌≤◌, Bool, true, false, List, [], ◌∷◌, length, Option, Some, None, Result, Ok, refl, sym, ap, subst, ◌∙◌, arith, eqb-true}
use Rattle.std.specs.Prelude.{◌==◌, ◌||◌, not}
use Rattle.std.specs.List.{AllByRecursion, list_all}
use Rattle.std.specs.Option.{option_map, option_map_or, option_or}
use Rattle.std.proofs.lemmas.Bool.{and_parts, eq-eqb}
use Rattle.std.proofs.lemmas.Option.{none-some}
use Rattle.const_pool.specs.declared.class.CodeAttribute.{CodeAttribute}
use Rattle.const_pool.specs.declared.class.Handler.{Handler}
use Rattle.const_pool.specs.declared.descriptor.Kind.{Kind}
use Rattle.const_pool.specs.declared.pool.Const.{Const}
use Rattle.code_model.specs.declared.error.CodeError.{CodeError}
use Rattle.code_model.specs.declared.instr.Arg.{Arg}
use Rattle.code_model.specs.declared.instr.Arg.TheVariants as arg
use Rattle.code_model.specs.declared.instr.Instr.{Instr}
use Rattle.code_model.specs.Groups as groups
use Rattle.code_model.specs.Instructions.{Reads, end_of}
use Rattle.code_model.proofs.Reading.Lengths.{size_at-some}
use Rattle.code_model.proofs.Reading.Readings.{at-instruction_at, instruction_at-past, instruction_at_within}
use Rattle.jvm_model.specs.Codes.Lines.{targets_of}
use Rattle.jvm_model.specs.Codes.Places.{is_start_in, read_from}
use Rattle.inject_events.proofs.Rooms.{neither}
use Rattle.code_admission.specs.Checks.{fault_if, first_in}
use Rattle.code_admission.specs.Codes.{Method, cause_of, code_fault, fault_by, fits_handler, handler_fault, instr_fault, method_with, read_fault}
use Rattle.code_model.specs.Groups.{is_start}
use Rattle.code_admission.specs.Uses.{fits_targets}
use Rattle.code_admission.proofs.Decoded.{reading_found}
use Rattle.jvm_model.specs.Soundness.Whole.{FitsHandler, HasSoundCode, instrs_of, is_stop}
use Rattle.code_admission.proofs.ReadCodes.{code-read}

-- ---- the first of several

pub first-none : {A : Type 0} (a b : Option A) → option_or a b ≡ None → a ≡ None
first-none a b e = (neither a b e).0

pub rest-none : {A : Type 0} (a b : Option A) → option_or a b ≡ None → b ≡ None
rest-none a b e = (neither a b e).1

pub mapped-none : {A B : Type 0} (f : A → B) (o : Option A) → option_map f o ≡ None → o ≡ None
mapped-none f None e = refl
mapped-none f (Some x) e = absurd (none-some (f x) (sym e))

pub no-fault : {A : Type 0} (b : Bool) (why : A) → fault_if b why ≡ None → b ≡ false
no-fault true why e = absurd (none-some why (sym e))
no-fault false why e = refl

pub fits-of : {A : Type 0} (b : Bool) (why : A) → fault_if (not b) why ≡ None → b ≡ true
fits-of true why e = refl
fits-of false why e = absurd (none-some why (sym e))

-- ---- a reading

reads-from : (n : ℕ) (bytes : List ℕ) (at : ℕ) (is : List Instr) → length bytes ≤ at + n → Reads bytes at is → read_from n bytes at ≡ is
reads-from zero bytes at [] enough reads = refl
reads-from zero bytes at (i ∷ rest) enough reads = let within = instruction_at_within bytes at i reads.0 in absurd (omega arith)
reads-from (suc n) bytes at [] enough reads = ap (λ o. option_map_or (λ (i : Instr). i ∷ read_from n bytes (end_of i)) o []) (instruction_at-past bytes at (omega (arith, reads)))
reads-from (suc n) bytes at (i ∷ rest) enough reads =
    let within = instruction_at_within bytes at i reads.0 in
    let here = at-instruction_at bytes at i reads.0 in
    let some = size_at-some i.at i in
    let enough_behind : length bytes ≤ end_of i + n = omega arith in
    ap (λ o. option_map_or (λ (j : Instr). j ∷ read_from n bytes (end_of j)) o []) reads.0
    ∙ ap (λ (is : List Instr). i ∷ is) (reads-from n bytes (end_of i) rest enough_behind reads.1)

-- ---- what the checks of a code tell

-- the targets are the same
targets-same : (a : Arg) → groups.targets_of a ≡ targets_of a
targets-same (arg.Target t) = refl
targets-same (arg.Table default low targets) = refl
targets-same (arg.Lookup default keys targets) = refl
targets-same (arg.Plain) = refl
targets-same (arg.Value n) = refl
targets-same (arg.Pool index) = refl
targets-same (arg.Local slot) = refl
targets-same (arg.Inc slot n) = refl
targets-same (arg.Interface index count last) = refl
targets-same (arg.Multi index dimensions) = refl
targets-same (arg.Array code) = refl

same-other-way : (a b : ℕ) → (a == b) ≡ true → (b == a) ≡ true
same-other-way a b e = eq-eqb b a (sym (eqb-true a b e))

stop-by : (a b c : Bool) → (b ≡ true → c ≡ true) → (a || b) ≡ true → (a || c) ≡ true
stop-by true b c turn e = refl
stop-by false b c turn e = turn e

module _ (code : CodeAttribute) (m : Method) (instrs : m.instrs ≡ instrs_of code) where
  start : (t : ℕ) → is_start m.instrs t ≡ true → is_start_in (instrs_of code) t ≡ true
  start t e = ap (λ is. is_start_in is t) (sym instrs) ∙ e

  stop : (t : ℕ) → (is_start m.instrs t || t == length code.code) ≡ true → is_stop code t ≡ true
  stop t e =
      stop-by (is_start_in (instrs_of code) t) (t == length code.code) (length code.code == t) (same-other-way t (length code.code))
      (ap (λ is. is_start_in is t || t == length code.code) (sym instrs) ∙ e)

  all-starts : (ts : List ℕ) → list_all (is_start m.instrs) ts ≡ true → AllByRecursion (λ t. is_start_in (instrs_of code) t ≡ true) ts
  all-starts [] e = tt
  all-starts (t ∷ ts) e = let parts = and_parts (is_start m.instrs t) (list_all (is_start m.instrs) ts) e in (start t parts.0, all-starts ts parts.1)

  instr-targets : (i : Instr) → instr_fault m i ≡ None → AllByRecursion (λ t. is_start_in (instrs_of code) t ≡ true) (targets_of i.arg)
  instr-targets i none =
      let cause = mapped-none _ (cause_of m i) none in
      let a = rest-none _ _ cause in
      let b = rest-none _ _ a in
      let fits : fits_targets m.instrs i ≡ true = fits-of (fits_targets m.instrs i) _ (first-none _ _ b) in
      subst (AllByRecursion (λ t. is_start_in (instrs_of code) t ≡ true)) (targets-same i.arg) (all-starts (groups.targets_of i.arg) fits)

  each-targets : (is : List Instr) → first_in (instr_fault m) is ≡ None → AllByRecursion (λ (i : Instr). AllByRecursion (λ t. is_start_in (instrs_of code) t ≡ true) (targets_of i.arg)) is
  each-targets [] none = tt
  each-targets (i ∷ is) none = (instr-targets i (first-none _ _ none), each-targets is (rest-none _ _ none))

  fits-handler : (h : Handler) → handler_fault m.instrs (length code.code) h ≡ None → FitsHandler code h
  fits-handler h none =
      let fits : fits_handler m.instrs (length code.code) h ≡ true = fits-of (fits_handler m.instrs (length code.code) h) _ none in
      let a = and_parts _ _ fits in
      let b = and_parts _ _ a.1 in
      let d = and_parts _ _ b.1 in
      (start h.start a.0, stop h.end b.0, start h.handler d.0)

  fit-handlers : (hs : List Handler) → first_in (handler_fault m.instrs (length code.code)) hs ≡ None → AllByRecursion (FitsHandler code) hs
  fit-handlers [] none = tt
  fit-handlers (h ∷ hs) none = (fits-handler h (first-none _ _ none), fit-handlers hs (rest-none _ _ none))

  sound-code : Reads code.code 0 (instrs_of code) → read_fault m code ≡ None → HasSoundCode code
  sound-code reads none = record {
    reads = reads;
    targets = subst (AllByRecursion (λ (i : Instr). AllByRecursion (λ t. is_start_in (instrs_of code) t ≡ true) (targets_of i.arg))) instrs (each-targets m.instrs (first-none _ _ none));
    handlers = fit-handlers code.handlers (first-none _ _ (rest-none _ _ (rest-none _ _ none)));
  }

-- ---- a code

-- it was read as what it is
pub record IsReadAs (pool : List Const) (result : Option Kind) (code : CodeAttribute) : Type 0 where
  pub reads : Reads code.code 0 (instrs_of code)
  pub fine : read_fault (method_with pool result (instrs_of code) code.max_locals) code ≡ None

pub read-as : (pool : List Const) (result : Option Kind) (code : CodeAttribute) → code_fault pool result code ≡ None → IsReadAs pool result code
read-as pool result code none =
    let read = code-read pool result code none in
    let reading = reading_found code.code read.instrs read.read in
    let same : instrs_of code ≡ read.instrs = reads-from (length code.code) code.code 0 read.instrs (omega arith) reading.instrs in
    let fine : fault_by pool result code (Ok read.instrs) ≡ None = subst (λ (r : Result (List Instr) CodeError). fault_by pool result code r ≡ None) read.read none in
    record {
      reads = subst (Reads code.code 0) (sym same) reading.instrs;
      fine = subst (λ (is : List Instr). read_fault (method_with pool result is code.max_locals) code ≡ None) (sym same) fine;
    }

pub code-sound : (pool : List Const) (result : Option Kind) (code : CodeAttribute) → code_fault pool result code ≡ None → HasSoundCode code
code-sound pool result code none =
    let read = read-as pool result code none in
    sound-code code (method_with pool result (instrs_of code) code.max_locals) refl read.reads read.fine
