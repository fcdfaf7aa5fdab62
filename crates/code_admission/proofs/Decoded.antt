-- A code's instructions are what code_model reads, and their first fault is its first fault.
use Rattle.std.proofs.Common.{◌≡◌, ℕ, zero, suc, ◌+◌, ◌<◌, ◌≤◌, List, [], ◌∷◌, length, drop, Some, Ok, Err, Result, refl, sym, ap, subst, ◌∙◌, inl, inr, arith}
use Rattle.std.specs.Prelude.{IfOk, IfErr}
use Rattle.std.proofs.lemmas.Bool.{cases_lt}
use Rattle.std.proofs.lemmas.List.{length-append, length-drop, drop_at, drop_all, drop-drop}
use Rattle.code_model.specs.declared.error.CodeError.{CodeError}
use Rattle.code_model.specs.declared.instr.Instr.{Instr}
use Rattle.code_model.specs.declared.instr.Code.{Code}
use Rattle.code_model.specs.Reading.{◌>>=◌, Gives, Read, read_instruction}
use Rattle.code_model.specs.Instructions.{instruction_at, end_of, Reads, ReadsTo, ArePlaced, IsReading, IsFirstFault, IsToldFault}
use Rattle.code_model.proofs.Reading.Readings.{read-instruction_at, rest-instruction_at, instruction_at_within, instruction_at-read, at-instruction_at, end_of-within}
use Rattle.code_model.proofs.Reading.Lengths.{size_at-some}
use Rattle.code_model.proofs.Reading.OperandLaws.{instruction_is_read}
use Rattle.code_admission.specs.Codes.{instructions_from, instructions_of}
use Rattle.code_admission.specs.Uses.{AreWithin}

-- ---- answers

abbrev ok_of : List Instr → Result (List Instr) CodeError
ok_of is = Ok is

abbrev err_of : CodeError → Result (List Instr) CodeError
err_of fault = Err fault

same_ok : (is js : List Instr) → ok_of is ≡ ok_of js → is ≡ js
same_ok is js e = cc e

same_err : (e f : CodeError) → err_of e ≡ err_of f → e ≡ f
same_err e f h = cc h

err_ok : (fault : CodeError) (is : List Instr) → err_of fault ≡ ok_of is → ⊥
err_ok fault is e = cc e

abbrev read_err : CodeError → Read Instr
read_err fault = Err fault

-- the same fault of another reader
found_err : (e f : CodeError) → err_of e ≡ err_of f → read_err e ≡ read_err f
found_err e f h = ap read_err (same_err e f h)

-- ---- one instruction

abbrev behind : ℕ → Instr → List ℕ → Result (List Instr) CodeError
behind most i rest = instructions_from most (end_of i) rest >>= λ others. Ok (i ∷ others)

one_more : (most at : ℕ) (text : List ℕ) (i : Instr) (rest : List ℕ) → 0 < length text → read_instruction at text ≡ Ok (i, rest)
    → instructions_from (suc most) at text ≡ behind most i rest
one_more most at [] i rest some e = absurd (omega arith)
one_more most at (byte ∷ bytes) i rest some e = ap (λ r. r >>= λ first. instructions_from most (end_of first.0) first.1 >>= λ others. Ok (first.0 ∷ others)) e

one_fault : (most at : ℕ) (text : List ℕ) (fault : CodeError) → 0 < length text → read_instruction at text ≡ Err fault
    → instructions_from (suc most) at text ≡ Err fault
one_fault most at [] fault some e = absurd (omega arith)
one_fault most at (byte ∷ bytes) fault some e = ap (λ r. r >>= λ first. instructions_from most (end_of first.0) first.1 >>= λ others. Ok (first.0 ∷ others)) e

-- what is left behind an instruction are the bytes from its end on
left_behind : (bytes : List ℕ) (at : ℕ) (i : Instr) (rest : List ℕ) → read_instruction at (drop at bytes) ≡ Ok (i, rest) → rest ≡ drop (end_of i) bytes
left_behind bytes at i rest e =
    let t = (instruction_is_read at).takes (length bytes) (drop at bytes) i rest tt e in
    let ends = rest-instruction_at bytes at i rest e in
    let within = instruction_at_within bytes at i (instruction_at-read bytes at i rest e) in
    let parts = ap length t.parts in
    let long : at + length t.front ≡ end_of i = omega (arith, length-drop at bytes, length-append t.front rest) in
    sym (drop_at t.front rest (length t.front) refl) ∙ ap (drop (length t.front)) (sym t.parts)
    ∙ drop-drop (length t.front) at bytes ∙ ap (λ n. drop n bytes) long

-- the instruction that stands at an offset is the first of those from there on
pub stands_first : (bytes : List ℕ) (most at : ℕ) (i : Instr) → instruction_at bytes at ≡ Some i
    → instructions_from (suc most) at (drop at bytes) ≡ behind most i (drop (end_of i) bytes)
stands_first bytes most at i e =
    let read = read-instruction_at bytes at i e in
    let within = instruction_at_within bytes at i e in
    one_more most at (drop at bytes) i read.0 (omega (arith, length-drop at bytes)) read.1
    ∙ ap (behind most i) (left_behind bytes at i read.0 read.1)

-- it ends further on
ends_later : (bytes : List ℕ) (at : ℕ) (i : Instr) → instruction_at bytes at ≡ Some i → at < end_of i
ends_later bytes at i e = let here = at-instruction_at bytes at i e in let some = size_at-some i.at i in omega arith

-- ---- a reading

read_from : (bytes : List ℕ) (most at : ℕ) (is : List Instr) → length bytes ≤ at + most → Reads bytes at is → instructions_from most at (drop at bytes) ≡ Ok is
read_from bytes zero at [] enough reads = refl
read_from bytes zero at (i ∷ is) enough reads = let within = instruction_at_within bytes at i reads.0 in absurd (omega arith)
read_from bytes (suc most) at [] enough reads = ap (instructions_from (suc most) at) (drop_all at bytes (omega (arith, reads)))
read_from bytes (suc most) at (i ∷ is) enough reads =
    let later = ends_later bytes at i reads.0 in
    stands_first bytes most at i reads.0
    ∙ ap (λ r. r >>= λ others. Ok (i ∷ others)) (read_from bytes most (end_of i) is (omega arith) reads.1)

pub reading_is_read : (bytes : List ℕ) (code : Code) → IsReading bytes code → instructions_of bytes ≡ Ok code.instrs
unfolding instructions_of
reading_is_read bytes code r = read_from bytes (length bytes) 0 code.instrs (omega arith) r.instrs

-- ---- a fault

stops_from : (bytes : List ℕ) (most at : ℕ) (before : List Instr) (stop : ℕ) (fault : CodeError) → length bytes ≤ at + most → ReadsTo bytes at before stop
    → stop < length bytes → read_instruction stop (drop stop bytes) ≡ Err fault → instructions_from most at (drop at bytes) ≡ Err fault
stops_from bytes zero at [] stop fault enough reads more e = absurd (omega (arith, reads))
stops_from bytes zero at (i ∷ is) stop fault enough reads more e = let within = instruction_at_within bytes at i reads.0 in absurd (omega arith)
stops_from bytes (suc most) at [] stop fault enough reads more e =
    one_fault most at (drop at bytes) fault (omega (arith, reads, length-drop at bytes)) (ap (λ n. read_instruction n (drop n bytes)) reads ∙ e)
stops_from bytes (suc most) at (i ∷ is) stop fault enough reads more e =
    let later = ends_later bytes at i reads.0 in
    stands_first bytes most at i reads.0
    ∙ ap (λ r. r >>= λ others. Ok (i ∷ others)) (stops_from bytes most (end_of i) is stop fault (omega arith) reads.1 more e)

pub fault_is_read : (bytes : List ℕ) (fault : CodeError) → IsFirstFault bytes fault → instructions_of bytes ≡ Err fault
unfolding instructions_of
fault_is_read bytes fault f =
    stops_from bytes (length bytes) 0 f.before f.at fault (omega arith) f.reads f.more ((instruction_is_read f.at).stops (length bytes) (drop f.at bytes) fault f.faults)

-- ---- what a call answers

pub answers : (bytes : List ℕ) (result : Result Code CodeError) → IfOk result (λ code. IsReading bytes code) → IfErr result (IsToldFault bytes)
    → Gives (λ (code : Code). code.instrs) result (instructions_of bytes)
answers bytes (Ok code) found refused = reading_is_read bytes code found
answers bytes (Err fault) found refused = λ told. fault_is_read bytes fault (refused told)

all_within : (bytes : List ℕ) (is : List Instr) → ArePlaced bytes is → AreWithin (length bytes) is
all_within bytes [] placed = tt
all_within bytes (i ∷ is) placed = (instruction_at_within bytes i.at i placed.0, all_within bytes is placed.1)

pub answers_within : (bytes : List ℕ) (result : Result Code CodeError) → IfOk result (λ code. IsReading bytes code) → IfOk result (λ code. ArePlaced bytes code.instrs)
    → IfOk result (λ code. AreWithin code.len code.instrs)
answers_within bytes (Ok code) found placed = subst (λ n. AreWithin n code.instrs) (sym found.len) (all_within bytes code.instrs placed)
answers_within bytes (Err fault) found placed = tt

-- ---- the other way: what is found is a reading

read_on : (bytes : List ℕ) (at most : ℕ) (i : Instr) (is : List Instr) (tail : Result (List Instr) CodeError) → instruction_at bytes at ≡ Some i
    → ((others : List Instr) → tail ≡ Ok others → Reads bytes (end_of i) others) → (tail >>= λ others. Ok (i ∷ others)) ≡ Ok is → Reads bytes at is
read_on bytes at most i is (Ok others) here later e = subst (Reads bytes at) (same_ok (i ∷ others) is e) (here, later others refl)
read_on bytes at most i is (Err fault) here later e = absurd cc

found_from : (bytes : List ℕ) (most at : ℕ) (is : List Instr) → at ≤ length bytes → length bytes ≤ at + most
    → instructions_from most at (drop at bytes) ≡ Ok is → Reads bytes at is
found_from bytes zero at is within enough e = subst (Reads bytes at) (same_ok [] is e) (omega arith)
found_from bytes (suc most) at is within enough e =
    elim (cases_lt at (length bytes)) [
      | inl more ↦ by_case more (read_instruction at (drop at bytes)) refl (λ i here. found_from bytes most (end_of i))
      | inr past ↦ subst (Reads bytes at) (same_ok [] is (ap (instructions_from (suc most) at) (sym (drop_all at bytes past)) ∙ e)) (omega arith)
    ]
  where
    by_case : at < length bytes → (read : Read Instr) → read_instruction at (drop at bytes) ≡ read
        → ((i : Instr) → instruction_at bytes at ≡ Some i → (others : List Instr) → end_of i ≤ length bytes → length bytes ≤ end_of i + most
        → instructions_from most (end_of i) (drop (end_of i) bytes) ≡ Ok others → Reads bytes (end_of i) others)
        → Reads bytes at is
    by_case more (Ok read) is_read later =
        let here = instruction_at-read bytes at read.0 read.1 is_read in
        let ends = end_of-within bytes at read.0 here in
        let further = ends_later bytes at read.0 here in
        read_on bytes at most read.0 is (instructions_from most (end_of read.0) (drop (end_of read.0) bytes)) here
        (λ others found. later read.0 here others ends (omega arith) found) (sym (stands_first bytes most at read.0 here) ∙ e)
    by_case more (Err fault) is_read later =
        absurd (err_ok fault is (sym (one_fault most at (drop at bytes) fault (omega (arith, length-drop at bytes)) is_read) ∙ e))

pub reading_found : (bytes : List ℕ) (is : List Instr) → instructions_of bytes ≡ Ok is → IsReading bytes (record { instrs = is; len = length bytes })
unfolding instructions_of
reading_found bytes is e = record { instrs = found_from bytes (length bytes) 0 is (omega arith) (omega arith) e; len = refl }

-- ---- and a fault is the first

-- Instructions stand from this offset on up to another, and there stands what has this fault.
record Stops (bytes : List ℕ) (at : ℕ) (fault : CodeError) : Type 0 where
  pub before : List Instr
  pub stop : ℕ
  pub reads : ReadsTo bytes at before stop
  pub more : stop < length bytes
  pub read : read_instruction stop (drop stop bytes) ≡ Err fault

stop_on : (bytes : List ℕ) (at : ℕ) (i : Instr) (fault : CodeError) (tail : Result (List Instr) CodeError) → instruction_at bytes at ≡ Some i
    → (tail ≡ Err fault → Stops bytes (end_of i) fault) → (tail >>= λ others. Ok (i ∷ others)) ≡ Err fault → Stops bytes at fault
stop_on bytes at i fault (Ok others) here later e = absurd (err_ok fault (i ∷ others) (sym e))
stop_on bytes at i fault (Err f) here later e =
    let s = later e in
    record { before = i ∷ s.before; stop = s.stop; reads = (here, s.reads); more = s.more; read = s.read }

stops_at : (bytes : List ℕ) (most at : ℕ) (fault : CodeError) → length bytes ≤ at + most
    → instructions_from most at (drop at bytes) ≡ Err fault → Stops bytes at fault
stops_at bytes zero at fault enough e = absurd (err_ok fault [] (sym e))
stops_at bytes (suc most) at fault enough e =
    elim (cases_lt at (length bytes)) [
      | inl more ↦ by_case more (read_instruction at (drop at bytes)) refl (λ i. stops_at bytes most (end_of i) fault)
      | inr past ↦ absurd (err_ok fault [] (sym (ap (instructions_from (suc most) at) (sym (drop_all at bytes past)) ∙ e)))
    ]
  where
    by_case : at < length bytes → (read : Read Instr) → read_instruction at (drop at bytes) ≡ read
        → ((i : Instr) → length bytes ≤ end_of i + most → instructions_from most (end_of i) (drop (end_of i) bytes) ≡ Err fault → Stops bytes (end_of i) fault)
        → Stops bytes at fault
    by_case more (Ok read) is_read later =
        let here = instruction_at-read bytes at read.0 read.1 is_read in
        let further = ends_later bytes at read.0 here in
        stop_on bytes at read.0 fault (instructions_from most (end_of read.0) (drop (end_of read.0) bytes)) here
        (λ found. later read.0 (omega arith) found) (sym (stands_first bytes most at read.0 here) ∙ e)
    by_case more (Err f) is_read later =
        let found = sym (one_fault most at (drop at bytes) f (omega (arith, length-drop at bytes)) is_read) ∙ e in
        record { before = []; stop = at; reads = refl; more = more; read = is_read ∙ found_err f fault found }

pub fault_found : (bytes : List ℕ) (fault : CodeError) → instructions_of bytes ≡ Err fault → IsFirstFault bytes fault
unfolding instructions_of
fault_found bytes fault e =
    let s = stops_at bytes (length bytes) 0 fault (omega arith) e in
    record { before = s.before; at = s.stop; reads = s.reads; more = s.more; faults = (instruction_is_read s.stop).faults (length bytes) (drop s.stop bytes) fault tt s.read }
