-- The instructions that a decoder has read so far.
use Rattle.std.proofs.Common.{◌≡◌, ◌≢◌, ℕ, ◌+◌, ◌<◌, ◌≤◌, List, [], ◌∷◌, ◌++◌, length, drop, Some, None, Ok, Err, Result, refl, sym, subst, ap, ◌∙◌, arith}
use Rattle.std.proofs.lemmas.Option.{same_Some, none-some}
use Rattle.code_model.specs.declared.error.CodeError.{CodeError}
use Rattle.code_model.specs.declared.error.CodeError.TheVariants.{BadOpcode, Cut, BadSwitch, NoMemory}
use Rattle.code_model.specs.declared.instr.Instr.{Instr}
use Rattle.code_model.specs.declared.instr.Code.{Code}
use Rattle.code_model.specs.Reading.{Read, read_instruction}
use Rattle.code_model.specs.Instructions.{instruction_at, end_of, Reads, IsReading, ReadsTo, IsFirstFault, IsDecodedAs, IsRefusedAs}
use Rattle.code_model.proofs.Reading.Readings.{instruction_at_within, instruction_at-read, instruction_at-fault, rest-instruction_at}
use Rattle.code_model.proofs.Reading.OperandLaws.{instruction_is_read}

-- ---- up to an offset

ReadsTo-more : (bytes : List ℕ) (start at : ℕ) (front : List Instr) (i : Instr) → ReadsTo bytes start front at → instruction_at bytes at ≡ Some i → ReadsTo bytes start (front ++ i ∷ []) (end_of i)
ReadsTo-more bytes start at [] i reads here = (ap (instruction_at bytes) reads ∙ here, refl)
ReadsTo-more bytes start at (j ∷ front) i reads here = (reads.0, ReadsTo-more bytes (end_of j) at front i reads.1 here)

Reads-whole : (bytes : List ℕ) (start at : ℕ) (front : List Instr) → ReadsTo bytes start front at → at ≡ length bytes → Reads bytes start front
Reads-whole bytes start at [] reads ends = reads ∙ ends
Reads-whole bytes start at (i ∷ front) reads ends = (reads.0, Reads-whole bytes (end_of i) at front reads.1 ends)

-- where two ways of reading end, neither of which goes on, they end alike
same_stop : (bytes : List ℕ) (start a b : ℕ) (is js : List Instr) → ReadsTo bytes start is a → ReadsTo bytes start js b → instruction_at bytes a ≡ None → instruction_at bytes b ≡ None → a ≡ b
same_stop bytes start a b [] [] p q none_a none_b = sym p ∙ q
same_stop bytes start a b [] (j ∷ js) p q none_a none_b = absurd (none-some j (sym none_a ∙ (ap (instruction_at bytes) (sym p) ∙ q.0)))
same_stop bytes start a b (i ∷ is) [] p q none_a none_b = absurd (none-some i (sym none_b ∙ (ap (instruction_at bytes) (sym q) ∙ p.0)))
same_stop bytes start a b (i ∷ is) (j ∷ js) p q none_a none_b =
    let same : j ≡ i = same_Some j i (sym q.0 ∙ p.0) in
    same_stop bytes (end_of i) a b is js p.1 (subst (λ (k : Instr). ReadsTo bytes (end_of k) js b) same q.1) none_a none_b

-- a whole reading does not stop before the end
no_stop : (bytes : List ℕ) (start at : ℕ) (is js : List Instr) → Reads bytes start is → ReadsTo bytes start js at → at < length bytes → instruction_at bytes at ≡ None → ⊥
no_stop bytes start at [] [] whole p within none = omega arith
no_stop bytes start at [] (j ∷ js) whole p within none = let inside = instruction_at_within bytes start j p.0 in omega arith
no_stop bytes start at (i ∷ is) [] whole p within none = none-some i (sym none ∙ (ap (instruction_at bytes) (sym p) ∙ whole.0))
no_stop bytes start at (i ∷ is) (j ∷ js) whole p within none =
    let same : j ≡ i = same_Some j i (sym p.0 ∙ whole.0) in
    no_stop bytes (end_of i) at is js whole.1 (subst (λ (k : Instr). ReadsTo bytes (end_of k) js at) same p.1) within none

-- ---- the decoder

pub record IsFront (bytes : List ℕ) (at : ℕ) (front : List Instr) : Type 0 where
  pub reads : ReadsTo bytes 0 front at
  pub within : at ≤ length bytes

-- one more instruction
pub goes_on : (bytes : List ℕ) (at : ℕ) (front : List Instr) (i : Instr) (rest : List ℕ) (next : ℕ) → IsFront bytes at front → read_instruction at (drop at bytes) ≡ Ok (i, rest)
    → next + length rest ≡ length bytes → IsFront bytes next (front ++ i ∷ [])
goes_on bytes at front i rest next so_far read behind =
    let ends = rest-instruction_at bytes at i rest read in
    let here = instruction_at-read bytes at i rest read in
    let same : end_of i ≡ next = omega arith in
    record { reads = subst (ReadsTo bytes 0 (front ++ i ∷ [])) same (ReadsTo-more bytes 0 at front i so_far.reads here); within = omega arith }

-- a front that ends where the bytes do
pub is_whole : (bytes : List ℕ) (at : ℕ) (front : List Instr) → IsFront bytes at front → length bytes ≤ at → IsReading bytes (record { instrs = front; len = length bytes })
is_whole bytes at front so_far le =
    let ended : at ≡ length bytes = omega (arith, so_far.within) in
    record { instrs = Reads-whole bytes 0 at front so_far.reads ended; len = refl }

-- bytes behind a front that are no instruction
pub refused : (bytes : List ℕ) (at : ℕ) (front : List Instr) (fault : CodeError) → IsFront bytes at front → at < length bytes → read_instruction at (drop at bytes) ≡ Err fault → IsFirstFault bytes fault
refused bytes at front fault so_far more read =
    record { before = front; at = at; reads = so_far.reads; more = more; faults = (instruction_is_read at).faults (length bytes) (drop at bytes) fault tt read }

-- the fault of bytes is read where it stands
fault_read : (bytes : List ℕ) (fault : CodeError) (f : IsFirstFault bytes fault) → read_instruction f.at (drop f.at bytes) ≡ Err fault
fault_read bytes fault f = (instruction_is_read f.at).stops (length bytes) (drop f.at bytes) fault f.faults

pub no_code : (bytes : List ℕ) (fault : CodeError) → IsFirstFault bytes fault → (code : Code) → IsReading bytes code → ⊥
no_code bytes fault f code reads =
    no_stop bytes 0 f.at code.instrs f.before reads.instrs f.reads f.more (instruction_at-fault bytes f.at fault (fault_read bytes fault f))

-- there is one first fault
pub one_fault : (bytes : List ℕ) (e f : CodeError) → IsFirstFault bytes e → IsFirstFault bytes f → e ≡ f
one_fault bytes e f p q =
    let at_p = fault_read bytes e p in
    let at_q = fault_read bytes f q in
    let same : p.at ≡ q.at = same_stop bytes 0 p.at q.at p.before q.before p.reads q.reads (instruction_at-fault bytes p.at e at_p) (instruction_at-fault bytes q.at f at_q) in
    same_err (sym at_p ∙ (ap (λ n. read_instruction n (drop n bytes)) same ∙ at_q))
  where
    err : CodeError → Read Instr
    err x = Err x

    same_err : err e ≡ err f → e ≡ f
    same_err h = cc

-- ---- answers

abbrev pub err_of : CodeError → Result Code CodeError
err_of e = Err e

pub refused_as : (e fault : CodeError) → (e ≢ NoMemory → e ≡ fault) → IsRefusedAs (err_of e) fault
refused_as NoMemory fault same = tt
refused_as (BadOpcode at) fault same = same (λ h. cc)
refused_as (Cut at) fault same = same (λ h. cc)
refused_as (BadSwitch at) fault same = same (λ h. cc)

pub decoded_as : (e : CodeError) (code : Code) → (e ≢ NoMemory → ⊥) → IsDecodedAs (err_of e) code
decoded_as NoMemory code never = tt
decoded_as (BadOpcode at) code never = never (λ h. cc)
decoded_as (Cut at) code never = never (λ h. cc)
decoded_as (BadSwitch at) code never = never (λ h. cc)
