-- What a reading says of its instructions, and that bytes have no other one.
use Rattle.std.proofs.Common.{◌≡◌, ℕ, ◌+◌, ◌-◌, ◌<◌, ◌≤◌, List, [], ◌∷◌, ◌++◌, length, take, drop, Option, Some, None, Ok, Err, refl, sym, ap, subst, ◌∙◌, inl, inr, arith}
use Rattle.std.specs.List.{AllByRecursion}
use Rattle.std.proofs.lemmas.Bool.{cases_lt}
use Rattle.std.proofs.lemmas.List.{length-append, length-take, take-append-drop, drop_at, drop_all}
use Rattle.std.proofs.lemmas.Option.{same_Some, none-some}
use Rattle.code_model.specs.declared.error.CodeError.{CodeError}
use Rattle.code_model.specs.declared.instr.Instr.{Instr}
use Rattle.code_model.specs.declared.instr.Code.{Code}
use Rattle.code_model.specs.Reading.{Read, read_instruction}
use Rattle.code_model.specs.Instructions.{found_in, instruction_at, StandsAt, end_of, Reads, IsReading}
use Rattle.code_model.proofs.Reading.Items.{one_read}
use Rattle.code_model.proofs.Reading.OperandLaws.{instruction_is_read}
use Rattle.code_model.proofs.Reading.Spelled.{IsInstr, instruction_spelled}
use Rattle.code_model.specs.Layout.{size_at}
use Rattle.code_model.proofs.Reading.Lengths.{size_at-some}

-- ---- what stands at an offset

found_read : {A : Type 0} (read : Read A) (x : A) → found_in read ≡ Some x → (rest : List ℕ) × (read ≡ Ok (x, rest))
found_read (Ok read) x e = let same = same_Some read.0 x e in (read.1, ap (λ y. one_read y read.1) same)
found_read (Err fault) x e = absurd (none-some x e)

-- what was read at an offset
pub read-instruction_at : (bytes : List ℕ) (at : ℕ) (i : Instr) → instruction_at bytes at ≡ Some i → (rest : List ℕ) × (read_instruction at (drop at bytes) ≡ Ok (i, rest))
unfolding instruction_at
read-instruction_at bytes at i e = found_read (read_instruction at (drop at bytes)) i e

pub instruction_at-read : (bytes : List ℕ) (at : ℕ) (i : Instr) (rest : List ℕ) → read_instruction at (drop at bytes) ≡ Ok (i, rest) → instruction_at bytes at ≡ Some i
unfolding instruction_at
instruction_at-read bytes at i rest e = ap found_in e

pub instruction_at-fault : (bytes : List ℕ) (at : ℕ) (fault : CodeError) → read_instruction at (drop at bytes) ≡ Err fault → instruction_at bytes at ≡ None
unfolding instruction_at
instruction_at-fault bytes at fault e = ap found_in e

-- no instruction begins at the end
read_nothing : (at : ℕ) (i : Instr) (rest : List ℕ) → read_instruction at [] ≡ Ok (i, rest) → ⊥
read_nothing at i rest e =
    let t = (instruction_is_read at).takes 0 [] i rest tt e in
    let known = instruction_spelled at t.front i t.spelled in
    let long = known.long in
    let some = size_at-some at i in
    let parts = ap length t.parts in
    omega (arith, length-append t.front rest)

-- no instruction stands past the end
pub instruction_at_within : (bytes : List ℕ) (at : ℕ) (i : Instr) → instruction_at bytes at ≡ Some i → at < length bytes
instruction_at_within bytes at i e =
    let r = read-instruction_at bytes at i e in
    elim (cases_lt at (length bytes)) [
      | inl within ↦ within
      | inr past ↦ absurd (read_nothing at i r.0 (subst (λ (t : List ℕ). read_instruction at t ≡ Ok (i, r.0)) (drop_all at bytes past) r.1))
    ]

pub stands_from : (bytes : List ℕ) (at : ℕ) (i : Instr) → instruction_at bytes at ≡ Some i → StandsAt bytes at i
stands_from bytes at i e =
    let r = read-instruction_at bytes at i e in
    let t = (instruction_is_read at).takes (length bytes) (drop at bytes) i r.0 tt r.1 in
    let within = instruction_at_within bytes at i e in
    record {
      front = take at bytes;
      text = t.front;
      rest = r.0;
      parts = sym (take-append-drop at bytes) ∙ ap (λ (u : List ℕ). take at bytes ++ u) t.parts;
      place = omega (arith, length-take at bytes);
      spelled = t.spelled;
    }

pub stands_to : (bytes : List ℕ) (at : ℕ) (i : Instr) → StandsAt bytes at i → instruction_at bytes at ≡ Some i
stands_to bytes at i s =
    let behind : drop at bytes ≡ s.text ++ s.rest = ap (drop at) s.parts ∙ drop_at s.front (s.text ++ s.rest) at s.place in
    instruction_at-read bytes at i s.rest (ap (read_instruction at) behind ∙ (instruction_is_read at).again (length bytes) s.text s.rest i s.spelled)

-- an instruction carries the offset at which it stands
pub at-instruction_at : (bytes : List ℕ) (at : ℕ) (i : Instr) → instruction_at bytes at ≡ Some i → i.at ≡ at
at-instruction_at bytes at i e = let s = stands_from bytes at i e in (instruction_spelled at s.text i s.spelled).here

-- what is left behind it
pub rest-instruction_at : (bytes : List ℕ) (at : ℕ) (i : Instr) (rest : List ℕ) → read_instruction at (drop at bytes) ≡ Ok (i, rest) → end_of i + length rest ≡ length bytes
rest-instruction_at bytes at i rest e =
    let t = (instruction_is_read at).takes (length bytes) (drop at bytes) i rest tt e in
    let known = instruction_spelled at t.front i t.spelled in
    let here = known.here in
    let long : length t.front ≡ end_of i - at = subst (λ n. length t.front ≡ end_of i - n) here (known.long ∙ by_size i.at at here) in
    let within = instruction_at_within bytes at i (instruction_at-read bytes at i rest e) in
    let parts = ap length t.parts in
    let start = ap length (take-append-drop at bytes) in
    omega (arith, length-append t.front rest, length-append (take at bytes) (drop at bytes), length-take at bytes)
  where
    by_size : (a b : ℕ) → a ≡ b → size_at b i ≡ a + size_at a i - a
    by_size a b same = subst (λ n. size_at n i ≡ a + size_at a i - a) same (omega arith)

-- an instruction ends before the bytes do
pub end_of-within : (bytes : List ℕ) (at : ℕ) (i : Instr) → instruction_at bytes at ≡ Some i → end_of i ≤ length bytes
end_of-within bytes at i e =
    let r = read-instruction_at bytes at i e in
    let ends = rest-instruction_at bytes at i r.0 r.1 in
    omega arith

-- what is known of it
pub known_at : (bytes : List ℕ) (at : ℕ) (i : Instr) → instruction_at bytes at ≡ Some i → (text : List ℕ) × IsInstr at text i
known_at bytes at i e = let s = stands_from bytes at i e in (s.text, instruction_spelled at s.text i s.spelled)

-- ---- readings

-- two readings of the same bytes from the same offset are the same
pub Reads-unique : (bytes : List ℕ) (at : ℕ) (is js : List Instr) → Reads bytes at is → Reads bytes at js → is ≡ js
Reads-unique bytes at [] [] p q = refl
Reads-unique bytes at [] (j ∷ js) p q = let within = instruction_at_within bytes at j q.0 in absurd (omega arith)
Reads-unique bytes at (i ∷ is) [] p q = let within = instruction_at_within bytes at i p.0 in absurd (omega arith)
Reads-unique bytes at (i ∷ is) (j ∷ js) p q =
    let same : j ≡ i = same_Some j i (sym q.0 ∙ p.0) in
    let rest : is ≡ js = Reads-unique bytes (end_of i) is js p.1 (subst (λ (k : Instr). Reads bytes (end_of k) js) same q.1) in
    ap (λ (k : Instr). k ∷ is) (sym same) ∙ ap (λ (ks : List Instr). j ∷ ks) rest

-- so there is one code at most
pub IsReading-unique : (bytes : List ℕ) (a b : Code) → IsReading bytes a → IsReading bytes b → a ≡ b
IsReading-unique bytes a b p q =
    let instrs = Reads-unique bytes 0 a.instrs b.instrs p.instrs q.instrs in
    let len : a.len ≡ b.len = p.len ∙ sym q.len in
    let made : List Instr → ℕ → Code = λ is n. record { instrs = is; len = n } in
    ap (λ (is : List Instr). made is a.len) instrs ∙ ap (made b.instrs) len

-- each instruction of a reading is the one that stands at its own offset
pub Reads-each : (bytes : List ℕ) (at : ℕ) (is : List Instr) → Reads bytes at is → AllByRecursion (λ i. instruction_at bytes i.at ≡ Some i) is
Reads-each bytes at [] p = tt
Reads-each bytes at (i ∷ is) p = (ap (instruction_at bytes) (at-instruction_at bytes at i p.0) ∙ p.0, Reads-each bytes (end_of i) is p.1)

-- bytes that are not none have an instruction
pub Reads-some : (bytes : List ℕ) (is : List Instr) → 0 < length bytes → Reads bytes 0 is → 0 < length is
Reads-some bytes [] some p = absurd (omega arith)
Reads-some bytes (i ∷ is) some p = omega arith

-- less is left behind it
pub less-instruction_at : (bytes : List ℕ) (at : ℕ) (i : Instr) (rest : List ℕ) → read_instruction at (drop at bytes) ≡ Ok (i, rest) → at + length rest < length bytes
less-instruction_at bytes at i rest e =
    let ends = rest-instruction_at bytes at i rest e in
    let here = at-instruction_at bytes at i (instruction_at-read bytes at i rest e) in
    let some = size_at-some i.at i in
    omega arith

-- nothing stands at the end
pub instruction_at-past : (bytes : List ℕ) (at : ℕ) → length bytes ≤ at → instruction_at bytes at ≡ None
instruction_at-past bytes at past = by_case (instruction_at bytes at) refl
  where
    by_case : (found : Option Instr) → instruction_at bytes at ≡ found → instruction_at bytes at ≡ None
    by_case None e = e
    by_case (Some i) e = let within = instruction_at_within bytes at i e in absurd (omega arith)
