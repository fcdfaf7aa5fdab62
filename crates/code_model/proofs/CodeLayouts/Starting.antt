-- Targets that a test found to be starts of instructions.
use Rattle.std.proofs.Common.{◌≡◌, ℕ, Bool, true, false, List, [], ◌∷◌, refl, sym, ap, ◌∙◌, ◌||◌, eqb-true}
use Rattle.std.specs.Prelude.{◌==◌}
use Rattle.std.specs.List.{AllByRecursion, list_any, list_all}
use Rattle.std.proofs.lemmas.Bool.{and_parts}
use Rattle.code_model.specs.declared.instr.Instr.{Instr}
use Rattle.code_model.specs.declared.instr.Code.{Code}
use Rattle.code_model.specs.Instructions.{instruction_at, end_of, Reads, IsReading}
use Rattle.code_model.specs.Groups.{targets_of, IsStartIn}
use Rattle.code_model.proofs.Reading.Readings.{at-instruction_at}

abbrev begins : List Instr → ℕ → Bool
begins is t = list_any (λ (i : Instr). i.at == t) is

start_in : (bytes : List ℕ) (start : ℕ) (is : List Instr) (t : ℕ) → Reads bytes start is → begins is t ≡ true → IsStartIn bytes t
start_in bytes start [] t reads e = absurd cc
start_in bytes start (i ∷ is) t reads e = by_case (i.at == t) refl e (λ later. start_in bytes (end_of i) is t reads.1 later)
  where
    by_case : (b : Bool) → (i.at == t) ≡ b → (b || begins is t) ≡ true → (begins is t ≡ true → IsStartIn bytes t) → IsStartIn bytes t
    by_case true here e later = (i, ap (instruction_at bytes) (sym (sym (at-instruction_at bytes start i reads.0) ∙ eqb-true i.at t here)) ∙ reads.0)
    by_case false other e later = later e

starts_in : (bytes : List ℕ) (is : List Instr) (ts : List ℕ) → Reads bytes 0 is → list_all (begins is) ts ≡ true → AllByRecursion (IsStartIn bytes) ts
starts_in bytes is [] reads e = tt
starts_in bytes is (t ∷ ts) reads e = let both = and_parts (begins is t) (list_all (begins is) ts) e in (start_in bytes 0 is t reads both.0, starts_in bytes is ts reads both.1)

all_in : (bytes : List ℕ) (is js : List Instr) → Reads bytes 0 is → list_all (λ (j : Instr). list_all (begins is) (targets_of j.arg)) js ≡ true → AllByRecursion (λ (j : Instr). AllByRecursion (IsStartIn bytes) (targets_of j.arg)) js
all_in bytes is [] reads e = tt
all_in bytes is (j ∷ js) reads e =
    let both = and_parts (list_all (begins is) (targets_of j.arg)) (list_all (λ (k : Instr). list_all (begins is) (targets_of k.arg)) js) e in
    (starts_in bytes is (targets_of j.arg) reads both.0, all_in bytes is js reads both.1)

pub targeted : (bytes : List ℕ) (code : Code) → IsReading bytes code → list_all (λ (j : Instr). list_all (λ t. list_any (λ (i : Instr). i.at == t) code.instrs) (targets_of j.arg)) code.instrs ≡ true
    → AllByRecursion (λ (j : Instr). AllByRecursion (IsStartIn bytes) (targets_of j.arg)) code.instrs
targeted bytes code reads e = all_in bytes code.instrs code.instrs reads.instrs e
