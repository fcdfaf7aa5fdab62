-- What is accepted and without a fault: the ending at the budget, of the one program.
use Rattle.std.proofs.Common.{◌≡◌, ℕ, ◌+◌, ◌<◌, ◌≤◌, List, Option, sym, ap, ◌∙◌, arith, inl, inr}
use Rattle.std.specs.Prelude.{min, Result, Ok}
use Rattle.byte_streams.specs.Streams.{Rose, greatest}
use Rattle.jvm_model.specs.declared.program.Program.{Program}
use Rattle.jvm_model.specs.declared.state.State.{State}
use Rattle.code_admission.specs.declared.error.AdmitError.{AdmitError}
use Rattle.jvm_model.specs.Codes.Originals.{original}
use Rattle.jvm_model.specs.Running.Run.{ending_of}
use Rattle.jvm_model.proofs.Running.Growth.{run-stays}
use Rattle.profile_session.specs.Sessions.{Profiling, world_of}
use Rattle.jfluid_cli.specs.Runs.{ending_at, IsCarriedOut, world_on}
use Rattle.jfluid_cli.specs.Top.{IsWithoutFault}

-- a count without a fault did not rise
pub without_fault_not_rose : (old new : ℕ) → IsWithoutFault old new → Rose old new → ⊥
without_fault_not_rose old new without_fault rose =
    let same : new ≡ old = without_fault.same in
    let low : new < greatest = without_fault.low in
    let above : min (old + 1) greatest ≤ new = rose in
    absurd (omega arith)

-- the run has the same ending at the budget
pub ends_as : (v : Profiling) (budget : ℕ) (old new : Option (List ℕ)) → IsCarriedOut v budget old new
    → ending_at v v.clock ≡ ending_at v budget
ends_as v budget old new carried =
    elim carried.stop [
      | inl (at, on) ↦ ap (ending_at v) at
      | inr ended ↦ ap (λ (s : State). s.ending)
          (sym (run-stays (world_of v)
          (original v.program) v.clock budget carried.within ended.ended))
    ]

-- ---- the program

same_program : (x y : Program) → (let r : Result Program AdmitError = Ok x in r ≡ Ok y) → x ≡ y
same_program x y e = cc e

-- an answer has one program
pub one-program : (answer : Result Program AdmitError) (p q : Program) → answer ≡ Ok p → answer ≡ Ok q → p ≡ q
one-program answer p q left right = same_program p q (sym left ∙ right)

pub ending_of_same : (p q : Program) (x y : List ℕ) (budget : ℕ) → p ≡ q → x ≡ y
    → ending_of (world_on p x) budget ≡ ending_of (world_on q y) budget
ending_of_same p q x y budget e f =
    ap (λ (r : Program). ending_of (world_on r x) budget) e
    ∙ ap (λ (i : List ℕ). ending_of (world_on q i) budget) f
