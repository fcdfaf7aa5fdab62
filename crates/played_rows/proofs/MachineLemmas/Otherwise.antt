-- What is told of a line that has not come, from what is told of its parts.
use Rattle.std.proofs.Common.{◌≡◌, ◌≢◌, ℕ, true, List, length, Option, Some, None, Result, Ok, Err, IfOk, sym, subst, ◌∙◌}
use Rattle.std.specs.Option.{IfSome}
use Rattle.class_shape.specs.declared.error.SwapError.{SwapError}
use Rattle.class_shape.specs.declared.error.SwapError.TheVariants.{NoMemory}
use Rattle.jvm_machine.specs.declared.turn.Turn.{Turn}
use Rattle.jvm_machine.specs.Several.{RunsOn}
use Rattle.jvm_machine.specs.Turns.{Turns}
use Rattle.jvm_machine.specs.View.{View, is_resting, run_state}
use Rattle.jvm_model.specs.declared.ending.Ending.{Ending}
use Rattle.hotswap.specs.Redefining.{IsRefused}
use Rattle.played_rows.specs.declared.machine.line.Line.{Line}
use Rattle.played_rows.specs.declared.machine.line.Line.TheVariants as line
use Rattle.played_rows.specs.declared.machine.turns.Difference.{Difference}
use Rattle.played_rows.specs.declared.machine.turns.Difference.TheVariants as difference
use Rattle.played_rows.specs.Machine.Played.{IsOtherwise}

abbrev pub IfTold : {E : Type 0} → Result (Option Difference) E → View → Line → Type 0
IfTold told old l = IfOk told (λ found. IfSome found (IsOtherwise old l))

pub of-line : {E : Type 0} (told : Result (Option Difference) E) (old : View) (l said : Line) → l ≡ said → IfTold told old said → IfTold told old l
of-line told old l said e h = subst (IfTold told old) (sym e) h

-- ---- a turn

pub turned-else : {E : Type 0} (told : Result (Option Difference) E) (old new : View) (wanted came : Turn) (clock now : ℕ) → Turns old came new → now ≡ new.clock
    → IfOk told (λ found. IfSome found (λ d. (d ≡ difference.Turned came now) × (came ≡ wanted → now ≢ clock)))
    → IfTold told old (line.Turned wanted clock)
turned-else (Err e) old new wanted came clock now turns is other = tt
turned-else (Ok None) old new wanted came clock now turns is other = tt
turned-else (Ok (Some d)) old new wanted came clock now turns is other =
    subst (IsOtherwise old (line.Turned wanted clock)) (sym other.0)
    (IsOtherwise.turned wanted came clock now (record { new = new; turned = record { turns = turns; clock_is = sym is }; other = other.1 }))

pub ran-else : {E : Type 0} (told : Result (Option Difference) E) (old new : View) (most : ℕ) (wanted came : Turn) (clock now : ℕ) → RunsOn old most came new
    → now ≡ new.clock → IfOk told (λ found. IfSome found (λ d. (d ≡ difference.Turned came now) × (came ≡ wanted → now ≢ clock)))
    → IfTold told old (line.Ran most wanted clock)
ran-else (Err e) old new most wanted came clock now runs is other = tt
ran-else (Ok None) old new most wanted came clock now runs is other = tt
ran-else (Ok (Some d)) old new most wanted came clock now runs is other =
    subst (IsOtherwise old (line.Ran most wanted clock)) (sym other.0)
    (IsOtherwise.ran most wanted came clock now (record { new = new; ran = record { runs = runs; clock_is = sym is }; other = other.1 }))

-- ---- a refusal

pub refused-else : {E : Type 0} (told : Result (Option Difference) E) (old : View) (class : ℕ) (bytes : List ℕ) (wanted came : SwapError)
    → (came ≢ NoMemory → IsRefused old.program class bytes came)
    → IfOk told (λ found. IfSome found (λ d. (d ≡ difference.Redefined (Some came)) × (came ≢ wanted) × (came ≢ NoMemory)))
    → IfTold told old (line.Refused class bytes wanted)
refused-else (Err e) old class bytes wanted came refused other = tt
refused-else (Ok None) old class bytes wanted came refused other = tt
refused-else (Ok (Some d)) old class bytes wanted came refused other =
    subst (IsOtherwise old (line.Refused class bytes wanted)) (sym other.0)
    (IsOtherwise.refused class bytes wanted came (refused other.2) other.1)

-- ---- what is asked of the machine

pub ended-else : (told : Option Difference) (old : View) (wanted : Ending) (came : Option Ending) → (is_resting old ≡ true → (run_state old).ending ≡ came)
    → IfSome told (λ d. (d ≡ difference.Ended came) × (came ≢ Some wanted)) → IfSome told (IsOtherwise old (line.Ended wanted))
ended-else None old wanted came holds other = tt
ended-else (Some d) old wanted came holds other =
    subst (IsOtherwise old (line.Ended wanted)) (sym other.0) (IsOtherwise.ended wanted came holds other.1)

pub printed-else : (told : Option Difference) (old : View) (wanted same came : List ℕ) → same ≡ wanted → (is_resting old ≡ true → came ≡ (run_state old).output)
    → IfSome told (λ d. (d ≡ difference.Printed) × (came ≢ same)) → IfSome told (IsOtherwise old (line.Printed wanted))
printed-else None old wanted same came is holds other = tt
printed-else (Some d) old wanted same came is holds other =
    subst (IsOtherwise old (line.Printed wanted)) (sym other.0)
    (IsOtherwise.printed wanted (λ rests e. other.1 (holds rests ∙ (e ∙ sym is))))

pub lives-else : (told : Option Difference) (old : View) (wanted came : ℕ) → came ≡ length old.live
    → IfSome told (λ d. (d ≡ difference.Lives came) × (came ≢ wanted)) → IfSome told (IsOtherwise old (line.Lives wanted))
lives-else None old wanted came is other = tt
lives-else (Some d) old wanted came is other =
    subst (IsOtherwise old (line.Lives wanted)) (sym other.0) (IsOtherwise.lives wanted came (sym is) other.1)
