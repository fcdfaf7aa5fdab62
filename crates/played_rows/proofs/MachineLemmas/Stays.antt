-- A machine that was just made is ready for a turn, and one that has told a turn for the next one.
use Rattle.std.proofs.Common.{◌≡◌, ◌≢◌, ℕ, Bool, true, false, refl, ap, ◌∙◌, subst, sym}
use Rattle.std.specs.Prelude.{◌&&◌, if◌then◌else◌}
use Rattle.jvm_machine.specs.declared.turn.Turn.{Turn}
use Rattle.jvm_machine.specs.declared.turn.Turn.TheVariants.{Settled, Loaded, Probe, Ended, Broken, NoMemory}
use Rattle.jvm_machine.specs.Several.{Passes, RunsOn}
use Rattle.jvm_machine.specs.Turns.{Turns}
use Rattle.jvm_machine.specs.View.{View, clock_advanced, step_begun, has_ended, is_resting, step_rested}
use Rattle.std.proofs.Common.{List}
use Rattle.jvm_model.specs.declared.event.Mark.{Mark}
use Rattle.jvm_machine.specs.Installs.{with_class}
use Rattle.program_fit.specs.Runnable.{IsAdmitted}
use Rattle.played_rows.specs.Machine.Ready.{IsFresh, IsReady}

pub fresh-ready : (v : View) → IsFresh v → IsReady v
fresh-ready v f = subst IsReady (sym f.made) (record { whole = refl; admitted = f.admitted })

-- its program stays, and it has found memory as before
record Stays (old new : View) : Type 0 where
  program : new.program ≡ old.program
  broken : new.broken ≡ old.broken

ready : (old new : View) → IsReady old → Stays old new → IsReady new
ready old new r s = record { whole = s.broken ∙ r.whole; admitted = subst IsAdmitted (sym s.program) r.admitted }

begun-stays : (v : View) → Stays v (step_begun v)
begun-stays v = by (is_resting v) where
  by : (b : Bool) → Stays v (if b then clock_advanced v else v)
  by true = record { program = refl; broken = refl }
  by false = record { program = refl; broken = refl }

-- what is made of the step that was begun
behind : (old new mid : View) → new ≡ mid → Stays (step_begun old) mid → Stays old new
behind old new mid e s = record {
  program = ap (λ v. v.program) e ∙ (s.program ∙ (begun-stays old).program);
  broken = ap (λ v. v.broken) e ∙ (s.broken ∙ (begun-stays old).broken);
}

last : (old : View) (b : Bool) → Stays old (if b then old else step_rested (step_begun old))
last old true = record { program = refl; broken = refl }
last old false = record { program = (begun-stays old).program; broken = (begun-stays old).broken }

pub turn-ready : (old new : View) (turn : Turn) → IsReady old → Turns old turn new → turn ≢ NoMemory → IsReady new
turn-ready old new Settled r t known = ready old new r (behind old new _ t.stepped (record { program = refl; broken = refl }))
turn-ready old new (Probe event) r t known = ready old new r (behind old new _ t.stepped (record { program = refl; broken = refl }))
turn-ready old new (Loaded classes) r t known = ready old new r (behind old new _ t.stepped (record { program = refl; broken = refl }))
turn-ready old new Ended r t known =
    let s = last old (is_resting old && has_ended old) in
    ready old new r (record { program = ap (λ v. v.program) t.stepped ∙ s.program; broken = ap (λ v. v.broken) t.stepped ∙ s.broken })
turn-ready old new Broken r t known = absurd (let e : true ≡ false = sym t.broken ∙ r.whole in cc)
turn-ready old new NoMemory r t known = absurd (known refl)

passes-ready : (old : View) (n : ℕ) (new : View) → IsReady old → Passes old n new → IsReady new
passes-ready old _ _ r Passes.none = r
passes-ready old _ _ r (Passes.more m mid new p s) = turn-ready mid new Settled (passes-ready old m mid r p) s (λ e. absurd cc)

pub run-ready : (old new : View) (most : ℕ) (turn : Turn) → IsReady old → RunsOn old most turn new → turn ≢ NoMemory → IsReady new
run-ready old new most turn r runs known = turn-ready runs.between new turn (passes-ready old runs.steps runs.between r runs.passes) runs.last known

-- an install changes marks alone
pub installed-ready : (old new : View) (class : ℕ) (marks : List Mark) → IsReady old → new ≡ with_class class marks old → IsReady new
installed-ready old new class marks r e = ready old new r (record { program = ap (λ v. v.program) e; broken = ap (λ v. v.broken) e })

pub same-ready : (old new : View) → IsReady old → new ≡ old → IsReady new
same-ready old new r e = subst IsReady (sym e) r
