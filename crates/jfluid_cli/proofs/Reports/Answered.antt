-- What a run that was carried out leaves to its answer.
use Rattle.std.proofs.Common.{◌≡◌, ℕ, Bool, List, Option, Some, sym, subst, ◌∙◌, inl, inr}
use Rattle.std.specs.Prelude.{◌⊎◌, Result, Ok, Err, IfOk, IfErr, IsOk, OnOk, MatchResult}
use Rattle.std.proofs.lemmas.Bool.{false≢true}
use Rattle.byte_streams.specs.Streams.{Rose}
use Rattle.profile_session.specs.Answers.{Gathers}
use Rattle.profile_session.specs.Sessions.{Profiling}
use Rattle.jfluid_cli.specs.declared.kept.Kept.{Kept}
use Rattle.jfluid_cli.specs.declared.refusal.Refusal.{Refusal}
use Rattle.jfluid_cli.specs.declared.refusal.Refusal.TheVariants.{OutFailed, NoMemory}
use Rattle.jfluid_cli.specs.declared.running.Stop.{Stop}
use Rattle.jfluid_cli.specs.declared.running.Stop.TheVariants as stop
use Rattle.jfluid_cli.specs.Calls.{IsRun, IsShown}
use Rattle.jfluid_cli.specs.Runs.{IsCarriedOut, IsCutOff, OnOutFailed, StopCause}
use Rattle.jfluid_cli.specs.Sinks.{DevicesView, IsUntold}
use Rattle.jfluid_cli.specs.Stages.{IsStopped}

-- a session whose tree was gathered has come as far
gathered-out : (old new : Profiling) (budget : ℕ) (o n : Option (List ℕ)) → Gathers old new → IsCarriedOut old budget o n
    → IsCarriedOut new budget o n
gathered-out old new budget o n gathers out =
    subst (λ (s : Profiling). IsCarriedOut s budget o n) (sym gathers.same) (record {
      going = record { started = out.going.started; whole = out.going.whole };
      planned = out.planned;
      within = out.within;
      stop = elim out.stop [
        | inl at ↦ inl at
        | inr ended ↦ inr (record { ended = ended.ended; before = ended.before })
      ];
      put = out.put;
      live = out.live;
    })

-- what was run and reported, or stopped
pub run-answer : {A : Type 0} (r : Result ℕ Refusal) (outcome : Result A Stop) (old new : DevicesView)
    (summary asked : Bool) (budget : ℕ) (ran : Profiling) (k : Kept)
    → IfOk r (λ _. IsOk outcome) → OnOk r (Gathers ran k.session.value)
    → MatchResult r (IsShown summary asked k.session.value old.images new.images old.report new.report)
    (λ e. IsUntold old.report new.report)
    → IfErr r (λ e. ((e ≡ OutFailed) × (outcome ≡ Err stop.OutFailed)) ⊎ (e ≡ NoMemory))
    → IfErr r (λ e. e ≡ OutFailed → IsUntold old.images new.images)
    → OnOk outcome (IsCarriedOut ran budget old.out.taken new.out.taken)
    → StopCause old.out.faults new.out.faults outcome
    → IfErr r (λ e. e ≡ OutFailed → k.session.value ≡ ran)
    → OnOutFailed outcome (IsCutOff ran budget old.out.taken new.out.taken)
    → MatchResult r (λ status. IsRun summary asked budget old new status k) (IsStopped (Some k) budget old new)
run-answer (Ok status) (Ok x) old new summary asked budget ran k ok gathers shown why unshown carried without_fault stays cut = record {
  output = gathered-out ran k.session.value budget old.out.taken new.out.taken gathers carried;
  without_fault = without_fault;
  shown = shown;
}
run-answer (Ok status) (Err e) old new summary asked budget ran k ok gathers shown why unshown carried without_fault stays cut = absurd (false≢true ok)
run-answer (Err r) outcome old new summary asked budget ran k ok gathers untold why unshown carried cause stays cut =
    record { why = by_cause why; cut = by_cut why; untold = untold; unshown = unshown }
  where
    by_cut : ((r ≡ OutFailed) × (outcome ≡ Err stop.OutFailed)) ⊎ (r ≡ NoMemory) → r ≡ OutFailed
        → IsCutOff k.session.value budget old.out.taken new.out.taken
    by_cut (inl (failed, stopped)) is =
        subst (λ (s : Profiling). IsCutOff s budget old.out.taken new.out.taken) (sym (stays is))
        (subst (λ o. OnOutFailed o (IsCutOff ran budget old.out.taken new.out.taken)) stopped cut)
    by_cut (inr memory) is = absurd (let e : OutFailed ≡ NoMemory = sym is ∙ memory in cc)

    by_cause : ((r ≡ OutFailed) × (outcome ≡ Err stop.OutFailed)) ⊎ (r ≡ NoMemory)
        → ((r ≡ OutFailed) × Rose old.out.faults new.out.faults) ⊎ (r ≡ NoMemory)
    by_cause (inl (failed, stopped)) =
        inl (failed, (subst (StopCause old.out.faults new.out.faults) stopped cause).1)
    by_cause (inr memory) = inr memory
