-- What is proved of a call on devices, where they are seen otherwise.
use Rattle.std.proofs.Common.{◌≡◌, ℕ, Bool, List, Option, Some, None, subst}
use Rattle.std.specs.Prelude.{◌⊎◌, Result, MatchResult, IfSome, IsSomeAnd}
use Rattle.std.proofs.lemmas.Result.{MatchResult-weaker}
use Rattle.jf_bytes.specs.declared.error.NoMemory.{NoMemory as OutOfMemory}
use Rattle.byte_streams.specs.Streams.{Rose}
use Rattle.jfluid_cli.specs.declared.kept.Kept.{Kept}
use Rattle.jfluid_cli.specs.declared.refusal.Refusal.{Refusal}
use Rattle.jfluid_cli.specs.declared.refusal.Refusal.TheVariants.{OutFailed, NoMemory}
use Rattle.jfluid_cli.specs.Calls.{IsAnswered, IsRun, IsShown, call_of}
use Rattle.jfluid_cli.specs.Runs.{IsCarriedOut, IsCutOff}
use Rattle.jfluid_cli.specs.Sinks.{DevicesView, SinkView, IsUntold}
use Rattle.jfluid_cli.specs.Stages.{IsCarried, IsStopped}

pub carried-from : (words : Result (List (List ℕ)) OutOfMemory) (old before new : DevicesView)
    (kept : Option Kept) (r : Result ℕ Refusal) → old ≡ before → IsCarried (call_of words old new kept) r
    → IsCarried (call_of words before new kept) r
carried-from words old before new kept r same =
    subst (λ (d : DevicesView). IsCarried (call_of words d new kept) r) same

pub carried-on : (words : Result (List (List ℕ)) OutOfMemory) (old before new after : DevicesView) (kept : Option Kept)
    (r : Result ℕ Refusal) → old ≡ before → new ≡ after → IsCarried (call_of words old new kept) r
    → IsCarried (call_of words before after kept) r
carried-on words old before new after kept r same_before same_after carried =
    subst (λ (d : DevicesView). IsCarried (call_of words before d kept) r) same_after
    (carried-from words old before new kept r same_before carried)

pub answered-from : (words : Result (List (List ℕ)) OutOfMemory) (old before new : DevicesView)
    (kept : Option Kept) (status : ℕ) → old ≡ before → IsAnswered (call_of words old new kept) status
    → IsAnswered (call_of words before new kept) status
answered-from words old before new kept status same =
    subst (λ (d : DevicesView). IsAnswered (call_of words d new kept) status) same

pub answered-of : (words given : Result (List (List ℕ)) OutOfMemory) (old new : DevicesView) (kept : Option Kept) (status : ℕ)
    → words ≡ given → IsAnswered (call_of words old new kept) status → IsAnswered (call_of given old new kept) status
answered-of words given old new kept status =
    subst (λ (w : Result (List (List ℕ)) OutOfMemory). IsAnswered (call_of w old new kept) status)

pub ran-from : (old before new : DevicesView) (r : Result ℕ Refusal) (k : Kept)
    (summary asked : Bool) (budget : ℕ) → old ≡ before
    → MatchResult r (λ status. IsRun summary asked budget old new status k) (IsStopped (Some k) budget old new)
    → MatchResult r (λ status. IsRun summary asked budget before new status k) (IsStopped (Some k) budget before new)
ran-from old before new r k summary asked budget =
    subst (λ (d : DevicesView). MatchResult r
    (λ status. IsRun summary asked budget d new status k) (IsStopped (Some k) budget d new))

-- ---- a run is told of by the sinks alone

-- the sinks tell the same
pub record HaveSameSinks (old new : DevicesView) : Type 0 where
  pub out : old.out ≡ new.out
  pub report : old.report ≡ new.report
  pub images : old.images ≡ new.images

module _ (old before new after : DevicesView) (was : HaveSameSinks before old) (is : HaveSameSinks after new) where
  -- what is said of two sinks
  of-sinks : (P : SinkView → SinkView → Type 0) (a b x y : SinkView) → a ≡ x → b ≡ y → P a b → P x y
  of-sinks P a b x y first second holds = subst (λ (s : SinkView). P s y) first (subst (λ (s : SinkView). P a s) second holds)

  run-sinks : (summary asked : Bool) (budget status : ℕ) (k : Kept)
      → IsRun summary asked budget before after status k → IsRun summary asked budget old new status k
  run-sinks summary asked budget status k ran = record {
    output = of-sinks (λ s t. IsCarriedOut k.session.value budget s.taken t.taken) _ _ _ _ was.out is.out ran.output;
    without_fault = of-sinks (λ s t. t.faults ≡ s.faults) _ _ _ _ was.out is.out ran.without_fault;
    shown = of-sinks (λ s t. IsShown summary asked k.session.value s t old.report new.report status) _ _ _ _
        was.images is.images
        (of-sinks (λ s t. IsShown summary asked k.session.value before.images after.images s t status) _ _ _ _
        was.report is.report ran.shown);
  }

  some-sinks : (summary asked : Bool) (budget status : ℕ) (kept : Option Kept)
      → IsSomeAnd kept (IsRun summary asked budget before after status)
      → IsSomeAnd kept (IsRun summary asked budget old new status)
  some-sinks summary asked budget status None none = none
  some-sinks summary asked budget status (Some k) ran = run-sinks summary asked budget status k ran

  stop-sinks : (kept : Option Kept) (budget : ℕ) (r : Refusal) → IsStopped kept budget before after r → IsStopped kept budget old new r
  stop-sinks kept budget r stopped = record {
    why = of-sinks (λ s t. ((r ≡ OutFailed) × Rose s.faults t.faults) ⊎ (r ≡ NoMemory)) _ _ _ _ was.out is.out stopped.why;
    cut = of-sinks (λ s t. r ≡ OutFailed → IfSome kept (λ k. IsCutOff k.session.value budget s.taken t.taken)) _ _ _ _ was.out is.out stopped.cut;
    untold = of-sinks IsUntold _ _ _ _ was.report is.report stopped.untold;
    unshown = of-sinks (λ s t. r ≡ OutFailed → IsUntold s t) _ _ _ _ was.images is.images stopped.unshown;
  }

  pub ran-on : (summary asked : Bool) (budget : ℕ) (kept : Option Kept) (r : Result ℕ Refusal)
      → MatchResult r (λ status. IsSomeAnd kept (IsRun summary asked budget before after status)) (IsStopped kept budget before after)
      → MatchResult r (λ status. IsSomeAnd kept (IsRun summary asked budget old new status)) (IsStopped kept budget old new)
  ran-on summary asked budget kept r ran =
      MatchResult-weaker r ran (λ status. some-sinks summary asked budget status kept) (stop-sinks kept budget)
