-- What the files tell of a plan, from what was fetched of its file.
use Rattle.std.proofs.Common.{◌≡◌, ℕ, ◌+◌, ◌<◌, ◌≤◌, false, List, length, take, Option, Some, None, Result, Err, refl, sym, ap, subst, ◌∙◌, arith, inl, inr}
use Rattle.std.specs.Prelude.{nat_le}
use Rattle.std.specs.Bool.{MatchBool}
use Rattle.std.specs.Option.{option_map}
use Rattle.std.proofs.lemmas.Bool.{cases_lt, lt-leb}
use Rattle.std.proofs.lemmas.List.{length-take, take_all}
use Rattle.std.proofs.lemmas.Option.{same_Some, none-some}
use Rattle.byte_streams.specs.Streams.{Told, contents_at, IsFetched}
use Rattle.plan_text.specs.declared.plan.Plan.{Plan}
use Rattle.plan_text.specs.declared.plan.PlanError.{PlanError}
use Rattle.plan_text.specs.declared.plan.PlanError.TheVariants as plan
use Rattle.plan_text.specs.Lines.{IsPlanRead, IsRead, lines_of, most_bytes, silent_plan}
use Rattle.jfluid_cli.specs.declared.refusal.Refusal.{Refusal}
use Rattle.jfluid_cli.specs.declared.refusal.Refusal.TheVariants.{PlanNotFetched}
use Rattle.jfluid_cli.specs.Asking.{IsToldPlan}
use Rattle.jfluid_cli.specs.Sinks.{FilesView}
use Rattle.jfluid_cli.specs.Stages.{IsFetchFault, IsTextRefusal, IsToldRefusal}

abbrev Answer : Type 0
Answer = Result Plan PlanError

-- an answer for a text of at most so many bytes
abbrev IsReadWithin : ℕ → List ℕ → Answer → Type 0
IsReadWithin n bytes r = MatchBool (nat_le (length bytes) n) (IsRead 1 silent_plan (lines_of bytes) r) (r ≡ Err plan.TooLong)

-- of a longer text the front has the same answer
front-read : (n : ℕ) (content bytes : List ℕ) (r : Answer) → take (n + 1) content ≡ bytes → IsReadWithin n bytes r → IsReadWithin n content r
front-read n content bytes r is read = elim (cases_lt n (length bytes)) [
  | inl long ↦
      (let more : n < length content = omega (arith, ap length is, length-take (n + 1) content, long) in
      let other : nat_le (length bytes) n ≡ false = lt-leb (length bytes) n long in
      let too : r ≡ Err plan.TooLong = subst (λ b. MatchBool b (IsRead 1 silent_plan (lines_of bytes) r) (r ≡ Err plan.TooLong)) other read in
      subst (λ b. MatchBool b (IsRead 1 silent_plan (lines_of content) r) (r ≡ Err plan.TooLong))
      (sym (lt-leb (length content) n more)) too)
  | inr short ↦
      (let len : length content ≤ n + 1 = omega (arith, length-take (n + 1) content, ap length is, short) in
      let same : content ≡ bytes = sym (take_all (n + 1) content len) ∙ is in
      subst (λ (bs : List ℕ). IsReadWithin n bs r) (sym same) read)
]

told-some : (n : ℕ) (files : Told) (name bytes : List ℕ) (r : Answer) (o : Option (List ℕ)) → contents_at files name ≡ o
    → option_map (take (n + 1)) o ≡ Some bytes → ((content : List ℕ) → take (n + 1) content ≡ bytes → IsPlanRead content r)
    → IsToldPlan (Some files) name r
told-some n files name bytes r None e is reads = absurd (none-some bytes is)
told-some n files name bytes r (Some content) e is reads = (content, e, reads content (same_Some (take (n + 1) content) bytes is))

pub told-plan : (told : Option Told) (name bytes : List ℕ) (r : Answer) → IsFetched told name most_bytes bytes → IsPlanRead bytes r
    → IsToldPlan told name r
told-plan None name bytes r fetched read = (bytes, tt, read)
told-plan (Some files) name bytes r fetched read =
    told-some most_bytes files name bytes r (contents_at files name) refl fetched
    (λ content is. front-read most_bytes content bytes r is read)

pub told-fault : (told : Option Told) (name bytes : List ℕ) (r : Refusal) → IsFetched told name most_bytes bytes → IsTextRefusal bytes r
    → IsToldRefusal told name r
told-fault told name bytes r fetched why =
    inr (why.0, why.1, λ other. told-plan told name bytes (Err why.0) fetched (why.2 other))

pub told-unfetched : (told : Option Told) (name : List ℕ) (old new : FilesView) (r : Refusal)
    → IsFetchFault name PlanNotFetched old new r → IsToldRefusal told name r
told-unfetched told name old new r (inl (failed, rose, last)) = inl failed
told-unfetched told name old new r (inr (memory, without_fault)) = inr (plan.NoMemory, memory, λ other. absurd (other refl))
