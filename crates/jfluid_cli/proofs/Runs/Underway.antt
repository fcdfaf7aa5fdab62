-- A run between two slices.
use Rattle.std.proofs.Common.{◌≡◌, ℕ, zero, suc, ◌+◌, ◌<◌, ◌≤◌, Bool, true, false, cond, List, [], ◌∷◌, take, Option, Some, None, refl, sym, ap, subst, ◌∙◌, arith, inl, inr}
use Rattle.std.specs.Io.KnownBytes.{append_known}
use Rattle.std.specs.Prelude.{◌⊎◌, Result, Err, is_some, slice_get, IfSome, min, if◌then◌else◌}
use Rattle.std.specs.List.{AllByRecursion}
use Rattle.std.specs.Option.{option_map_or}
use Rattle.std.proofs.lemmas.Bool.{cases_lt, lt-ltb, le-ltb}
use Rattle.profile_session.specs.Sessions.{LiveRunOn, Profiling, is_over, world_of}
use Rattle.jvm_model.specs.declared.event.Act.{Act}
use Rattle.jvm_model.specs.declared.program.Program.{Program}
use Rattle.jvm_model.specs.Running.Run.{run, before}
use Rattle.byte_streams.specs.Streams.{PutsPrefix}
use Rattle.jfluid_cli.specs.declared.running.Reached.{Reached}
use Rattle.jfluid_cli.specs.declared.running.Stop.{Stop}
use Rattle.jfluid_cli.specs.declared.running.Stop.TheVariants.{OutFailed, NoMemory}
use Rattle.jfluid_cli.specs.Actions.{Begins, CanBeTaken, GoesOn, IsAlong, IsCutBegin, IsCutOn, IsCutSlice, Takes}
use Rattle.jfluid_cli.specs.Runs.{EndedIn, IsCarriedOut, IsCutOff, IsFresh, IsGoing, IsPlanned, OnOutFailed, RanFor, SameProgram, is_ended_at, output_at, slice_begin, slice_end, up_to_action, written_between}
use Rattle.jfluid_cli.proofs.Actions.ActionLemmas.{StaysAlong, stays-along}
use Rattle.jfluid_cli.proofs.Reports.Outputs.{front-of, front-then, all-then}

-- between steps the session's end is the run's
pub over-at : (s : Profiling) → s.started ≡ true → is_over s ≡ is_ended_at s s.clock
over-at s started =
    ap (λ (b : Bool). is_some (cond b (run (world_of s) s.clock) (before (world_of s))).ending) started

not-both : {A : Type 0} → false ≡ true → A
not-both e = absurd cc

-- a slice of some steps goes on
pub goes-further : (old new : Profiling) (steps : ℕ) (ended : Bool) → old.started ≡ true → is_over old ≡ false → 0 < steps
    → RanFor old new steps ended → old.clock < new.clock
goes-further old new steps false started going some ran =
    let all : new.clock ≡ old.clock + steps = ran.all refl in
    omega (arith, all, some)
goes-further old new steps true started going some ran = elim (cases_lt old.clock new.clock) [
  | inl more ↦ more
  | inr less ↦
      (let same : new.clock ≡ old.clock = (let from = ran.from in omega (arith, from, less)) in
      not-both (sym (sym (over-at old started) ∙ going) ∙ (ap (is_ended_at old) (sym same) ∙ ran.answer)))
]

-- ---- behind the actions that are due

-- they change neither the run nor where it stands
pub taken-ends : (old mid : Profiling) (next : ℕ) → Takes old mid next → (n : ℕ) → is_ended_at mid n ≡ is_ended_at old n
taken-ends old mid next takes n = ap (λ (s : Profiling). is_ended_at s n) takes.same

pub taken-clock : (old mid : Profiling) (next : ℕ) → Takes old mid next → mid.clock ≡ old.clock
taken-clock old mid next takes = ap (λ (s : Profiling). s.clock) takes.same

pub taken-going : (old mid : Profiling) (next : ℕ) → Takes old mid next → IsGoing old → IsGoing mid
taken-going old mid next takes going = record {
  started = ap (λ (s : Profiling). s.started) takes.same ∙ going.started;
  whole = ap (λ (s : Profiling). s.broken) takes.same ∙ going.whole;
}

pub taken-over : (old mid : Profiling) (next : ℕ) → Takes old mid next → is_over mid ≡ is_over old
taken-over old mid next takes = ap (λ (s : Profiling). is_over s) takes.same

pub taken-acts : (old mid : Profiling) (next : ℕ) → Takes old mid next → CanBeTaken old.program.acts → CanBeTaken mid.program.acts
taken-acts old mid next takes = subst (λ (p : Program). CanBeTaken p.acts) (sym (ap (λ (s : Profiling). s.program) takes.same))

abbrev pub reached : Bool → ℕ → Reached
reached ended next = record { ended = ended; next = next }

not-later : (k m : ℕ) (o : Option Act) → m ≤ k → IfSome o (λ a. k ≤ a.moment) → IfSome o (λ a. m ≤ a.moment)
not-later k m None le before = tt
not-later k m (Some a) le before = omega (arith, le, before)

-- where it stands behind the slice
moved-from : (old mid new : Profiling) (next : ℕ) → Takes old mid next → new ≡ record mid { started = true; clock = new.clock; gathered = false; live = new.live }
    → new ≡ record old { acts = new.acts; started = true; clock = new.clock; gathered = false; live = new.live }
moved-from old mid new next takes later =
    later
    ∙ (ap (λ (s : Profiling). let moved : Profiling = record s { acts = mid.acts; started = true; clock = new.clock; gathered = false; live = new.live } in moved) takes.same
    ∙ ap (λ (list : List Act). let moved : Profiling = record old { acts = list; started = true; clock = new.clock; gathered = false; live = new.live } in moved)
    (sym (ap (λ (s : Profiling). s.acts) later)))

-- the actions in front are not later than the step, and the one behind them is
next-along : (n most next : ℕ) (acts : List Act) → AllByRecursion (λ a. a.moment ≤ n) (take next acts)
    → IfSome (slice_get acts next) (λ a. n < a.moment)
    → option_map_or (λ a. min most a.moment) (slice_get acts next) most ≡ up_to_action n most acts
next-along n most zero [] taken later = refl
next-along n most zero (a ∷ acts) taken later =
    ap (λ b. if b then min most a.moment else up_to_action n most acts) (sym (lt-ltb n a.moment later))
next-along n most (suc next) [] taken later = refl
next-along n most (suc next) (a ∷ acts) taken later =
    next-along n most next acts taken.1 later
    ∙ ap (λ b. if b then min most a.moment else up_to_action n most acts) (sym (le-ltb n a.moment taken.0))

-- the actions that are due, and a slice
pub one-slice : (old mid new : Profiling) (next steps budget : ℕ) (ended : Bool) → IsGoing old → is_over old ≡ false
    → Takes old mid next → RanFor mid new steps ended → 0 < steps → mid.clock + steps ≤ budget
    → IfSome (slice_get mid.program.acts next) (λ a. mid.clock + steps ≤ a.moment)
    → mid.clock + steps ≡ option_map_or (λ a. min (min (mid.clock + 65536) budget) a.moment) (slice_get mid.program.acts next) (min (mid.clock + 65536) budget)
    → CanBeTaken mid.program.acts
    → GoesOn old new budget (reached ended next)
one-slice old mid new next steps budget ended going goes takes ran some fits before ends can =
    let at : mid.clock + steps ≡ slice_end old.program.acts budget old.clock =
    ends ∙ (next-along mid.clock (min (mid.clock + 65536) budget) next mid.program.acts takes.along.taken takes.later
    ∙ ap (λ (s : Profiling). slice_end s.program.acts budget s.clock) takes.same) in
    let clock : mid.clock ≡ old.clock = taken-clock old mid next takes in
    let more : mid.clock < new.clock =
    goes-further mid new steps ended (taken-going old mid next takes going).started (taken-over old mid next takes ∙ goes) some ran in
    let most : new.clock ≤ mid.clock + steps = ran.most in
    let here : StaysAlong new next =
    stays-along mid new next takes.along takes.later can.in_order ran.later ran.from (inl more)
    (not-later (mid.clock + steps) new.clock (slice_get mid.program.acts next) most before) in
    record {
      same = moved-from old mid new next takes ran.later;
      some = omega (arith, clock, more);
      most = omega (arith, most, fits);
      end = subst (λ n. new.clock ≤ n) at most;
      whole = λ goes_on. ran.all goes_on ∙ at;
      answer = sym (taken-ends old mid next takes new.clock) ∙ ran.answer;
      first = λ m less. sym (taken-ends old mid next takes m) ∙ ran.first m less;
      along = here.along;
      planned = here.planned;
      live = ran.live;
    }

-- the actions of moment 0, and the start
pub first-slice : (old mid new : Profiling) (next : ℕ) (ended : Bool) → IsFresh old
    → Takes old mid next → RanFor mid new 0 ended → CanBeTaken mid.program.acts
    → Begins old new (reached ended next)
first-slice old mid new next ended fresh takes ran can =
    let clock : mid.clock ≡ 0 = taken-clock old mid next takes ∙ fresh.clock in
    let none : new.clock ≡ 0 = (let most = ran.most in omega (arith, most, clock)) in
    let here : StaysAlong new next =
    stays-along mid new next takes.along takes.later can.in_order ran.later ran.from (inr clock)
    (by-none new.clock (slice_get mid.program.acts next) none) in
    record {
      same = moved-from old mid new next takes ran.later
          ∙ ap (λ n. let moved : Profiling = record old { acts = new.acts; started = true; clock = n; gathered = false; live = new.live } in moved) none;
      answer = ap (is_ended_at old) (sym none) ∙ (sym (taken-ends old mid next takes new.clock) ∙ ran.answer);
      along = here.along;
      planned = here.planned;
      live = ran.live;
    }
  where
    by-none : (n : ℕ) (o : Option Act) → n ≡ 0 → IfSome o (λ a. n ≤ a.moment)
    by-none n None e = tt
    by-none n (Some a) e = omega (arith, e)

-- ---- from the start on

-- The session has come from where it was made to this step, with the actions so far, and its output
-- was put.
pub record IsUnderway (first now : Profiling) (budget : ℕ) (r : Reached)
    (old new : Option (List ℕ)) : Type 0 where
  pub later : now ≡ record first { acts = now.acts; started = true; clock = now.clock; gathered = false; live = now.live }
  pub whole : first.broken ≡ false
  pub within : now.clock ≤ budget
  -- so many slices were made
  pub number : ℕ
  pub begin : r.ended ≡ false → now.clock ≡ slice_begin first.program.acts budget number
  pub answer : is_ended_at first now.clock ≡ r.ended
  pub before : (m : ℕ) → m < now.clock → is_ended_at first m ≡ false
  pub along : IsAlong now r.next
  pub planned : IsPlanned now
  pub live : LiveRunOn now
  pub put : new ≡ append_known old (output_at first now.clock)

pub has-begun : (first now : Profiling) (budget : ℕ) (r : Reached) (o n : Option (List ℕ)) → IsFresh first → Begins first now r
    → n ≡ append_known o (output_at first 0) → IsUnderway first now budget r o n
has-begun first now budget r o n fresh begins put =
    let none : now.clock ≡ 0 = ap (λ (s : Profiling). s.clock) begins.same in
    record {
      later = begins.same ∙ ap (λ k. let moved : Profiling = record first { acts = now.acts; started = true; clock = k; gathered = false; live = now.live } in moved) (sym none);
      whole = fresh.whole;
      within = omega (arith, none);
      number = 0;
      begin = λ goes. none;
      answer = ap (is_ended_at first) none ∙ begins.answer;
      before = λ m less. absurd (omega (arith, none, less));
      along = begins.along;
      planned = begins.planned;
      live = begins.live;
      put = put ∙ ap (λ k. append_known o (output_at first k)) (sym none);
    }

-- where a slice is made the run had not ended
was-going : (first old new : Profiling) (budget : ℕ) (was r : Reached) (o m : Option (List ℕ))
    → IsUnderway first old budget was o m → GoesOn old new budget r → was.ended ≡ false
was-going first old new budget was r o m underway goes =
    sym underway.answer
    ∙ (sym (ap (λ (v : Profiling). is_ended_at v old.clock) underway.later) ∙ goes.first old.clock goes.some)

-- a slice takes it further
pub goes-along : (first old new : Profiling) (budget : ℕ) (was r : Reached) (o m n : Option (List ℕ))
    → IsUnderway first old budget was o m → GoesOn old new budget r
    → n ≡ append_known m (written_between old old.clock new.clock)
    → IsUnderway first new budget r o n
goes-along first old new budget was r o m n underway goes put =
    let seen : (k : ℕ) → is_ended_at old k ≡ is_ended_at first k =
    λ k. ap (λ (v : Profiling). is_ended_at v k) underway.later in
    let written : written_between old old.clock new.clock ≡ written_between first old.clock
    new.clock = ap (λ (v : Profiling). written_between v old.clock new.clock) underway.later in
    record {
      later = goes.same ∙ ap
          (λ (v : Profiling). let moved : Profiling = record v { acts = new.acts; started = true; clock = new.clock; gathered = false; live = new.live } in moved) underway.later;
      whole = underway.whole;
      within = goes.most;
      number = suc underway.number;
      begin = λ goes_on. goes.whole goes_on
          ∙ (ap (λ (v : Profiling). slice_end v.program.acts budget old.clock) underway.later
          ∙ ap (slice_end first.program.acts budget) (underway.begin (was-going first old new budget was r o m underway goes)));
      answer = sym (seen new.clock) ∙ goes.answer;
      before = λ k lt. sym (seen k) ∙ goes.first k lt;
      along = goes.along;
      planned = goes.planned;
      live = goes.live;
      put = all-then first old.clock new.clock o m n (let some = goes.some in omega (arith, some)) underway.put
          (put ∙ ap (append_known m) written);
    }

-- what was put so far is a front of the output at the budget
pub front_so_far : (first now : Profiling) (budget : ℕ) (r : Reached) (o n : Option (List ℕ))
    → IsUnderway first now budget r o n → PutsPrefix o n (output_at first budget)
front_so_far first now budget r o n underway =
    front-of first now.clock budget o n underway.within underway.put

-- and so is it after a slice that stopped
pub front_after : (first old : Profiling) (budget : ℕ) (was : Reached) (o m n : Option (List ℕ))
    → IsUnderway first old budget was o m → PutsPrefix m n (written_between old old.clock budget)
    → PutsPrefix o n (output_at first budget)
front_after first old budget was o m n underway front =
    front-then first old.clock budget o m n underway.within underway.put
    (subst (PutsPrefix m n)
    (ap (λ (v : Profiling). written_between v old.clock budget) underway.later) front)

-- ---- what it is between slices

pub underway-going : (first now : Profiling) (budget : ℕ) (r : Reached) (o n : Option (List ℕ))
    → IsUnderway first now budget r o n → IsGoing now
underway-going first now budget r o n underway = record {
  started = ap (λ (s : Profiling). s.started) underway.later;
  whole = ap (λ (s : Profiling). s.broken) underway.later ∙ underway.whole;
}

pub underway-ended : (first now : Profiling) (budget : ℕ) (r : Reached) (o n : Option (List ℕ))
    → IsUnderway first now budget r o n → is_ended_at now now.clock ≡ r.ended
underway-ended first now budget r o n underway =
    ap (λ (s : Profiling). is_ended_at s now.clock) underway.later ∙ underway.answer

pub underway-over : (first now : Profiling) (budget : ℕ) (r : Reached) (o n : Option (List ℕ))
    → IsUnderway first now budget r o n → is_over now ≡ r.ended
underway-over first now budget r o n underway =
    over-at now (underway-going first now budget r o n underway).started ∙ underway-ended first now budget r o n underway

pub underway-program : (first now : Profiling) (budget : ℕ) (r : Reached) (o n : Option (List ℕ))
    → IsUnderway first now budget r o n → SameProgram first now
underway-program first now budget r o n underway = record {
  program = ap (λ (s : Profiling). s.program) underway.later;
  input = ap (λ (s : Profiling). s.input) underway.later;
  held = λ tidy. ap (λ (s : Profiling). s.stale) underway.later ∙ tidy;
}

-- where it stops it is carried out
pub carried-out : (first now : Profiling) (budget : ℕ) (r : Reached) (o n : Option (List ℕ))
    → IsUnderway first now budget r o n → (r.ended ≡ true) ⊎ (budget ≤ now.clock) → IsCarriedOut now budget o n
carried-out first now budget r o n underway stopped =
    let ended = underway-ended first now budget r o n underway in
    record {
      going = underway-going first now budget r o n underway;
      planned = underway.planned;
      live = underway.live;
      within = underway.within;
      stop = stops r.ended refl stopped ended;
      put = underway.put ∙ ap (append_known o) (sym (ap (λ (s : Profiling). output_at s now.clock) underway.later));
    }
  where
    stops : (b : Bool) → r.ended ≡ b → (r.ended ≡ true) ⊎ (budget ≤ now.clock) → is_ended_at now now.clock ≡ r.ended
        → ((now.clock ≡ budget) × (is_ended_at now now.clock ≡ false)) ⊎ EndedIn now now.clock
    stops true is which ended = inr (record {
      ended = ended ∙ is;
      before = λ m less. ap (λ (s : Profiling). is_ended_at s m) underway.later ∙ underway.before m less;
    })
    stops false is (inl over) ended = not-both (sym is ∙ over)
    stops false is (inr far) ended = inl ((let within = underway.within in omega (arith, within, far)), ended ∙ is)

-- what is written behind the actions is written behind what was before
pub taken-written : (old mid : Profiling) (next : ℕ) → Takes old mid next → (m : ℕ)
    → written_between mid mid.clock m ≡ written_between old old.clock m
taken-written old mid next takes m = ap (λ (s : Profiling). written_between s s.clock m) takes.same

-- ---- where a put failed

abbrev failed : (A : Type 0) → Stop → Result A Stop
failed A stop = Err stop

-- what follows where it failed
pub cut-as : (A B : Type 0) (stop : Stop) (P Q : Type 0) → (P → Q) → OnOutFailed (failed A stop) P → OnOutFailed (failed B stop) Q
cut-as A B OutFailed P Q follows holds = follows holds
cut-as A B NoMemory P Q follows holds = tt

-- behind the actions that are due it is that of the slice
pub cut-slice : (old mid new : Profiling) (next steps budget : ℕ) (o n : Option (List ℕ)) → IsGoing old → is_over old ≡ false
    → Takes old mid next → 0 < steps → mid.clock + steps ≤ budget
    → IfSome (slice_get mid.program.acts next) (λ a. mid.clock + steps ≤ a.moment)
    → mid.clock + steps ≡ option_map_or (λ a. min (min (mid.clock + 65536) budget) a.moment) (slice_get mid.program.acts next) (min (mid.clock + 65536) budget)
    → CanBeTaken mid.program.acts → IsCutSlice mid new steps o n → IsCutOn old new budget o n
cut-slice old mid new next steps budget o n going goes takes some fits before ends can cut = record {
  reached = reached cut.ended next;
  goes = one-slice old mid new next steps budget cut.ended going goes takes cut.ran some fits before ends can;
  put = subst (PutsPrefix o n) (taken-written old mid next takes new.clock) cut.put;
}

-- and behind those of moment 0 it is that of the start
pub cut-begin : (old mid new : Profiling) (next : ℕ) (o n : Option (List ℕ)) → IsFresh old → Takes old mid next
    → CanBeTaken mid.program.acts → PutsPrefix o n (output_at mid 0) → (ended : Bool) × RanFor mid new 0 ended
    → IsCutBegin old new o n
cut-begin old mid new next o n fresh takes can put ran = record {
  reached = reached ran.0 next;
  begins = first-slice old mid new next ran.0 fresh takes ran.1 can;
  put = subst (PutsPrefix o n) (ap (λ (s : Profiling). output_at s 0) takes.same) put;
}

-- of the start
pub cut-off-begin : (first new : Profiling) (budget : ℕ) (o n : Option (List ℕ)) → IsCutBegin first new o n → IsCutOff new budget o n
cut-off-begin first new budget o n cut = inl (record {
  clock = ap (λ (s : Profiling). s.clock) cut.begins.same;
  put = subst (PutsPrefix o n) (sym (ap (λ (s : Profiling). output_at s 0) cut.begins.same)) cut.put;
})

-- of a slice
pub cut-off : (first old new : Profiling) (budget : ℕ) (was : Reached) (o m n : Option (List ℕ))
    → IsUnderway first old budget was o m → IsCutOn old new budget m n → IsCutOff new budget o n
cut-off first old new budget was o m n underway cut =
    let goes = cut.goes in
    let number = underway.number in
    let acts : new.program.acts ≡ old.program.acts = ap (λ (v : Profiling). v.program.acts) goes.same in
    let all : first.program.acts ≡ new.program.acts =
    sym (acts ∙ ap (λ (v : Profiling). v.program.acts) underway.later) in
    let at : old.clock ≡ slice_begin new.program.acts budget number =
    underway.begin (was-going first old new budget was cut.reached o m underway goes)
    ∙ ap (λ (list : List Act). slice_begin list budget number) all in
    let next : slice_end old.program.acts budget old.clock ≡ slice_begin new.program.acts budget (suc number) =
    ap (λ (list : List Act). slice_end list budget old.clock) (sym acts) ∙ ap (slice_end new.program.acts budget) at in
    let seen : (k : ℕ) → is_ended_at new k ≡ is_ended_at old k =
    λ k. ap (λ (v : Profiling). is_ended_at v k) goes.same in
    let before : m ≡ append_known o (output_at new old.clock) =
    underway.put
    ∙ ap (append_known o)
    (sym (ap (λ (v : Profiling). output_at v old.clock) goes.same ∙ ap (λ (v : Profiling). output_at v old.clock) underway.later)) in
    let written : written_between old old.clock new.clock ≡ written_between new old.clock new.clock =
    sym (ap (λ (v : Profiling). written_between v old.clock new.clock) goes.same) in
    inr (
      number,
      record {
        some = subst (λ k. k < new.clock) at goes.some;
        end = subst (λ k. new.clock ≤ k) next goes.end;
        whole = λ going. goes.whole (sym goes.answer ∙ (sym (seen new.clock) ∙ going)) ∙ next;
        before = λ k less. seen k ∙ goes.first k less;
        put = subst (λ k. PutsPrefix (append_known o (output_at new k)) n (written_between new k new.clock)) at
            (subst (λ (x : Option (List ℕ)). PutsPrefix x n (written_between new old.clock new.clock)) before
            (subst (PutsPrefix m n) written cut.put));
      },
    )
