-- What a call answers, from what it left: all but the line follows from the run or the refusal.
use Rattle.std.proofs.Common.{◌≡◌, ℕ, Bool, true, false, List, [], ◌∷◌, Option, Some, None, refl, sym, ap, subst, ◌∙◌, inl, inr}
use Rattle.std.specs.Prelude.{◌⊎◌, Ok, Err, Result, IfSome, IsErr, IsSome, IsSomeAnd}
use Rattle.std.specs.Option.{option_map_or}
use Rattle.std.proofs.lemmas.Bool.{cases_eq, false≢true}
use Rattle.std.proofs.lemmas.Option.{none-some}
use Rattle.jf_bytes.specs.declared.error.NoMemory.{NoMemory as OutOfMemory}
use Rattle.byte_streams.specs.Streams.{PutsAll, PutsPrefix, Rose}
use Rattle.const_pool.specs.declared.class.ClassFile.{ClassFile}
use Rattle.plan_text.specs.declared.plan.Plan.{Plan}
use Rattle.jvm_model.specs.declared.program.Program.{Program}
use Rattle.jvm_model.specs.Running.Run.{ending_of}
use Rattle.command_line.specs.Words.{Read}
use Rattle.profile_session.specs.Sessions.{Profiling}
use Rattle.jfluid_cli.specs.declared.kept.Kept.{Kept}
use Rattle.jfluid_cli.specs.declared.refusal.Refusal.{Refusal}
use Rattle.jfluid_cli.specs.declared.refusal.Refusal.TheVariants.{Clap, Words, Plan as BadPlan, NotRead, NotAdmitted, InputFailed, OutFailed, PlanNotFetched, NotFetched, NoMemory, InputTooLong}
use Rattle.jfluid_cli.specs.Calls.{Call, call_of, given_of, words_of, IsReported, IsRunAsked, IsShown, IsTrueOf, IsRefused, IsAnswered, IsEndingOf, PutsLine, FilesWithoutFault, InputWithoutFault, AllWithoutFault}
use Rattle.jfluid_cli.specs.Asking.{asked_by, HasBadRoot}
use Rattle.jfluid_cli.specs.Causes.{HasBadPlan, HasLongInput, IsAccepted, IsUnfit, OfWords}
use Rattle.jfluid_cli.specs.Contents.{classes_for}
use Rattle.jfluid_cli.specs.Sinks.{DevicesView, SinkView, IsUntold, PutsOrRose}
use Rattle.jfluid_cli.specs.Stages.{IsCarried, IsWordsRefusal}
use Rattle.jfluid_cli.specs.Origins.{HasOrigin, IsOnlyProgram}
use Rattle.jfluid_cli.specs.Refusals.{status_of, refusal_line, IsNameless}
use Rattle.jfluid_cli.specs.Runs.{ending_at, world_on}
use Rattle.jfluid_cli.specs.Top.{IsProgram, answer_for, is_one_of, is_refused, is_run, is_status, status_of_ending}
use Rattle.jfluid_cli.specs.Words.{Command, words_accepted, asks_images, budget_of, command_of, file_words, is_generated, plan_word, words_in}
use Rattle.jfluid_cli.proofs.Runs.Carried.{carried-before_the_run, files-said, memory-refused, plan-said}
use Rattle.jfluid_cli.proofs.Runs.BeforeTheRun.{due-words, no-fault}
use Rattle.jfluid_cli.proofs.Reports.Fixed.{admitted-command, admitted-contents, plan-told, by-status, read-or, accepted-or, two-refused, not-rooted, not-named, tells, three-refused, program-told, not-unfit, long-told, not-long, kept-input, kept-short, kept-program}
use Rattle.jfluid_cli.proofs.Commands.OneCommand.{commanded, not-misplanned, tells-plan}
use Rattle.jfluid_cli.proofs.Actions.Rootless.{rootless-unfit, three-rootless}
use Rattle.jfluid_cli.proofs.Files.Spelled.{one-spelling}
use Rattle.jfluid_cli.proofs.Runs.Complete.{without_fault_not_rose, ends_as, ending_of_same, one-program}

-- ---- what is kept

-- its budget is the command's
kept-budget : (c : Call) (k : Kept) (o : HasOrigin (given_of c) k)
    → budget_of (words_of c) k.plan ≡ o.command.budget
kept-budget c k o =
    ap (λ (x : Option Command). option_map_or (λ (y : Command). y.budget) x 0)
    (ap (λ (p : Plan). command_of (words_of c) p) o.plan ∙ commanded (given_of c) o.command o.accepts)

kept-command : (c : Call) (k : Kept) (p : Program) (o : HasOrigin (given_of c) k) (a : IsAccepted (given_of c) p)
    → o.command ≡ a.admitted.command
kept-command c k p o a =
    admitted-command (given_of c) o.command p o.accepts a.admitted

kept-ends : (c : Call) (k : Kept) (p : Program) (budget : ℕ) → HasOrigin (given_of c) k → IsOnlyProgram k
    → (a : IsAccepted (given_of c) p) → ending_at k.session.value budget ≡ ending_of (world_on p a.input) budget
kept-ends c k p budget o alone a =
    let d = a.admitted in
    let same : o.command ≡ d.command = kept-command c k p o a in
    let one : k.classes ≡ d.contents = admitted-contents (given_of c) o.command p k.classes d same o.told_as in
    let own : List ClassFile = classes_for k.classes k.session.value.program in
    let is : IsProgram (asked_by d.command) k.classes p =
    subst (λ (xs : List (List ℕ)). IsProgram (asked_by d.command) xs p) (sym one) d.program_is in
    let classes : classes_for k.classes p ≡ own =
    one-spelling k.classes own (classes_for k.classes p) alone is.files in
    ending_of_same k.session.value.program p k.session.value.input a.input budget
    (one-program (answer_for (asked_by d.command) own) k.session.value.program p
    (subst (λ (x : Command). answer_for (asked_by x) own ≡ Ok k.session.value.program) same o.program.admitted)
    (subst (λ (cs : List ClassFile). answer_for (asked_by d.command) cs ≡ Ok p) classes is.admitted))
    (kept-input (given_of c) k a.input o a.input_is)

-- something is kept
held : (o : Option Kept) (P Q : Kept → Type 0) → IsSome o → IfSome o P → IfSome o Q → (k : Kept)
    × P k × Q k
held None P Q some p q = absurd (false≢true some)
held (Some k) P Q some p q = (k, p, q)

held-and : (o : Option Kept) (P Q R : Kept → Type 0) → IsSomeAnd o R → IfSome o P → IfSome o Q
    → (k : Kept) × P k × Q k × R k
held-and None P Q R some p q = absurd some
held-and (Some k) P Q R some p q = (k, p, q, some)

-- ---- a run

reported-reached : (c : Call) (status : ℕ) (k : Kept) → IsRunAsked (words_of c) c.old c.new status k → AllWithoutFault c
    → IsReported (is_generated (words_of c)) k.session.value c.old.report c.new.report status
    → status ≡ status_of_ending (ending_at k.session.value (budget_of (words_of c) k.plan))
reported-reached c status k ran without_fault reported = elim (cases_eq status 8) [
  | inl eight ↦ absurd (without_fault_not_rose c.old.report.faults c.new.report.faults
      without_fault.report (reported.not_reported eight))
  | inr other ↦ reported.ending other
      ∙ ap status_of_ending
      (ends_as k.session.value (budget_of (words_of c) k.plan) c.old.out.taken c.new.out.taken
      ran.output)
]

-- its status is that of the ending at the budget
run-reached : (c : Call) (status : ℕ) (k : Kept) → IsRunAsked (words_of c) c.old c.new status k → AllWithoutFault c
    → status ≡ status_of_ending (ending_at k.session.value (budget_of (words_of c) k.plan))
run-reached c status k ran without_fault = elim ran.shown [
  | inl (imaged, reported) ↦ reported-reached c status k ran without_fault reported
  | inr (eight, unimaged, untold) ↦ absurd (without_fault_not_rose c.old.images.faults c.new.images.faults
      without_fault.images unimaged.failed)
]

run-complete : (c : Call) (status : ℕ) (k : Kept) (p : Program)
    → HasOrigin (given_of c) k → IsOnlyProgram k → IsRunAsked (words_of c) c.old c.new status k
    → (a : IsAccepted (given_of c) p) → AllWithoutFault c
    → status ≡ status_of_ending (ending_of (world_on p a.input) a.admitted.command.budget)
run-complete c status k p o alone ran a without_fault =
    let budget : ℕ = budget_of (words_of c) k.plan in
    let same : budget ≡ a.admitted.command.budget =
    kept-budget c k o ∙ ap (λ (x : Command). x.budget) (kept-command c k p o a) in
    run-reached c status k ran without_fault
    ∙ ap status_of_ending
    (kept-ends c k p budget o alone a ∙ ap (λ (n : ℕ). ending_of (world_on p a.input) n) same)

-- so of whatever is kept
each-kept : (o : Option Kept) (R P : Kept → Type 0) → IsSomeAnd o R → ((k : Kept) → R k → P k) → IfSome o P
each-kept None R P has by = tt
each-kept (Some k) R P has by = by k has

every-kept : (o : Option Kept) (P : Kept → Type 0) → ((k : Kept) → P k) → IfSome o P
every-kept None P by = tt
every-kept (Some k) P by = by k

-- its status is that of a run
shown-known : (summary asked : Bool) (v : Profiling) (i j r q : SinkView) (status : ℕ) → IsShown summary asked v i j r q status
    → is_status status ≡ true
shown-known summary asked v i j r q status (inl (imaged, reported)) = reported.known
shown-known summary asked v i j r q status (inr (eight, unimaged, untold)) = ap is_status eight

shown-run : (summary asked : Bool) (v : Profiling) (i j r q : SinkView) (status : ℕ) → IsShown summary asked v i j r q status
    → is_run status ≡ true
shown-run summary asked v i j r q status (inl (imaged, reported)) = reported.is_one
shown-run summary asked v i j r q status (inr (eight, unimaged, untold)) = ap is_run eight

pub answered-run : (c : Call) (status : ℕ) → (IsErr c.words → ⊥) → IsCarried c (Ok status) → IsAnswered c status
answered-run c status heard carried =
    let g = given_of c in
    let k = held-and c.kept (HasOrigin g) IsOnlyProgram (IsRunAsked (words_of c) c.old c.new status)
    carried.ran.made carried.always.origin carried.always.only in
    let o : HasOrigin g k.0 = k.1 in
    let summary = is_generated (words_of c) in
    let asked = asks_images (words_of c) in
    let run : is_run status ≡ true =
    shown-run summary asked k.0.session.value c.old.images c.new.images c.old.report c.new.report status k.3.shown in
    record {
      always = carried.always;
      known = shown-known summary asked k.0.session.value c.old.images c.new.images c.old.report c.new.report status
          k.3.shown;
      ran = λ _. carried.ran;
      refused = λ not_run. absurd (false≢true (sym not_run ∙ run));
      unheard = λ none. absurd (heard none);
      words_only = λ none. absurd (none-some o.accepts.words (sym none ∙ o.accepts.read));
      root_only = λ bad. absurd (not-rooted g o.command bad o.accepts);
      plan_only = λ bad without_fault. absurd
          (not-misplanned g bad.words o.command (tells-plan g.told bad.words.plan bad.telling) bad.read bad.misplanned o.accepts);
      file_only = λ unfit without_fault. absurd (not-unfit g (kept-program g k.0 o) unfit);
      rootless = λ own three. absurd (false≢true (ap is_run (sym three) ∙ run));
      rootless_only = λ none some without_fault. absurd
          (not-unfit g (kept-program g k.0 o) (rootless-unfit g none some));
      input_only = λ long without_fault input_without_fault. absurd (kept-short g k.0 o long);
      made = λ without_fault. each-kept c.kept (IsRunAsked (words_of c) c.old c.new status) (IsEndingOf c status)
          carried.ran.made (λ kept ran. inl (run-reached c status kept ran without_fault));
      complete = λ p a without_fault. inl (run-complete c status k.0 p o k.2 k.3 a without_fault);
    }

-- ---- a refusal

words-only : (c : Call) (r : Refusal) → IsRefused c r → words_accepted (words_of c) ≡ None
    → (status_of r ≡ 2) ⊎ (status_of r ≡ 9)
words-only c r refused none = elim (read-or (given_of c) r refused.cause) [
  | inl before_the_run ↦ before_the_run
  | inr read ↦ absurd (none-some read.0 (sym none ∙ read.1))
]

root-only : (c : Call) (r : Refusal) → IsRefused c r → OfWords (given_of c) HasBadRoot
    → (status_of r ≡ 2) ⊎ (status_of r ≡ 9)
root-only c r refused bad = elim (accepted-or (given_of c) r refused.cause) [
  | inl before_the_run ↦ before_the_run
  | inr late ↦ elim late [
    | inl fetch ↦ absurd (not-named (given_of c) r bad refused.cause fetch)
    | inr with_plan ↦ absurd (not-rooted (given_of c) with_plan.0 bad with_plan.1)
  ]
]

without_fault-fetch : (c : Call) (r : Refusal) → IsRefused c r → FilesWithoutFault c → status_of r ≡ 7 → ⊥
without_fault-fetch c r refused without_fault seven =
    without_fault_not_rose c.old.files.faults c.new.files.faults without_fault (refused.not_fetched seven)

plan-only : (c : Call) (r : Refusal) → IsRefused c r → HasBadPlan (given_of c) → FilesWithoutFault c
    → (status_of r ≡ 2) ⊎ (status_of r ≡ 9)
plan-only c r refused bad without_fault = elim (accepted-or (given_of c) r refused.cause) [
  | inl before_the_run ↦ before_the_run
  | inr late ↦ elim late [
    | inl fetch ↦ absurd (without_fault-fetch c r refused without_fault (ap status_of fetch))
    | inr with_plan ↦ absurd (not-misplanned (given_of c) bad.words with_plan.0 (tells-plan c.old.told bad.words.plan bad.telling) bad.read
        bad.misplanned with_plan.1)
  ]
]

file-only : (c : Call) (r : Refusal) → IsRefused c r → IsUnfit (given_of c) → FilesWithoutFault c
    → (status_of r ≡ 3) ⊎ (status_of r ≡ 9)
file-only c r refused unfit without_fault =
    let g = given_of c in
    by-status r ((status_of r ≡ 3) ⊎ (status_of r ≡ 9))
    (λ two. absurd (two-refused g r unfit.command refused.cause two unfit.accepts
    (tells-plan c.old.told unfit.accepts.words.plan (tells c.old.told unfit.files unfit.telling))))
    (λ three. inl three)
    (λ five. absurd (not-unfit g (program-told g r refused.cause (subst is_late (sym five) refl)) unfit))
    (λ six. absurd (not-unfit g (program-told g r refused.cause (subst is_late (sym six) refl)) unfit))
    (λ seven. absurd (without_fault-fetch c r refused without_fault seven))
    (λ nine. inr nine)
    (λ eleven. absurd (not-unfit g (program-told g r refused.cause (subst is_late (sym eleven) refl)) unfit))
  where
    is_late : ℕ → Type 0
    is_late s = is_one_of (5 ∷ 6 ∷ 11 ∷ []) s ≡ true

input-only : (c : Call) (r : Refusal) → IsTrueOf c → IsRefused c r → HasLongInput (given_of c) → FilesWithoutFault c
    → InputWithoutFault c → (status_of r ≡ 11) ⊎ (status_of r ≡ 9)
input-only c r always refused long without_fault input_without_fault =
    let g = given_of c in
    let d = long.admitted in
    by-status r ((status_of r ≡ 11) ⊎ (status_of r ≡ 9))
    (λ two. absurd (two-refused g r d.command refused.cause two d.accepts
    (plan-told c.old.told d.accepts.words.plan d.command.generated d.telling)))
    (λ three. absurd (three-refused g r long.program refused.cause three d))
    (λ five. absurd (without_fault_not_rose c.old.input.faults c.new.input.faults input_without_fault (refused.not_taken five)))
    (λ six. let k = held c.kept (HasOrigin g) IsOnlyProgram (refused.made six) always.origin always.only in
    absurd (kept-short g k.0 k.1 long))
    (λ seven. absurd (without_fault-fetch c r refused without_fault seven))
    (λ nine. inr nine)
    (λ eleven. inl eleven)

refused-complete : (c : Call) (r : Refusal) (p : Program) → IsRefused c r → IsAccepted (given_of c) p
    → AllWithoutFault c → status_of r ≡ 9
refused-complete c r p refused a without_fault =
    let g = given_of c in
    let d = a.admitted in
    by-status r (status_of r ≡ 9)
    (λ two. absurd (two-refused g r d.command refused.cause two d.accepts
    (plan-told c.old.told d.accepts.words.plan d.command.generated d.telling)))
    (λ three. absurd (three-refused g r p refused.cause three d))
    (λ five. absurd (without_fault_not_rose c.old.input.faults c.new.input.faults without_fault.input (refused.not_taken five)))
    (λ six. absurd (without_fault_not_rose c.old.out.faults c.new.out.faults without_fault.out
    (refused.stopped six)))
    (λ seven. absurd (without_fault-fetch c r refused without_fault.files seven))
    (λ nine. nine)
    (λ eleven. absurd (not-long g p (long-told g r refused.cause eleven) a))

-- something is kept where the output failed, or perhaps where memory ran out
refused-reached : (c : Call) (r : Refusal) (status : ℕ) → status ≡ status_of r → IsRefused c r → AllWithoutFault c
    → IfSome c.kept (IsEndingOf c status)
refused-reached c r status is refused without_fault =
    by-status r (IfSome c.kept (IsEndingOf c status))
    (λ two. unkept (refused.refused (ap is_refused two)))
    (λ three. unkept (refused.refused (ap is_refused three)))
    (λ five. unkept (refused.refused (ap is_refused five)))
    (λ six. absurd (without_fault_not_rose c.old.out.faults c.new.out.faults without_fault.out
    (refused.stopped six)))
    (λ seven. unkept (refused.refused (ap is_refused seven)))
    (λ nine. every-kept c.kept (IsEndingOf c status) (λ k. inr (is ∙ nine)))
    (λ eleven. unkept (refused.refused (ap is_refused eleven)))
  where
    unkept : c.kept ≡ None → IfSome c.kept (IsEndingOf c status)
    unkept none = subst (λ (o : Option Kept). IfSome o (IsEndingOf c status)) (sym none) tt

no-run : (r : Refusal) → is_run (status_of r) ≡ true → ⊥
no-run r run =
    by-status r ⊥ (other 2 refl) (other 3 refl) (other 5 refl) (other 6 refl) (other 7 refl) (other 9 refl)
    (other 11 refl)
  where
    other : (n : ℕ) → is_run n ≡ false → status_of r ≡ n → ⊥
    other n none same = false≢true (sym none ∙ (ap is_run (sym same) ∙ run))

one-status : (r : Refusal) → is_status (status_of r) ≡ true
one-status r =
    by-status r (is_status (status_of r) ≡ true) (one 2 refl) (one 3 refl) (one 5 refl) (one 6 refl)
    (one 7 refl) (one 9 refl) (one 11 refl)
  where
    one : (n : ℕ) → is_status n ≡ true → status_of r ≡ n → is_status (status_of r) ≡ true
    one n known same = ap is_status same ∙ known

answered-refusal : (c : Call) (r : Refusal) (status : ℕ) → (IsErr c.words → status ≡ 9)
    → status ≡ status_of r → IsTrueOf c → IsRefused c r → PutsLine c r → IsAnswered c status
answered-refusal c r status unheard is always refused line = record {
  always = always;
  known = ap is_status is ∙ one-status r;
  ran = λ run. absurd (no-run r (ap is_run (sym is) ∙ run));
  refused = λ _. (r, is, refused, line);
  unheard = unheard;
  words_only = λ none. same-status 2 (words-only c r refused none);
  root_only = λ bad. same-status 2 (root-only c r refused bad);
  plan_only = λ bad without_fault. same-status 2 (plan-only c r refused bad without_fault);
  file_only = λ unfit without_fault. same-status 3 (file-only c r refused unfit without_fault);
  rootless = λ own three. three-rootless (given_of c) r refused.cause (sym is ∙ three) own;
  rootless_only = λ none some without_fault. same-status 3
      (file-only c r refused (rootless-unfit (given_of c) none some) without_fault);
  input_only = λ long without_fault input_without_fault. same-status 11 (input-only c r always refused long without_fault input_without_fault);
  made = λ without_fault. refused-reached c r status is refused without_fault;
  complete = λ p a without_fault. inr (is ∙ refused-complete c r p refused a without_fault);
}
  where
    same-status : (n : ℕ) → (status_of r ≡ n) ⊎ (status_of r ≡ 9) → (status ≡ n) ⊎ (status ≡ 9)
    same-status n known = subst (λ (s : ℕ). (s ≡ n) ⊎ (s ≡ 9)) (sym is) known

-- ---- the line

-- the call once the line was put
abbrev pub told-after : Call → SinkView → Call
told-after c after = record c { new = record c.new { report = after } }

put-line : (old mid new : SinkView) (said wanted : List ℕ) → IsUntold old mid → said ≡ wanted
    → PutsOrRose mid new said → PutsOrRose old new wanted
put-line old mid new said wanted untold is puts =
    let here : PutsOrRose old new said = record {
      prefix = subst (λ (o : Option (List ℕ)). PutsPrefix o new.taken said) untold.taken puts.prefix;
      whole = elim puts.whole [
        | inl all ↦ inl (subst (λ (o : Option (List ℕ)). PutsAll o new.taken said) untold.taken all)
        | inr rose ↦ inr (subst (λ (n : ℕ). Rose n new.faults) untold.faults rose)
      ];
    } in
    subst (PutsOrRose old new) is here

pub answered-told : (c : Call) (after : SinkView) (r told : Refusal) (status : ℕ) (said : List ℕ)
    → (IsErr c.words → status ≡ 9) → IsCarried c (Err r) → (told ≡ r) ⊎ (told ≡ NoMemory)
    → status ≡ status_of told
    → said ≡ refusal_line told (plan_word (words_of c)) (file_words (words_of c))
    → PutsOrRose c.new.report after said → IsAnswered (told-after c after) status
answered-told c after r told status said unheard carried was is named puts =
    let d : Call = told-after c after in
    let first : IsRefused d r = record {
      cause = carried.refused.cause;
      refused = carried.refused.refused;
      made = carried.refused.made;
      untaken = carried.refused.untaken;
      one_more = carried.refused.one_more;
      taken = carried.refused.taken;
      fetches = carried.refused.fetches;
      not_taken = carried.refused.not_taken;
      stopped = carried.refused.stopped;
      cut = carried.refused.cut;
      unshown = carried.refused.unshown;
      not_fetched = carried.refused.not_fetched;
      plan_name = carried.refused.plan_name;
      name = carried.refused.name;
      without_fault = carried.refused.without_fault;
      input_without_fault = carried.refused.input_without_fault;
    } in
    answered-refusal d told status unheard is
    (record {
      origin = carried.always.origin;
      only = carried.always.only;
      rest = carried.always.rest;
      prefix = carried.always.prefix;
      ended = carried.always.ended;
      nothing = carried.always.nothing;
      images = carried.always.images;
      unasked = carried.always.unasked;
      unimaged = carried.always.unimaged;
      held = carried.always.held;
    })
    (elim was [
      | inl same ↦ subst (IsRefused d) (sym same) first
      | inr memory ↦ subst (IsRefused d) (sym memory) (memory-refused d carried.refused.fetches)
    ])
    (put-line c.old.report c.new.report after said
    (refusal_line told (plan_word (words_of c)) (file_words (words_of c))) carried.untold named puts)

-- a line that calls nothing by its word
pub nameless-told : (r told : Refusal) → IsNameless r → (told ≡ r) ⊎ (told ≡ NoMemory) → IsNameless told
nameless-told r told nameless (inl same) = subst IsNameless (sym same) nameless
nameless-told r told nameless (inr memory) = subst IsNameless (sym memory) (λ a b xs ys. refl)

-- ---- the words

-- no fetch is refused so
not-seven : (words : List (List ℕ)) (r : Refusal) → IsWordsRefusal words r → status_of r ≡ 7 → ⊥
not-seven words PlanNotFetched is seven = is
not-seven words (NotFetched at) is seven = is
not-seven words (Clap text) is seven = absurd cc
not-seven words Words is seven = absurd cc
not-seven words (BadPlan fault) is seven = absurd cc
not-seven words (NotRead at fault) is seven = absurd cc
not-seven words (NotAdmitted fault) is seven = absurd cc
not-seven words InputFailed is seven = absurd cc
not-seven words OutFailed is seven = absurd cc
not-seven words NoMemory is seven = absurd cc
not-seven words InputTooLong is seven = absurd cc

-- a call that was refused for its words
pub answered-words : (words : Result (List (List ℕ)) OutOfMemory) (devices : DevicesView) (after : SinkView)
    (kept : Option Kept) (r told : Refusal) (status : ℕ)
    → kept ≡ None → IsWordsRefusal (words_in words) r → IsNameless r → (IsErr words → told ≡ NoMemory)
    → (told ≡ r) ⊎ (told ≡ NoMemory) → status ≡ status_of told
    → PutsOrRose devices.report after (refusal_line told None [])
    → IsAnswered (told-after (call_of words devices devices kept) after) status
answered-words words devices after kept r told status none why nameless unheard was is puts =
    let c : Call = call_of words devices devices kept in
    answered-told c after r told status (refusal_line told None []) (λ e. is ∙ ap status_of (unheard e))
    (carried-before_the_run c r none (record { taken = refl; faults = refl }) (record { taken = refl; faults = refl })
    (record { taken = refl; faults = refl }) refl
    (due-words (given_of c) r why)
    (no-fault (plan_word (words_in words)) (file_words (words_in words)) devices.files devices.files r r refl refl
    (not-seven (words_in words) r why)))
    was is (nameless-told r told nameless was None (plan_word (words_in words)) [] (file_words (words_in words))) puts

-- what a line calls by words is called as the accepted words say
pub called-line : (words : List (List ℕ)) (r : Read) (told : Refusal) (names : List (List ℕ)) → words_accepted words ≡ Some r
    → names ≡ r.files → refusal_line told r.plan names ≡ refusal_line told (plan_word words) (file_words words)
called-line words r told names read same =
    ap (refusal_line told r.plan) (same ∙ files-said words r read)
    ∙ ap (λ (named : Option (List ℕ)). refusal_line told named (file_words words)) (plan-said words r read)
