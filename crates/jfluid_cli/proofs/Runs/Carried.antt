-- What a call leaves before a refusal's line is put.
use Rattle.std.proofs.Common.{◌≡◌, ℕ, ◌≤◌, Bool, true, false, List, [], length, Option, Some, None, refl, sym, ap, subst, ◌∙◌, inl, inr, arith}
use Rattle.std.specs.Prelude.{Result, Ok, Err, is_some, IfSome, IsSome, IsSomeAnd, MatchResult}
use Rattle.std.specs.Io.KnownBytes.{Consumes, IsAtEnd}
use Rattle.std.specs.Option.{option_map_or, option_and_then}
use Rattle.std.proofs.lemmas.Bool.{false≢true}
use Rattle.byte_streams.specs.Streams.{PutsPrefix}
use Rattle.plan_text.specs.declared.plan.Plan.{Plan}
use Rattle.jvm_model.specs.declared.program.Program.{Program}
use Rattle.jvm_model.specs.Running.Run.{output_of}
use Rattle.profile_session.specs.Sessions.{Profiling}
use Rattle.command_line.specs.Input.{TakesAtMost, most_input, most_taken}
use Rattle.command_line.specs.Words.{Read}
use Rattle.jfluid_cli.specs.declared.kept.Kept.{Kept}
use Rattle.jfluid_cli.specs.declared.refusal.Refusal.{Refusal}
use Rattle.jfluid_cli.specs.declared.refusal.Refusal.TheVariants.{Clap, Words, Plan as BadPlan, NotRead, NotAdmitted, InputFailed, OutFailed, PlanNotFetched, NotFetched, NoMemory, InputTooLong}
use Rattle.jfluid_cli.specs.Calls.{Call, given_of, words_of, IsRun, IsRunAsked, IsTrueOf, IsRefused, PutsImages}
use Rattle.jfluid_cli.specs.Asking.{asked_by}
use Rattle.jfluid_cli.specs.Causes.{CallInputs, AreContentsOf, OfProgram}
use Rattle.jfluid_cli.specs.Sinks.{DevicesView, FilesView, SourceView, FailsOnce, IsUntold}
use Rattle.jfluid_cli.specs.Contents.{SpellAlone, classes_for}
use Rattle.jfluid_cli.specs.Stages.{IsBeforeTheRun, IsInputRefusal, IsPrepared, HasFetchCause, is_before_the_run, IsStopped, IsSameRun, IsCarried}
use Rattle.jfluid_cli.specs.Origins.{HasOrigin, IsOnlyProgram}
use Rattle.jfluid_cli.specs.Refusals.{status_of}
use Rattle.jfluid_cli.specs.Runs.{PutsAtMost, RunsProgram, SameProgram, IsCarriedOut, IsCutOff, output_at, world_on}
use Rattle.jfluid_cli.specs.Top.{IsProgram}
use Rattle.jfluid_cli.specs.Words.{Command, words_accepted, asks_images, budget_of, command_of, file_words, is_generated, plan_word}
use Rattle.command_line.proofs.Rests.{rest-of-long, rest-untaken, rest-within}
use Rattle.jfluid_cli.proofs.Commands.OneCommand.{commanded}

-- ---- where nothing is made

-- nothing is kept, so nothing has to be said of it
pub nothing-made : (c : Call) → c.kept ≡ None → IsUntold c.old.out c.new.out
    → IsUntold c.old.images c.new.images → TakesAtMost most_taken c.old.input.left c.new.input.left
    → IsTrueOf c
nothing-made c none out images rest = record {
  origin = subst (λ (o : Option Kept). IfSome o (HasOrigin (given_of c))) (sym none) tt;
  only = subst (λ (o : Option Kept). IfSome o IsOnlyProgram) (sym none) tt;
  prefix = subst (λ (o : Option Kept). IfSome o
      (λ k. PutsAtMost k.session.value (budget_of (words_of c) k.plan) c.old.out.taken c.new.out.taken))
      (sym none) tt;
  rest = rest;
  ended = λ some. absurd (false≢true (subst (λ (o : Option Kept). IsSome o) none some));
  nothing = λ _. out;
  images = subst (λ (o : Option Kept). IfSome o (λ k. PutsImages (asks_images (words_of c)) k.session.value c.old c.new))
      (sym none) tt;
  unasked = λ _. images;
  unimaged = λ _. images;
  held = subst (λ (o : Option Kept). IfSome o (λ k. k.session.value.stale ≡ false)) (sym none) tt;
}

other-before_the_run : (s n : ℕ) → is_before_the_run n ≡ false → is_before_the_run s ≡ true → s ≡ n → ⊥
other-before_the_run s n late before_the_run same = false≢true (sym late ∙ (ap is_before_the_run (sym same) ∙ before_the_run))

-- ---- before the input is taken

-- a fetch failed exactly where the refusal says it
pub fetches-of : (named : Option (List ℕ)) (files : List (List ℕ)) (old new : FilesView) (r : Refusal)
    → HasFetchCause named files old new r → FailsOnce named files old new
fetches-of named files old new PlanNotFetched cause =
    inr (record { rose = cause.failed refl; name = inl (cause.plan_is refl) })
fetches-of named files old new (NotFetched at) cause =
    inr (record { rose = cause.failed refl; name = inr (at, cause.name_is at refl) })
fetches-of named files old new (Clap text) cause = inl (cause.without_fault (λ seven. absurd cc))
fetches-of named files old new Words cause = inl (cause.without_fault (λ seven. absurd cc))
fetches-of named files old new (BadPlan fault) cause = inl (cause.without_fault (λ seven. absurd cc))
fetches-of named files old new (NotRead at fault) cause = inl (cause.without_fault (λ seven. absurd cc))
fetches-of named files old new (NotAdmitted fault) cause = inl (cause.without_fault (λ seven. absurd cc))
fetches-of named files old new InputFailed cause = inl (cause.without_fault (λ seven. absurd cc))
fetches-of named files old new OutFailed cause = inl (cause.without_fault (λ seven. absurd cc))
fetches-of named files old new NoMemory cause = inl (cause.without_fault (λ seven. absurd cc))
fetches-of named files old new InputTooLong cause = inl (cause.without_fault (λ seven. absurd cc))

pub refused-before_the_run : (c : Call) (r : Refusal) → c.kept ≡ None → c.new.input ≡ c.old.input → IsBeforeTheRun (given_of c) r
    → HasFetchCause (plan_word (words_of c)) (file_words (words_of c)) c.old.files c.new.files r
    → IsRefused c r
refused-before_the_run c r none input before_the_run fetch = record {
  cause = before_the_run.cause;
  refused = λ _. none;
  made = λ six. absurd (other-before_the_run (status_of r) 6 refl before_the_run.before_the_run six);
  untaken = λ _. input;
  one_more = λ eleven. absurd (other-before_the_run (status_of r) 11 refl before_the_run.before_the_run eleven);
  taken = λ five. absurd (other-before_the_run (status_of r) 5 refl before_the_run.before_the_run five);
  fetches = fetches-of (plan_word (words_of c)) (file_words (words_of c)) c.old.files c.new.files r fetch;
  not_taken = λ five. absurd (other-before_the_run (status_of r) 5 refl before_the_run.before_the_run five);
  stopped = λ six. absurd (other-before_the_run (status_of r) 6 refl before_the_run.before_the_run six);
  cut = λ six. absurd (other-before_the_run (status_of r) 6 refl before_the_run.before_the_run six);
  unshown = λ six. absurd (other-before_the_run (status_of r) 6 refl before_the_run.before_the_run six);
  not_fetched = fetch.failed;
  plan_name = fetch.plan_is;
  name = fetch.name_is;
  without_fault = λ other nine. fetch.without_fault other;
  input_without_fault = λ other nine. ap (λ (s : SourceView). s.faults) input;
}

pub carried-before_the_run : (c : Call) (r : Refusal) → c.kept ≡ None
    → IsUntold c.old.out c.new.out → IsUntold c.old.report c.new.report
    → IsUntold c.old.images c.new.images → c.new.input ≡ c.old.input → IsBeforeTheRun (given_of c) r
    → HasFetchCause (plan_word (words_of c)) (file_words (words_of c)) c.old.files c.new.files r
    → IsCarried c (Err r)
carried-before_the_run c r none out report images input before_the_run fetch = record {
  always = nothing-made c none out images (subst (λ (s : SourceView). TakesAtMost most_taken c.old.input.left s.left) (sym input)
      (rest-untaken most_taken c.old.input.left));
  ran = tt;
  refused = refused-before_the_run c r none input before_the_run fetch;
  untold = report;
}

-- the files are called as the words say
pub files-said : (words : List (List ℕ)) (r : Read) → words_accepted words ≡ Some r → r.files ≡ file_words words
files-said words r e = sym (ap (λ (o : Option Read). option_map_or (λ (x : Read). x.files) o []) e)

pub plan-said : (words : List (List ℕ)) (r : Read) → words_accepted words ≡ Some r → r.plan ≡ plan_word words
plan-said words r e = sym (ap (option_and_then (λ (x : Read). x.plan)) e)

-- refused behind accepted words
pub carried-refused : (c : Call) (words : Read) (r : Refusal) → words_accepted (words_of c) ≡ Some words
    → c.kept ≡ None → IsUntold c.old.out c.new.out
    → IsUntold c.old.report c.new.report → IsUntold c.old.images c.new.images
    → c.new.input ≡ c.old.input → IsBeforeTheRun (given_of c) r → HasFetchCause words.plan words.files c.old.files c.new.files r
    → IsCarried c (Err r)
carried-refused c words r read none out report images input before_the_run fetch =
    carried-before_the_run c r none out report images input before_the_run
    (subst (λ (named : Option (List ℕ)). HasFetchCause named (file_words (words_of c)) c.old.files c.new.files r)
    (plan-said (words_of c) words read)
    (subst (λ (names : List (List ℕ)). HasFetchCause words.plan names c.old.files c.new.files r)
    (files-said (words_of c) words read) fetch))

-- ---- want of memory

pub memory-refused : (c : Call) → FailsOnce (plan_word (words_of c)) (file_words (words_of c)) c.old.files c.new.files
    → IsRefused c NoMemory
memory-refused c fetches = record {
  cause = tt;
  refused = λ before_the_run. absurd (false≢true before_the_run);
  made = λ six. absurd cc;
  untaken = λ before_the_run. absurd (false≢true before_the_run);
  one_more = λ eleven. absurd cc;
  taken = λ five. absurd cc;
  fetches = fetches;
  not_taken = λ five. absurd cc;
  stopped = λ six. absurd cc;
  cut = λ six. absurd cc;
  unshown = λ six. absurd cc;
  not_fetched = λ seven. absurd cc;
  plan_name = λ is. absurd (let e : ◌≡◌ {A = ℕ} 9 7 = ap status_of is in cc);
  name = λ at is. absurd (let e : ◌≡◌ {A = ℕ} 9 7 = ap status_of is in cc);
  without_fault = λ seven other. absurd (other refl);
  input_without_fault = λ five other. absurd (other refl);
}

pub carried-memory : (c : Call) → c.kept ≡ None → IsUntold c.old.out c.new.out
    → IsUntold c.old.report c.new.report → IsUntold c.old.images c.new.images
    → c.new.files ≡ c.old.files → TakesAtMost most_taken c.old.input.left c.new.input.left → IsCarried c (Err NoMemory)
carried-memory c none out report images without_fault rest = record {
  always = nothing-made c none out images rest;
  ran = tt;
  refused = memory-refused c (inl without_fault);
  untold = report;
}

-- ---- the input

-- what was prepared is a program
pub of-program : (g : CallInputs) (plan : Plan) (budget : ℕ) (contents : List (List ℕ)) (program : Program)
    → IsPrepared g plan budget contents program → OfProgram g
of-program g plan budget contents program is = record {
  command = is.command;
  accepts = is.accepts;
  contents = contents;
  told_as = is.loaded.told_as;
  holds = (program, is.loaded.program_is);
}

not-one : (r s : Refusal) (n : ℕ) → r ≡ s → (status_of s ≡ n → ⊥) → status_of r ≡ n → ⊥
not-one r s n is other same = other (sym (ap status_of is) ∙ same)

-- an input within the limit was taken whole
pub rest-of-input : (old new : Option (List ℕ)) (bytes : List ℕ) → length bytes ≤ most_input → Consumes old new bytes
    → TakesAtMost most_taken old new
rest-of-input old new bytes short taken = record { bytes = bytes; few = omega (arith, short); taken = taken }

input-rest : (old new : SourceView) (r : Refusal) → IsInputRefusal old new r → TakesAtMost most_taken old.left new.left
input-rest old new r (inl (failed, rose, takes)) = rest-within old.left new.left takes
input-rest old new r (inr (inl (failed, long, more, same))) = rest-of-long old.left new.left more
input-rest old new r (inr (inr (memory, same, takes))) = takes

refused-input : (c : Call) (r : Refusal) → c.kept ≡ None → c.new.files ≡ c.old.files
    → OfProgram (given_of c) → IsInputRefusal c.old.input c.new.input r → IsRefused c r
refused-input c r none without_fault of (inl (failed, rose, takes)) = subst (IsRefused c) (sym failed) (record {
  cause = of;
  refused = λ _. none;
  made = λ six. absurd cc;
  untaken = λ before_the_run. absurd (false≢true before_the_run);
  one_more = λ eleven. absurd cc;
  taken = λ _. takes;
  fetches = inl without_fault;
  not_taken = λ _. rose;
  stopped = λ six. absurd cc;
  cut = λ six. absurd cc;
  unshown = λ six. absurd cc;
  not_fetched = λ seven. absurd cc;
  plan_name = λ is. absurd (let e : ◌≡◌ {A = ℕ} 5 7 = ap status_of is in cc);
  name = λ at is. absurd (let e : ◌≡◌ {A = ℕ} 5 7 = ap status_of is in cc);
  without_fault = λ seven nine. without_fault;
  input_without_fault = λ five nine. absurd (five refl);
})
refused-input c r none without_fault of (inr (inl (failed, long, more, same))) = subst (IsRefused c) (sym failed) (record {
  cause = (of, long);
  refused = λ _. none;
  made = λ six. absurd cc;
  untaken = λ before_the_run. absurd (false≢true before_the_run);
  one_more = λ _. more;
  taken = λ five. absurd cc;
  fetches = inl without_fault;
  not_taken = λ five. absurd cc;
  stopped = λ six. absurd cc;
  cut = λ six. absurd cc;
  unshown = λ six. absurd cc;
  not_fetched = λ seven. absurd cc;
  plan_name = λ is. absurd (let e : ◌≡◌ {A = ℕ} 11 7 = ap status_of is in cc);
  name = λ at is. absurd (let e : ◌≡◌ {A = ℕ} 11 7 = ap status_of is in cc);
  without_fault = λ seven nine. without_fault;
  input_without_fault = λ five nine. same;
})
refused-input c r none without_fault of (inr (inr (memory, same, takes))) =
    subst (IsRefused c) (sym memory) (memory-refused c (inl without_fault))

pub carried-input : (c : Call) (r : Refusal) → c.kept ≡ None
    → IsUntold c.old.out c.new.out → IsUntold c.old.report c.new.report
    → IsUntold c.old.images c.new.images
    → c.new.files ≡ c.old.files → OfProgram (given_of c)
    → IsInputRefusal c.old.input c.new.input r → IsCarried c (Err r)
carried-input c r none out report images without_fault of why = record {
  always = nothing-made c none out images (input-rest c.old.input c.new.input r why);
  ran = tt;
  refused = refused-input c r none without_fault of why;
  untold = report;
}

-- ---- behind a session

some-kept : (o : Option Kept) (P : Kept → Type 0) → IsSomeAnd o P → (k : Kept) × (o ≡ Some k) × P k
some-kept None P has = absurd has
some-kept (Some k) P has = (k, refl, has)

outputs-same : (v w : Profiling) (n m : ℕ) → SameProgram v w → n ≡ m → output_at v n ≡ output_at w m
outputs-same v w n m same at =
    ap (λ (p : Program). output_of (world_on p v.input) n) (sym same.program)
    ∙ (ap (λ (i : List ℕ). output_of (world_on w.program i) n) (sym same.input)
    ∙ ap (output_at w) at)

-- what is known of a session that was made of a program on these bytes
pub record IsMade (c : Call) (budget : ℕ) (made : Kept) : Type 0 where
  pub program : Program
  pub bytes : List ℕ
  pub prepared : IsPrepared (given_of c) made.plan budget made.classes program
  pub runs : RunsProgram program bytes made.session.value
  pub input : IfSome (given_of c).left (λ all. bytes ≡ all)
  pub short : length bytes ≤ most_input
  pub rest : TakesAtMost most_taken c.old.input.left c.new.input.left
  pub ended : IsAtEnd c.new.input.left

-- the plan that is kept is the command's
plan-is : (c : Call) (budget : ℕ) (made k : Kept) (is : IsMade c budget made)
    → IsSameRun made k → k.plan ≡ is.prepared.command.plan
plan-is c budget made k is same = same.plan ∙ is.prepared.plan_is

command-is : (c : Call) (budget : ℕ) (made k : Kept) (is : IsMade c budget made)
    → IsSameRun made k → command_of (words_of c) k.plan ≡ Some is.prepared.command
command-is c budget made k is same =
    ap (λ (p : Plan). command_of (words_of c) p) (plan-is c budget made k is same)
    ∙ commanded (given_of c) is.prepared.command is.prepared.accepts

budget-is : (c : Call) (budget : ℕ) (made k : Kept) → IsMade c budget made
    → IsSameRun made k → budget ≡ budget_of (words_of c) k.plan
budget-is c budget made k is same =
    is.prepared.budget_is
    ∙ sym (ap (λ (o : Option Command). option_map_or (λ (x : Command). x.budget) o 0)
    (command-is c budget made k is same))

made-origin : (c : Call) (budget : ℕ) (made k : Kept)
    → IsMade c budget made → IsSameRun made k → HasOrigin (given_of c) k
made-origin c budget made k is same =
    let program_is : is.program ≡ k.session.value.program =
    sym (same.program.program ∙ is.runs.program_is) in
    let input_is : is.bytes ≡ k.session.value.input =
    sym (same.program.input ∙ is.runs.input_is) in
    let command : Command = is.prepared.command in
    record {
      command = command;
      accepts = is.prepared.accepts;
      plan = plan-is c budget made k is same;
      told_as = subst (AreContentsOf c.old.told command) (sym same.classes) is.prepared.loaded.told_as;
      program =
          subst (λ (xs : List (List ℕ)). IsProgram (asked_by command) xs k.session.value.program)
          (sym same.classes)
          (subst (λ (p : Program). IsProgram (asked_by command) made.classes p) program_is
          is.prepared.loaded.program_is);
      input = subst (λ (bytes : List ℕ). IfSome c.old.input.left (λ all. bytes ≡ all)) input_is is.input;
      short = subst (λ (bytes : List ℕ). length bytes ≤ most_input) input_is is.short;
    }

made-only : (c : Call) (budget : ℕ) (made k : Kept)
    → IsMade c budget made → IsSameRun made k → IsOnlyProgram k
made-only c budget made k is same =
    subst (λ (xs : List (List ℕ)). SpellAlone xs (classes_for xs k.session.value.program)) (sym same.classes)
    (subst (λ (p : Program). SpellAlone made.classes (classes_for made.classes p))
    (sym (same.program.program ∙ is.runs.program_is)) is.prepared.loaded.alone)

made-true : (c : Call) (budget : ℕ) (made k : Kept)
    → IsMade c budget made → c.kept ≡ Some k → IsSameRun made k
    → PutsAtMost made.session.value budget c.old.out.taken c.new.out.taken
    → PutsImages (asks_images (words_of c)) k.session.value c.old c.new
    → (asks_images (words_of c) ≡ false → IsUntold c.old.images c.new.images)
    → IsTrueOf c
made-true c budget made k is kept same front images unasked = record {
  origin = subst (λ (o : Option Kept). IfSome o (HasOrigin (given_of c))) (sym kept)
      (made-origin c budget made k is same);
  only = subst (λ (o : Option Kept). IfSome o IsOnlyProgram) (sym kept)
      (made-only c budget made k is same);
  prefix = subst (λ (o : Option Kept). IfSome o
      (λ x. PutsAtMost x.session.value (budget_of (words_of c) x.plan) c.old.out.taken c.new.out.taken))
      (sym kept)
      (subst (PutsPrefix c.old.out.taken c.new.out.taken)
      (outputs-same made.session.value k.session.value budget (budget_of (words_of c) k.plan) same.program
      (budget-is c budget made k is same)) front);
  rest = is.rest;
  ended = λ _. is.ended;
  nothing = λ none. absurd
      (let e : (let o : Option Kept = Some k in o ≡ None) = sym kept ∙ none in cc);
  images = subst (λ (o : Option Kept). IfSome o (λ x. PutsImages (asks_images (words_of c)) x.session.value c.old c.new))
      (sym kept) images;
  unasked = unasked;
  unimaged = λ none. absurd
      (let e : (let o : Option Kept = Some k in o ≡ None) = sym kept ∙ none in cc);
  held = subst (λ (o : Option Kept). IfSome o (λ x. x.session.value.stale ≡ false)) (sym kept)
      (same.program.held is.runs.held);
}

made-run : (c : Call) (budget : ℕ) (made k : Kept) (status : ℕ)
    → IsMade c budget made → IsSameRun made k
    → IsRun (is_generated (words_of c)) (asks_images (words_of c)) budget c.old c.new status k
    → IsRunAsked (words_of c) c.old c.new status k
made-run c budget made k status is same ran =
    record {
      output = subst (λ (n : ℕ). IsCarriedOut k.session.value n c.old.out.taken c.new.out.taken)
          (budget-is c budget made k is same) ran.output;
      without_fault = ran.without_fault;
      shown = ran.shown;
    }

-- what was put up to the words' budget
abbrev IsCutBy : Call → Kept → Type 0
IsCutBy c k = IsCutOff k.session.value (budget_of (words_of c) k.plan) c.old.out.taken c.new.out.taken

-- a run that stopped
stopped-refused : (c : Call) (k : Kept) (budget : ℕ) (r : Refusal) → OfProgram (given_of c) → c.kept ≡ Some k
    → budget ≡ budget_of (words_of c) k.plan
    → c.new.files ≡ c.old.files → c.new.input.faults ≡ c.old.input.faults
    → IsStopped c.kept budget c.old c.new r → IsRefused c r
stopped-refused c k budget r of kept within without_fault input_without_fault stopped = elim stopped.why [
  | inl (failed, rose) ↦ subst (IsRefused c) (sym failed) (record {
    cause = of;
    refused = λ before_the_run. absurd (false≢true before_the_run);
    made = λ _. subst (λ (o : Option Kept). IsSome o) (sym kept) refl;
    untaken = λ before_the_run. absurd (false≢true before_the_run);
    one_more = λ eleven. absurd cc;
    taken = λ five. absurd cc;
    fetches = inl without_fault;
    not_taken = λ five. absurd cc;
    stopped = λ _. rose;
    cut = λ _. subst (λ (o : Option Kept). IfSome o (IsCutBy c)) (sym kept)
        (subst (λ (n : ℕ). IsCutOff k.session.value n c.old.out.taken c.new.out.taken) within
        (subst (λ (o : Option Kept). IfSome o (λ x. IsCutOff x.session.value budget c.old.out.taken c.new.out.taken)) kept
        (stopped.cut failed)));
    unshown = λ _. stopped.unshown failed;
    not_fetched = λ seven. absurd cc;
    plan_name = λ is. absurd (let e : ◌≡◌ {A = ℕ} 6 7 = ap status_of is in cc);
    name = λ at is. absurd (let e : ◌≡◌ {A = ℕ} 6 7 = ap status_of is in cc);
    without_fault = λ seven nine. without_fault;
    input_without_fault = λ five nine. input_without_fault;
  })
  | inr memory ↦ subst (IsRefused c) (sym memory) (memory-refused c (inl without_fault))
]

-- the images of what is kept were put as far as they were
kept-images : (o : Option Kept) (k : Kept) (asked : Bool) (old new : DevicesView) → o ≡ Some k
    → IsSomeAnd o (λ x. PutsImages asked x.session.value old new) → PutsImages asked k.session.value old new
kept-images o k asked old new is =
    subst (λ (x : Option Kept). IsSomeAnd x (λ y. PutsImages asked y.session.value old new)) is

-- with the images that the words ask for
run-asked : (c : Call) (budget : ℕ) (made : Kept)
    (r : Result ℕ Refusal) → IsMade c budget made → IsSomeAnd c.kept (IsSameRun made)
    → MatchResult r (λ status. IsSomeAnd c.kept (IsRun (is_generated (words_of c)) (asks_images (words_of c)) budget c.old c.new status))
    (IsStopped c.kept budget c.old c.new)
    → PutsAtMost made.session.value budget c.old.out.taken c.new.out.taken
    → IsSomeAnd c.kept (λ x. PutsImages (asks_images (words_of c)) x.session.value c.old c.new)
    → (asks_images (words_of c) ≡ false → IsUntold c.old.images c.new.images)
    → c.new.files ≡ c.old.files → c.new.input.faults ≡ c.old.input.faults → IsCarried c r
run-asked c budget made (Ok status) is same ran front images unasked without_fault input_without_fault =
    let k = some-kept c.kept (IsSameRun made) same in
    let asked = asks_images (words_of c) in
    let summary = is_generated (words_of c) in
    let here : IsRun summary asked budget c.old c.new status k.0 =
    subst (λ (o : Option Kept). IsSomeAnd o (IsRun summary asked budget c.old c.new status)) k.1 ran in
    record {
      always = made-true c budget made k.0 is k.1 k.2 front (kept-images c.kept k.0 asked c.old c.new k.1 images) unasked;
      ran = record {
        made =
            subst (λ (o : Option Kept). IsSomeAnd o (IsRunAsked (words_of c) c.old c.new status)) (sym k.1)
            (made-run c budget made k.0 status is k.2 here);
        without_fault = without_fault;
        input_without_fault = input_without_fault;
      };
      refused = tt;
      untold = tt;
    }
run-asked c budget made (Err r) is same stopped front images unasked without_fault input_without_fault =
    let k = some-kept c.kept (IsSameRun made) same in
    let asked = asks_images (words_of c) in
    record {
      always = made-true c budget made k.0 is k.1 k.2 front (kept-images c.kept k.0 asked c.old c.new k.1 images) unasked;
      ran = tt;
      refused = stopped-refused c k.0 budget r
          (of-program (given_of c) made.plan budget made.classes is.program is.prepared) k.1 (budget-is c budget made k.0 is k.2)
          without_fault input_without_fault stopped;
      untold = stopped.untold;
    }

-- the words that were read ask for the images
images-said : (words : List (List ℕ)) (r : Read) → words_accepted words ≡ Some r → asks_images words ≡ r.images
images-said words r e = ap (λ (o : Option Read). option_map_or (λ (x : Read). x.images) o false) e

-- and, where they generate the program, for sums
pub generation-said : (words : List (List ℕ)) (r : Read) → words_accepted words ≡ Some r → is_generated words ≡ is_some r.generated
generation-said words r e = ap (λ (o : Option Read). option_map_or (λ (x : Read). is_some x.generated) o false) e

pub carried-run : (c : Call) (summary : Bool) (budget : ℕ) (made : Kept) (r : Result ℕ Refusal) (words : Read)
    → words_accepted (words_of c) ≡ Some words → summary ≡ is_some words.generated
    → IsMade c budget made → IsSomeAnd c.kept (IsSameRun made)
    → MatchResult r (λ status. IsSomeAnd c.kept (IsRun summary words.images budget c.old c.new status))
    (IsStopped c.kept budget c.old c.new)
    → PutsAtMost made.session.value budget c.old.out.taken c.new.out.taken
    → IsSomeAnd c.kept (λ x. PutsImages words.images x.session.value c.old c.new)
    → (words.images ≡ false → IsUntold c.old.images c.new.images)
    → c.new.files ≡ c.old.files → c.new.input.faults ≡ c.old.input.faults → IsCarried c r
carried-run c summary budget made r words read sums is same ran front images unasked =
    let said : words.images ≡ asks_images (words_of c) = sym (images-said (words_of c) words read) in
    let sums_said : summary ≡ is_generated (words_of c) = sums ∙ sym (generation-said (words_of c) words read) in
    run-asked c budget made r is same
    (subst (λ (s : Bool). MatchResult r (λ status. IsSomeAnd c.kept (IsRun s (asks_images (words_of c)) budget c.old c.new status)) (IsStopped c.kept budget c.old c.new)) sums_said
    (subst (λ (asked : Bool). MatchResult r (λ status. IsSomeAnd c.kept (IsRun summary asked budget c.old c.new status)) (IsStopped c.kept budget c.old c.new)) said ran))
    front
    (subst (λ (asked : Bool). IsSomeAnd c.kept (λ x. PutsImages asked x.session.value c.old c.new)) said images)
    (subst (λ (asked : Bool). asked ≡ false → IsUntold c.old.images c.new.images) said unasked)
