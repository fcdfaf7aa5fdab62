-- Why nothing is made: each refusal before the input is taken, from what the readers say of the contents.
use Rattle.std.proofs.Common.{◌≡◌, ℕ, ◌<◌, List, length, take, Option, Some, None, refl, sym, ap, subst, ◌∙◌, Bool, true, false, cond, inl, inr, Err}
use Rattle.std.specs.Prelude.{◌≢◌, option_map, slice_get}
use Rattle.std.proofs.lemmas.Bool.{false≢true}
use Rattle.byte_streams.specs.Streams.{Told, Rose}
use Rattle.const_pool.specs.declared.class.ClassFile.{ClassFile}
use Rattle.jvm_model.specs.declared.program.Program.{Program}
use Rattle.code_admission.specs.declared.error.AdmitError.{AdmitError}
use Rattle.code_admission.specs.declared.error.AdmitError.TheVariants as admit
use Rattle.plan_text.specs.declared.plan.Plan.{Plan}
use Rattle.plan_text.specs.declared.plan.PlanError.{PlanError}
use Rattle.plan_text.specs.declared.plan.PlanError.TheVariants as plan
use Rattle.command_line.specs.Chosen.{Chosen, run_chosen}
use Rattle.command_line.specs.Words.{Read}
use Rattle.command_line.specs.declared.words.Generation.{Generation}
use Rattle.jfluid_cli.specs.declared.refusal.Refusal.{Refusal}
use Rattle.jfluid_cli.specs.declared.refusal.Refusal.TheVariants as refusal
use Rattle.jfluid_cli.specs.declared.refusal.Refusal.TheVariants.{NotRead, NotAdmitted, PlanNotFetched, NotFetched, NoMemory}
use Rattle.jfluid_cli.specs.Refusals.{is_memory, refusal_for, refusal_of, status_of}
use Rattle.jfluid_cli.specs.Asking.{ProgramWanted, asked_by, IsPlanFor}
use Rattle.jfluid_cli.specs.Causes.{CallInputs, Accepts, AreContentsOf, Because, OfClasses}
use Rattle.jfluid_cli.specs.Contents.{AreContentsBy, AreFetched, AreToldAs, SpellAlone, classes_for}
use Rattle.jfluid_cli.specs.Sinks.{FilesView}
use Rattle.jfluid_cli.specs.Stages.{AreReadWith, HasFetchCause, IsFetchedFor, IsFetchFault, IsFetchRefusal, IsPlanRefusal, IsReadRefusal, IsWordsRefusal, IsBeforeTheRun, IsLoaded, is_before_the_run}
use Rattle.jfluid_cli.specs.Top.{IsProgram, HasRefused, answer_for}
use Rattle.jfluid_cli.specs.Words.{Command, words_accepted, command_with}
use Rattle.jfluid_cli.proofs.Files.Spelled.{files-alone}
use Rattle.jfluid_cli.proofs.Files.ToldFiles.{told-contents, fronts-files, fronts-fault}

-- ---- the words and their plan

-- words that are refused
pub due-words : (g : CallInputs) (r : Refusal) → IsWordsRefusal g.words r → IsBeforeTheRun g r
due-words g (refusal.Clap text) is = record { cause = is; before_the_run = refl }
due-words g refusal.Words is = record { cause = inl is; before_the_run = refl }
due-words g refusal.NoMemory is = record { cause = tt; before_the_run = refl }
due-words g (refusal.Plan fault) is = absurd is
due-words g (NotRead at fault) is = absurd is
due-words g (NotAdmitted fault) is = absurd is
due-words g refusal.InputFailed is = absurd is
due-words g refusal.OutFailed is = absurd is
due-words g PlanNotFetched is = absurd is
due-words g (NotFetched at) is = absurd is
due-words g refusal.InputTooLong is = absurd is

-- want of memory always is due
pub due-memory : (g : CallInputs) → IsBeforeTheRun g NoMemory
due-memory g = record { cause = tt; before_the_run = refl }

-- a plan that has a fault
due-fault-of : (g : CallInputs) (words : Read) (fault : PlanError) → words_accepted g.words ≡ Some words
    → ((fault ≡ plan.NoMemory → ⊥) → IsPlanFor g.told words (Err fault)) → IsBeforeTheRun g (refusal_of fault)
due-fault-of g words plan.TooLong read is =
    record { cause = (words, read, record { fault_is = is (λ e. cc e); other = λ e. cc e }); before_the_run = refl }
due-fault-of g words (plan.BadLine number cause) read is =
    record { cause = (words, read, record { fault_is = is (λ e. cc e); other = λ e. cc e }); before_the_run = refl }
due-fault-of g words (plan.Backwards number) read is =
    record { cause = (words, read, record { fault_is = is (λ e. cc e); other = λ e. cc e }); before_the_run = refl }
due-fault-of g words (plan.AlreadySelected number) read is =
    record { cause = (words, read, record { fault_is = is (λ e. cc e); other = λ e. cc e }); before_the_run = refl }
due-fault-of g words (plan.NotSelected number) read is =
    record { cause = (words, read, record { fault_is = is (λ e. cc e); other = λ e. cc e }); before_the_run = refl }
due-fault-of g words (plan.TooMany number) read is =
    record { cause = (words, read, record { fault_is = is (λ e. cc e); other = λ e. cc e }); before_the_run = refl }
due-fault-of g words plan.NoMemory read is = due-memory g

pub due-plan : (g : CallInputs) (words : Read) (told : Option Told) (r : Refusal) → words_accepted g.words ≡ Some words
    → g.told ≡ told → IsPlanRefusal told words r → IsBeforeTheRun g r
due-plan g words told r read same (inl (failed, named)) =
    subst (IsBeforeTheRun g) (sym failed) (record { cause = (words, read, named); before_the_run = refl })
due-plan g words told r read same (inr (fault, is, holds)) =
    subst (IsBeforeTheRun g) (sym is) (due-fault-of g words fault read
    (λ other. subst (λ (t : Option Told). IsPlanFor t words (Err fault)) (sym same) (holds other)))

-- words and a plan with no main class
pub due-mainless : (g : CallInputs) (words : Read) (p : Plan) → AreReadWith g words p → None ≡ run_chosen words p
    → IsBeforeTheRun g refusal.Words
due-mainless g words p with_plan none = record {
  cause = inr (
    words,
    with_plan.read,
    record {
      plan = p;
      plan_is = with_plan.planned;
      none = ap (option_map (command_with words p)) (sym none);
    },
  );
  before_the_run = refl;
}

-- what they ask for else
pub made-command : (g : CallInputs) (words : Read) (p : Plan) (c : Chosen) → AreReadWith g words p
    → Some c ≡ run_chosen words p → Accepts g (command_with words p c)
made-command g words p c with_plan is = record {
  words = words;
  read = with_plan.read;
  planned = with_plan.planned;
  asked = ap (option_map (command_with words p)) (sym is);
}

-- ---- the files

-- the contents of a command that names files are what they tell
pub told-by : (told : Option Told) (k : Command) (contents : List (List ℕ)) → k.generated ≡ None
    → AreToldAs told k.files contents → AreContentsOf told k contents
told-by told k contents own told_as =
    subst (λ (o : Option Generation). AreContentsBy told o k.files contents) (sym own) told_as

-- where the words are accepted, a refusal is due for its cause
pub due : (g : CallInputs) (r : Refusal) → is_before_the_run (status_of r) ≡ true → Because g r → IsBeforeTheRun g r
due g r before_the_run cause = record { cause = cause; before_the_run = before_the_run }

-- the fetch of a file failed behind those of the earlier ones
pub due-fetch : (g : CallInputs) (k : Command) (told : Option Told) (r : Refusal) → Accepts g k
    → g.told ≡ told → IsFetchRefusal told k.files r → IsBeforeTheRun g r
due-fetch g k told r accepts same (inl (at, failed, fetch)) =
    let have = told-contents told (take at k.files) fetch.fronts fetch.earlier in
    subst (IsBeforeTheRun g) (sym failed) (due g (NotFetched at) refl (record {
      command = k;
      accepts = accepts;
      within = fetch.within;
      contents = have.contents;
      told_as = subst (λ (t : Option Told). AreToldAs t (take at k.files) have.contents)
          (sym same) have.told_as;
    }))
due-fetch g k told r accepts same (inr memory) = subst (IsBeforeTheRun g) (sym memory) (due-memory g)

-- the contents of what was fetched are no class files
pub due-unread : (g : CallInputs) (asked : ProgramWanted) (fronts : List (List ℕ)) (r : Refusal)
    → IsFetchedFor g asked fronts → IsReadRefusal fronts r → IsBeforeTheRun g r
due-unread g asked fronts r f (inl (at, fault, unread, is)) =
    let have = told-contents g.told f.command.files fronts f.fetched in
    subst (IsBeforeTheRun g) (sym unread) (due g (NotRead at fault) refl (record {
      command = f.command;
      accepts = f.accepts;
      contents = have.contents;
      told_as = told-by g.told f.command have.contents f.own have.told_as;
      holds = fronts-fault have.contents fronts at fault have.fronts_are is;
    }))
due-unread g asked fronts r f (inr memory) = subst (IsBeforeTheRun g) (sym memory) (due-memory g)

-- the classes of what was fetched are refused
of-classes : (g : CallInputs) (asked : ProgramWanted) (fronts : List (List ℕ)) (classes : List ClassFile)
    (why : AdmitError) → IsFetchedFor g asked fronts → SpellAlone fronts classes
    → answer_for asked classes ≡ Err why → OfClasses g why
of-classes g asked fronts classes why f alone is =
    let have = told-contents g.told f.command.files fronts f.fetched in
    let whole : have.contents ≡ fronts =
    fronts-files have.contents fronts classes have.fronts_are (files-alone fronts classes alone) in
    let has : HasRefused asked why fronts = (classes, files-alone fronts classes alone, is) in
    record {
      command = f.command;
      accepts = f.accepts;
      contents = have.contents;
      told_as = told-by g.told f.command have.contents f.own have.told_as;
      holds = subst (λ (a : ProgramWanted). HasRefused a why have.contents) (sym f.asked_is)
          (subst (HasRefused asked why) (sym whole) has);
    }

pub due-fault : (g : CallInputs) (asked : ProgramWanted) (fronts : List (List ℕ)) (classes : List ClassFile)
    (fault : AdmitError) → IsFetchedFor g asked fronts → SpellAlone fronts classes
    → answer_for asked classes ≡ Err fault → IsBeforeTheRun g (NotAdmitted fault)
due-fault g asked fronts classes fault f alone is =
    due g (NotAdmitted fault) refl (of-classes g asked fronts classes fault f alone is)

-- a fault of admission that is no want of memory
pub due-admission : (g : CallInputs) (asked : ProgramWanted) (fronts : List (List ℕ)) (classes : List ClassFile)
    (fault : AdmitError) → IsFetchedFor g asked fronts → SpellAlone fronts classes
    → (fault ≢ admit.NoMemory → answer_for asked classes ≡ Err fault) → IsBeforeTheRun g (refusal_for fault)
due-admission g asked fronts classes fault f alone is = by (is_memory fault) refl where
  by : (b : Bool) → is_memory fault ≡ b → IsBeforeTheRun g (cond b NoMemory (NotAdmitted fault))
  by true memory = due-memory g
  by false other =
      due-fault g asked fronts classes fault f alone
      (is (λ same. false≢true (sym other ∙ ap is_memory same)))

pub admission-without_fault : (fault : AdmitError) → status_of (refusal_for fault) ≢ 7
admission-without_fault fault = by (is_memory fault) where
  by : (b : Bool) → status_of (cond b NoMemory (NotAdmitted fault)) ≢ 7
  by true = λ e. cc e
  by false = λ e. cc e

-- what was fetched for a command, and what it asks for
pub fetched : (g : CallInputs) (k : Command) (told : Option Told) (fronts deref : List (List ℕ)) → Accepts g k
    → k.generated ≡ None → g.told ≡ told → AreFetched told k.files fronts → fronts ≡ deref → IsFetchedFor g (asked_by k) deref
fetched g k told fronts deref accepts own same fronts_are is = record {
  command = k;
  accepts = accepts;
  asked_is = refl;
  own = own;
  fetched = subst (λ (t : Option Told). AreFetched t k.files deref) (sym same)
      (subst (AreFetched told k.files) is fronts_are);
}

-- what was fetched and read is what the files tell
pub loaded : (told : Option Told) (k : Command) (fronts deref : List (List ℕ))
    (program : Program) → k.generated ≡ None → AreFetched told k.files fronts → fronts ≡ deref
    → IsProgram (asked_by k) deref program → SpellAlone deref (classes_for deref program)
    → IsLoaded told k fronts program
loaded told k fronts deref program own fronts_are is fits alone =
    let have = told-contents told k.files fronts fronts_are in
    let here : SpellAlone fronts (classes_for fronts program) =
    subst (λ (xs : List (List ℕ)). SpellAlone xs (classes_for xs program)) (sym is) alone in
    let whole : have.contents ≡ fronts =
    fronts-files have.contents fronts (classes_for fronts program) have.fronts_are
    (files-alone fronts (classes_for fronts program) here) in
    record {
      told_as = told-by told k fronts own (subst (AreToldAs told k.files) whole have.told_as);
      program_is = subst (λ (xs : List (List ℕ)). IsProgram (asked_by k) xs program) (sym is) fits;
      alone = here;
    }

-- ---- the count of the files

-- nothing was fetched, or all was
pub no-fault : (named : Option (List ℕ)) (words : List (List ℕ)) (old new : FilesView) (r s : Refusal)
    → new ≡ old → r ≡ s → (status_of s ≡ 7 → ⊥) → HasFetchCause named words old new r
no-fault named words old new r s same is other = record {
  failed = λ seven. absurd (other (sym (ap status_of is) ∙ seven));
  plan_is = λ failed. absurd (other (sym (ap status_of is) ∙ ap status_of failed));
  name_is = λ at failed. absurd (other (sym (ap status_of is) ∙ ap status_of failed));
  without_fault = λ _. same;
}

-- it failed behind fetches that did not
pub later-fault : (named : Option (List ℕ)) (words : List (List ℕ)) (old mid new : FilesView) (r : Refusal)
    → mid ≡ old → HasFetchCause named words mid new r → HasFetchCause named words old new r
later-fault named words old mid new r without_fault cause = record {
  failed = λ seven. subst (λ (f : FilesView). Rose f.faults new.faults) without_fault (cause.failed seven);
  plan_is = cause.plan_is;
  name_is = cause.name_is;
  without_fault = λ other. cause.without_fault other ∙ without_fault;
}

same-place : (a b : ℕ) → NotFetched a ≡ NotFetched b → a ≡ b
same-place a b e = cc e

not-plan : (at : ℕ) → NotFetched at ≡ PlanNotFetched → ⊥
not-plan at e = cc e

-- a fetch failed where none had
pub one-fault : (named : Option (List ℕ)) (words : List (List ℕ)) (at : ℕ) (word : List ℕ)
    (old mid new : FilesView) (r : Refusal) → slice_get words at ≡ Some word → mid ≡ old
    → IsFetchFault word (NotFetched at) mid new r → HasFetchCause named words old new r
one-fault named words at word old mid new r there without_fault (inl (failed, rose, last)) = record {
  failed = λ _. subst (λ (f : FilesView). Rose f.faults new.faults) without_fault rose;
  plan_is = λ is. absurd (not-plan at (sym failed ∙ is));
  name_is = λ k is.
      (let same : at ≡ k = same-place at k (sym failed ∙ is) in
      ap (slice_get words) (sym same)
      ∙ (there ∙ ap (λ (name : List ℕ). let o : Option (List ℕ) = Some name in o) (sym last)));
  without_fault = λ other. absurd (other (ap status_of failed));
}
one-fault named words at word old mid new r there without_fault (inr (memory, same)) =
    no-fault named words old new r NoMemory (same ∙ without_fault) memory (λ seven. cc)

-- and it is told which
pub one-refusal : (told : Option Told) (words fronts : List (List ℕ)) (at : ℕ) (word : List ℕ)
    (old new : FilesView) (r : Refusal) → at < length words → AreFetched told (take at words) fronts
    → IsFetchFault word (NotFetched at) old new r → IsFetchRefusal told words r
one-refusal told words fronts at word old new r within earlier (inl (failed, rose, last)) =
    inl (at, failed, record { within = within; fronts = fronts; earlier = earlier })
one-refusal told words fronts at word old new r within earlier (inr (memory, same)) = inr memory
