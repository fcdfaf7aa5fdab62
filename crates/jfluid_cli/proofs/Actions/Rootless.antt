-- A generated program is refused exactly for an action that names no method of it.
use Rattle.std.proofs.Common.{◌≡◌, ℕ, suc, ◌+◌, List, [], ◌∷◌, Option, Some, None, Result, Ok, Err, true, refl, sym, ap, subst, ◌∙◌}
use Rattle.std.specs.Prelude.{option_map, slice_get, IsSome}
use Rattle.std.proofs.lemmas.Option.{none-some}
use Rattle.std.proofs.lemmas.Bool.{false≢true}
use Rattle.byte_streams.specs.Streams.{Told}
use Rattle.const_pool.specs.declared.class.ClassFile.{ClassFile}
use Rattle.class_reader.specs.Files.{IsFile}
use Rattle.class_reader.proofs.Files.{no_first_fault}
use Rattle.plan_text.specs.declared.plan.Action.{Action}
use Rattle.program_gen.specs.Generated.{classes_generated}
use Rattle.jvm_model.specs.declared.event.Act.{Act}
use Rattle.jvm_model.specs.declared.program.Program.{Program}
use Rattle.code_admission.specs.declared.error.AdmitError.{AdmitError}
use Rattle.admit_check.specs.Admission.{act_of, act_with, acts_from, root_in, with_acts}
use Rattle.generated_programs.specs.Admitted.{admission_of_generated, generated_contents, generated_program}
use Rattle.generated_programs.proofs.GeneratedFiles.{generated-files}
use Rattle.command_line.specs.declared.words.Generation.{Generation}
use Rattle.jfluid_cli.specs.declared.refusal.Refusal.{Refusal}
use Rattle.jfluid_cli.specs.declared.refusal.Refusal.TheVariants.{Clap, Words, Plan as BadPlan, NotRead, NotAdmitted, InputFailed, OutFailed, PlanNotFetched, NotFetched, NoMemory, InputTooLong}
use Rattle.jfluid_cli.specs.Asking.{asked_by}
use Rattle.jfluid_cli.specs.Causes.{CallInputs, AreContentsOf, Because, HasNoRoot, IsUnfit, NamesNoMethod}
use Rattle.jfluid_cli.specs.Contents.{AreContentsBy, SpellAlone, classes_for}
use Rattle.jfluid_cli.specs.Refusals.{status_of}
use Rattle.jfluid_cli.specs.Top.{IsProgram, answer_for}
use Rattle.jfluid_cli.specs.Words.{Command, is_generated}
use Rattle.jfluid_cli.proofs.Runs.Admitted.{IsActOf, plan-acts}
use Rattle.jfluid_cli.proofs.Runs.Carried.{generation-said}
use Rattle.jfluid_cli.proofs.Files.Generating.{IsGeneratedOf, alone-generated, answer-generated, generated-by, generated-of, told-generated}
use Rattle.jfluid_cli.proofs.Reports.Pairs.{zip-at}
use Rattle.jfluid_cli.proofs.Files.Spelled.{one-spelling}

-- ---- an action without a method

abbrev act_for : Action → ℕ → Act
act_for a method = record { moment = a.moment; select = a.select; method = method }

later : (p : Program) (a : Action) (rest : List Action) → NamesNoMethod p rest → NamesNoMethod p (a ∷ rest)
later p a rest h = record { at = suc h.at; action = h.action; there = h.there; none = h.none }

-- acts are refused for one
unrooted : (p : Program) (at : ℕ) (actions : List Action) (fault : AdmitError) → acts_from p at actions ≡ Err fault
    → NamesNoMethod p actions
unrooted p at [] fault e = absurd cc
unrooted p at (a ∷ rest) fault e =
    by (root_in p a.root) refl (acts_from p (at + 1) rest) (λ other is. unrooted p (at + 1) rest other is) e
  where
    by : (o : Option ℕ) → root_in p a.root ≡ o → (r : Result (List Act) AdmitError)
        → ((other : AdmitError) → r ≡ Err other → NamesNoMethod p rest)
        → act_with (option_map (act_for a) o) at r ≡ Err fault → NamesNoMethod p (a ∷ rest)
    by None found r more e = record { at = 0; action = a; there = refl; none = found }
    by (Some m) found (Ok acts) more e = absurd cc
    by (Some m) found (Err other) more e = later p a rest (more other refl)

acts-err : (p : Program) (r : Result (List Act) AdmitError) (fault : AdmitError) → with_acts p 0 r ≡ Err fault
    → r ≡ Err fault
acts-err p (Ok acts) fault e = absurd cc
acts-err p (Err other) fault e = let same : other ≡ fault = cc e in ap (λ (x : AdmitError). let r : Result (List Act) AdmitError = Err x in r) same

-- ---- the refusal

contents-generated : (told : Option Told) (k : Command) (o : Generation) (contents : List (List ℕ))
    → k.generated ≡ Some o → AreContentsOf told k contents → contents ≡ generated_contents o.seed o.size
contents-generated told k o contents own is =
    subst (λ (x : Option Generation). AreContentsBy told x k.files contents) own is

pub three-rootless : (g : CallInputs) (r : Refusal) → Because g r → status_of r ≡ 3 → is_generated g.words ≡ true
    → HasNoRoot g
three-rootless g (NotRead at fault) cause three e =
    let k = cause.command in
    let a = cause.accepts in
    let own = generated-by g k a (sym (generation-said g.words a.words a.read) ∙ e) in
    let o = own.0 in
    let is : cause.contents ≡ generated_contents o.seed o.size =
    contents-generated g.told k o cause.contents own.1.generated cause.told_as in
    let there : slice_get (generated_contents o.seed o.size) at ≡ Some cause.holds.bytes =
    subst (λ (xs : List (List ℕ)). slice_get xs at ≡ Some cause.holds.bytes) is cause.holds.there in
    let here = zip-at IsFile (generated_contents o.seed o.size) (classes_generated o.seed o.size) at cause.holds.bytes
    (generated-files o.seed o.size own.1.some own.1.most) there in
    absurd (no_first_fault cause.holds.bytes here.other fault here.holds cause.holds.first)
three-rootless g (NotAdmitted fault) cause three e =
    let k = cause.command in
    let a = cause.accepts in
    let own = generated-by g k a (sym (generation-said g.words a.words a.read) ∙ e) in
    let o = own.0 in
    let classes : List ClassFile = classes_generated o.seed o.size in
    let is : cause.contents ≡ generated_contents o.seed o.size =
    contents-generated g.told k o cause.contents own.1.generated cause.told_as in
    let alone : SpellAlone cause.contents classes =
    subst (λ (xs : List (List ℕ)). SpellAlone xs classes) (sym is)
    (alone-generated o.seed o.size own.1.some own.1.most) in
    let same : cause.holds.0 ≡ classes = one-spelling cause.contents classes cause.holds.0 alone cause.holds.1 in
    let refused : admission_of_generated o.seed o.size k.plan ≡ Err fault =
    sym (answer-generated k o own.1)
    ∙ (sym (ap (answer_for (asked_by k)) same) ∙ cause.holds.2) in
    let p : Program = generated_program o.seed o.size k.plan in
    record {
      command = k;
      accepts = a;
      generation = o;
      generated = own.1.generated;
      unnamed = unrooted p 1 k.plan.actions fault (acts-err p (acts_from p 1 k.plan.actions) fault refused);
    }
three-rootless g (Clap text) cause three e = absurd cc
three-rootless g Words cause three e = absurd cc
three-rootless g (BadPlan fault) cause three e = absurd cc
three-rootless g InputFailed cause three e = absurd cc
three-rootless g OutFailed cause three e = absurd cc
three-rootless g PlanNotFetched cause three e = absurd cc
three-rootless g (NotFetched at) cause three e = absurd cc
three-rootless g NoMemory cause three e = absurd cc
three-rootless g InputTooLong cause three e = absurd cc

-- ---- and for each such action

none-rooted : (k : Command) (o : Generation) (p : Program) → IsGeneratedOf k o
    → NamesNoMethod (generated_program o.seed o.size k.plan) k.plan.actions
    → IsProgram (asked_by k) (generated_contents o.seed o.size) p → ⊥
none-rooted k o p is h program =
    let contents : List (List ℕ) = generated_contents o.seed o.size in
    let classes : List ClassFile = classes_generated o.seed o.size in
    let whole : Program = generated_program o.seed o.size k.plan in
    let same : classes_for contents p ≡ classes =
    one-spelling contents classes (classes_for contents p) (alone-generated o.seed o.size is.some is.most)
    program.files in
    let admitted : answer_for (asked_by k) classes ≡ Ok p =
    subst (λ (cs : List ClassFile). answer_for (asked_by k) cs ≡ Ok p) same program.admitted in
    let pair = zip-at (IsActOf whole) k.plan.actions p.acts h.at h.action
    (plan-acts classes k.main k.plan p admitted) h.there in
    let none : act_of whole h.action ≡ None = ap (option_map (act_for h.action)) h.none in
    none-some pair.other (sym none ∙ pair.holds)

pub rootless-unfit : (g : CallInputs) → HasNoRoot g → IsSome g.told → IsUnfit g
rootless-unfit g h some = by g.told refl some
  where
    by : (told : Option Told) → g.told ≡ told → IsSome told → IsUnfit g
    by None e some = absurd (false≢true some)
    by (Some files) e some =
        let k = h.command in
        let o = h.generation in
        let is : IsGeneratedOf k o = generated-of g k o h.accepts h.generated in
        record {
          command = k;
          accepts = h.accepts;
          files = files;
          telling = e;
          contents = generated_contents o.seed o.size;
          told_as = told-generated (Some files) k o (generated_contents o.seed o.size) h.generated refl;
          none = λ p program. none-rooted k o p is h.unnamed program;
        }
