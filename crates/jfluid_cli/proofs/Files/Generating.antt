-- A command that generates its program: what is loaded for it, and what is refused.
use Rattle.std.proofs.Common.{◌≡◌, ℕ, ◌≤◌, List, Option, Some, None, Ok, Bool, true, false, cond, refl, sym, ap, subst, ◌∙◌}
use Rattle.std.specs.Prelude.{is_some, option_map, IfSome}
use Rattle.std.proofs.lemmas.Option.{same_Some}
use Rattle.std.proofs.lemmas.Bool.{false≢true}
use Rattle.byte_streams.specs.Streams.{Told}
use Rattle.const_pool.specs.declared.class.ClassFile.{ClassFile}
use Rattle.class_reader.specs.Files.{IsFile}
use Rattle.plan_text.specs.declared.plan.Plan.{Plan}
use Rattle.program_gen.specs.Generated.{classes_generated}
use Rattle.jvm_model.specs.declared.program.Program.{Program}
use Rattle.code_admission.specs.declared.error.AdmitError.{AdmitError}
use Rattle.admit_check.specs.Admission.{IsAdmittedProgram, admission_of}
use Rattle.generated_programs.specs.Admitted.{IsRefusedFor, admission_of_generated, generated_contents}
use Rattle.generated_programs.proofs.GeneratedAdmitted.{generated-admitted}
use Rattle.generated_programs.proofs.GeneratedFiles.{generated-files}
use Rattle.command_line.specs.declared.words.Generation.{Generation}
use Rattle.command_line.specs.Chosen.{Chosen, run_chosen, chosen_for, either}
use Rattle.command_line.specs.Words.{IsGeneration, IsSound, Read, generated_main}
use Rattle.jfluid_cli.specs.declared.refusal.Refusal.TheVariants.{NotAdmitted, NoMemory}
use Rattle.jfluid_cli.specs.Asking.{asked_by}
use Rattle.jfluid_cli.specs.Causes.{CallInputs, Accepts, AreContentsOf}
use Rattle.jfluid_cli.specs.Contents.{AreContentsBy, SpellAlone, SpellsAlone}
use Rattle.jfluid_cli.specs.Refusals.{is_memory, refusal_for}
use Rattle.jfluid_cli.specs.Stages.{IsBeforeTheRun, IsLoaded}
use Rattle.jfluid_cli.specs.Top.{answer_for}
use Rattle.jfluid_cli.specs.Words.{Command, command_for, command_with}
use Rattle.jfluid_cli.proofs.Commands.Accepted.{accepted-sound}
use Rattle.jfluid_cli.proofs.Runs.Admitted.{first-classes}
use Rattle.jfluid_cli.proofs.Runs.BeforeTheRun.{due, due-memory}
use Rattle.jfluid_cli.proofs.Reports.Pairs.{zip-weaken}
use Rattle.jfluid_cli.proofs.Files.Spelled.{spelled-alone, spelled-program, spells-alone}

-- ---- what is generated

-- The program of a command is generated of this.
pub record IsGeneratedOf (k : Command) (o : Generation) : Type 0 where
  pub generated : k.generated ≡ Some o
  pub main : k.main ≡ generated_main
  pub some : 1 ≤ o.size
  pub most : o.size ≤ 200

-- what holds of the numbers of sound words
pub generation-fits : (r : Read) (o : Generation) → IsSound r → r.generated ≡ Some o → IsGeneration r o
generation-fits r o sound is = subst (λ (x : Option Generation). IfSome x (IsGeneration r)) is sound.generated

-- the main class is the generated one, whatever the plan names
main-of : (r : Read) (p : Plan) (c : Chosen) → r.main ≡ Some generated_main → Some c ≡ run_chosen r p → c.main ≡ generated_main
main-of r p c main is =
    let e : Some c ≡ option_map (chosen_for r p) (either (Some generated_main) p.main) =
    is ∙ ap (λ (o : Option (List ℕ)). option_map (chosen_for r p) (either o p.main)) main in
    ap (λ (x : Chosen). x.main) (same_Some c (chosen_for r p generated_main) e)

pub made-generated : (r : Read) (p : Plan) (c : Chosen) (o : Generation) → IsSound r → r.generated ≡ Some o
    → Some c ≡ run_chosen r p → IsGeneratedOf (command_with r p c) o
made-generated r p c o sound own is =
    let fits = generation-fits r o sound own in
    record { generated = own; main = main-of r p c fits.main is; some = fits.some; most = fits.most }

-- ---- its classes

pub answer-generated : (k : Command) (o : Generation) → IsGeneratedOf k o
    → answer_for (asked_by k) (classes_generated o.seed o.size) ≡ admission_of_generated o.seed o.size k.plan
answer-generated k o is =
    ap (λ (m : List ℕ). admission_of (classes_generated o.seed o.size) m k.plan) is.main
    ∙ generated-admitted o.seed o.size k.plan is.some is.most

pub alone-generated : (seed size : ℕ) → 1 ≤ size → size ≤ 200
    → SpellAlone (generated_contents seed size) (classes_generated seed size)
alone-generated seed size some most =
    zip-weaken IsFile SpellsAlone (generated_contents seed size) (classes_generated seed size) spells-alone
    (generated-files seed size some most)

pub told-generated : (told : Option Told) (k : Command) (o : Generation) (contents : List (List ℕ))
    → k.generated ≡ Some o → contents ≡ generated_contents o.seed o.size → AreContentsOf told k contents
told-generated told k o contents own is =
    subst (λ (x : Option Generation). AreContentsBy told x k.files contents) (sym own) is

-- ---- what is loaded

pub loaded-generated : (told : Option Told) (k : Command) (o : Generation) (contents : List (List ℕ)) (p : Program)
    → IsGeneratedOf k o → contents ≡ generated_contents o.seed o.size
    → admission_of_generated o.seed o.size k.plan ≡ Ok p
    → IsAdmittedProgram (classes_generated o.seed o.size) generated_main p → IsLoaded told k contents p
loaded-generated told k o contents p is contents_are admitted sound =
    let classes : List ClassFile = classes_generated o.seed o.size in
    let alone : SpellAlone contents classes =
    subst (λ (xs : List (List ℕ)). SpellAlone xs classes) (sym contents_are)
    (alone-generated o.seed o.size is.some is.most) in
    let first = first-classes classes generated_main p sound in
    record {
      told_as = told-generated told k o contents is.generated contents_are;
      program_is = spelled-program (asked_by k) contents classes p alone first
          (answer-generated k o is ∙ admitted);
      alone = spelled-alone contents classes p alone first;
    }

-- ---- what is refused

-- a fault of admission that is no want of memory
pub due-generated : (g : CallInputs) (k : Command) (o : Generation) (fault : AdmitError) → Accepts g k → IsGeneratedOf k o
    → IsRefusedFor (admission_of_generated o.seed o.size k.plan) fault → IsBeforeTheRun g (refusal_for fault)
due-generated g k o fault accepts is refused = by (is_memory fault) refl where
  by : (b : Bool) → is_memory fault ≡ b → IsBeforeTheRun g (cond b NoMemory (NotAdmitted fault))
  by true memory = due-memory g
  by false other =
      due g (NotAdmitted fault) refl (record {
        command = k;
        accepts = accepts;
        contents = generated_contents o.seed o.size;
        told_as = told-generated g.told k o (generated_contents o.seed o.size) is.generated refl;
        holds = (
          classes_generated o.seed o.size,
          generated-files o.seed o.size is.some is.most,
          answer-generated k o is ∙ refused (λ same. false≢true (sym other ∙ ap is_memory same)),
        );
      })

-- ---- from the words

-- words with a plan are the words of their command
record HasChoice (words : Read) (p : Plan) (k : Command) : Type 0 where
  choice : Chosen
  is : Some choice ≡ run_chosen words p
  with : command_with words p choice ≡ k

choice-of : (words : Read) (p : Plan) (k : Command) → command_for words p ≡ Some k → HasChoice words p k
choice-of words p k asked = by (run_chosen words p) refl asked
  where
    by : (o : Option Chosen) → run_chosen words p ≡ o → option_map (command_with words p) o ≡ Some k → HasChoice words p k
    by None e asked = absurd cc
    by (Some c) e asked = record { choice = c; is = sym e; with = same_Some (command_with words p c) k asked }

-- a command that is accepted and generates its program has all that is asked of one
pub generated-of : (g : CallInputs) (k : Command) (o : Generation) → Accepts g k → k.generated ≡ Some o → IsGeneratedOf k o
generated-of g k o a own =
    let made = choice-of a.words k.plan k a.asked in
    subst (λ (x : Command). IsGeneratedOf x o) made.with
    (made-generated a.words k.plan made.choice o (accepted-sound g.words a.words a.read)
    (ap (λ (x : Command). x.generated) made.with ∙ own) made.is)

-- and so has one whose words are
pub generated-by : (g : CallInputs) (k : Command) (a : Accepts g k) → is_some a.words.generated ≡ true
    → (o : Generation) × IsGeneratedOf k o
generated-by g k a some = by k.generated refl
  where
    same : a.words.generated ≡ k.generated
    same = ap (λ (x : Command). x.generated) (choice-of a.words k.plan k a.asked).with

    by : (x : Option Generation) → k.generated ≡ x → (o : Generation) × IsGeneratedOf k o
    by None e = absurd (false≢true (sym (ap (λ (y : Option Generation). is_some y) (same ∙ e)) ∙ some))
    by (Some o) e = (o, generated-of g k o a e)
