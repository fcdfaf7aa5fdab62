use Rattle.std.proofs.Common.{◌≡◌, ℕ, List, Option, true, false, refl, sym, ap, subst, ◌∙◌}
use Rattle.std.specs.Prelude.{◌≢◌, ◌&&◌, is_none}
use Rattle.std.proofs.lemmas.Bool.{false≢true}
use Rattle.program_gen.specs.Generated.{classes_generated}
use Rattle.generated_programs.specs.Admitted.{main_name}
use Rattle.generated_programs.proofs.GeneratedAdmitted.{generated-admitted}
use Rattle.command_line.specs.Chosen.{chosen_in}
use Rattle.command_line.specs.Words.{read_in}
use Rattle.jfluid_cli.specs.declared.refusal.Refusal.{Refusal}
use Rattle.jfluid_cli.specs.Refusals.{status_of}
use Rattle.jfluid_cli.specs.Stages.{IsBeforeTheRun}
use Rattle.jfluid_cli.specs.Words.{Command, command_with}
use Rattle.jfluid_cli.proofs.Runs.Admitted.{acts-in-order}
use Rattle.jfluid_cli.proofs.Actions.Alternating.{acts-alternating}
use Rattle.jfluid_cli.proofs.Runs.BeforeTheRun.{admission-without_fault, made-command}
use Rattle.jfluid_cli.proofs.Files.Generating.{due-generated, generation-fits, loaded-generated, made-generated}
use Rattle.jfluid_cli.proofs.loading.load_generated.Goals as goal

pub admit_generated-requires-clause-some : goal.admit_generated-requires-clause-some
admit_generated-requires-clause-some c =
    (generation-fits (read_in c.args.words.now) c.args.generation c.requires.sound c.requires.own).some

pub admit_generated-requires-clause-most : goal.admit_generated-requires-clause-most
admit_generated-requires-clause-most c =
    (generation-fits (read_in c.args.words.now) c.args.generation c.requires.sound c.requires.own).most

pub admit_generated-requires-clause-heap : goal.admit_generated-requires-clause-heap
admit_generated-requires-clause-heap c = c.requires.within.heap

-- its words have a main class
pub unreachable-requires : goal.unreachable-requires
unreachable-requires c =
    let fits = generation-fits (read_in c.args.words.now) c.args.generation c.requires.sound c.requires.own in
    let named : false ≡ true = sym (c.in_default.ensures.none
    ∙ ap (λ (main : Option (List ℕ)). is_none main && is_none c.args.plan.now.main) fits.main) in
    false≢true named

-- ---- what runs

pub returns-in-Ok-clause-ok : goal.returns-in-Ok-clause-ok
returns-in-Ok-clause-ok c = λ given with_plan.
    let words = read_in c.args.words.now in
    let of = chosen_in c.in-Some.command in
    let command : Command = command_with words c.args.plan.now of in
    let is = made-generated words c.args.plan.now of c.args.generation c.requires.sound c.requires.own
    c.in-Some.ensures.chosen in
    record {
      command = command;
      accepts = made-command given words c.args.plan.now of with_plan c.in-Some.ensures.chosen;
      plan_is = refl;
      budget_is = refl;
      loaded = loaded-generated given.told command c.args.generation c.in-Ok.made.contents c.in-Ok.made.program is
          c.in-Ok.ensures.contents c.in-Ok.ensures.admitted c.in-Ok.ensures.sound;
    }

pub returns-in-Ok-clause-small : goal.returns-in-Ok-clause-small
returns-in-Ok-clause-small c =
    (c.in-Some.ensures.sound c.requires.sound c.requires.within).budget

pub returns-in-Ok-clause-admitted : goal.returns-in-Ok-clause-admitted
returns-in-Ok-clause-admitted c = record {
  classes = classes_generated c.args.generation.seed c.args.generation.size;
  name = main_name;
  is = c.in-Ok.ensures.sound;
}

pub returns-in-Ok-clause-acts : goal.returns-in-Ok-clause-acts
returns-in-Ok-clause-acts c =
    let seed = c.args.generation.seed in
    let size = c.args.generation.size in
    let fits = generation-fits (read_in c.args.words.now) c.args.generation c.requires.sound c.requires.own in
    let admitted = generated-admitted seed size c.args.plan.now fits.some fits.most ∙ c.in-Ok.ensures.admitted in
    record {
      in_order = acts-in-order (classes_generated seed size) main_name c.args.plan.now c.in-Ok.made.program
          c.requires.within.rising admitted;
      alternate = acts-alternating (classes_generated seed size) main_name c.args.plan.now c.in-Ok.made.program
          c.requires.alternate admitted;
    }

-- ---- what does not

pub returns-in-Err-clause-before_the_run : goal.returns-in-Err-clause-before_the_run
returns-in-Err-clause-before_the_run c = λ given with_plan.
    let words = read_in c.args.words.now in
    let of = chosen_in c.in-Some.command in
    subst (IsBeforeTheRun given) (sym c.refusal_for.ensures)
    (due-generated given (command_with words c.args.plan.now of) c.args.generation c.in-Err.fault
    (made-command given words c.args.plan.now of with_plan c.in-Some.ensures.chosen)
    (made-generated words c.args.plan.now of c.args.generation c.requires.sound c.requires.own
    c.in-Some.ensures.chosen) c.in-Err.ensures.refused)

pub returns-in-Err-clause-without_fault : goal.returns-in-Err-clause-without_fault
returns-in-Err-clause-without_fault c =
    subst (λ (e : Refusal). status_of e ≢ 7) (sym c.refusal_for.ensures) (admission-without_fault c.in-Err.fault)
