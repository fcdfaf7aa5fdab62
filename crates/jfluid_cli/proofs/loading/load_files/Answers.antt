use Rattle.std.proofs.Common.{List, ℕ, Option, refl, sym, ap, subst}
use Rattle.byte_streams.specs.Streams.{Told}
use Rattle.command_line.specs.Chosen.{chosen_in}
use Rattle.command_line.specs.Words.{read_in, texts}
use Rattle.jfluid_cli.specs.Contents.{AreFetched}
use Rattle.jfluid_cli.specs.Stages.{IsFetchRefusal, IsLoaded}
use Rattle.jfluid_cli.specs.Words.{Command, command_with}
use Rattle.jfluid_cli.proofs.Runs.BeforeTheRun.{due-fetch, due-mainless, fetched, loaded, made-command}
use Rattle.jfluid_cli.proofs.loading.load_files.Goals as goal

pub returns-in_default-clause-before_the_run : goal.returns-in_default-clause-before_the_run
returns-in_default-clause-before_the_run g c = λ given with_plan told.
    due-mainless given (read_in c.args.words.now) c.args.plan.now with_plan c.in_default.ensures.chosen

pub returns-in-Err-clause-before_the_run : goal.returns-in-Err-clause-before_the_run
returns-in-Err-clause-before_the_run g c = λ given with_plan told.
    let words = read_in c.args.words.now in
    let of = chosen_in c.in-Some.command in
    due-fetch given (command_with words c.args.plan.now of) (g.F.Files.contents c.args.files.now)
    c.in-Err.refusal
    (made-command given words c.args.plan.now of with_plan c.in-Some.ensures.chosen)
    told (subst (λ (names : List (List ℕ)). IsFetchRefusal (g.F.Files.contents c.args.files.now) names c.in-Err.refusal)
    (ap texts c.deref.ensures.value) c.in-Err.ensures.refused)

pub returns-in-Ok-read_program-clause-ok : goal.returns-in-Ok-read_program-clause-ok
returns-in-Ok-read_program-clause-ok g c = λ given with_plan told.
    let words = read_in c.args.words.now in
    let of = chosen_in c.in-Some.command in
    let command : Command = command_with words c.args.plan.now of in
    record {
      command = command;
      accepts = made-command given words c.args.plan.now of with_plan c.in-Some.ensures.chosen;
      plan_is = refl;
      budget_is = refl;
      loaded = subst (λ (t : Option Told). IsLoaded t command c.in-Ok.contents c.in-Ok-read_program.program) (sym told)
          (loaded (g.F.Files.contents c.args.files.now) command c.in-Ok.contents c.as_slice.result.now
          c.in-Ok-read_program.program c.requires.own (subst (λ (names : List (List ℕ)). AreFetched (g.F.Files.contents c.args.files.now) names c.in-Ok.contents)
          (ap texts c.deref.ensures.value) c.in-Ok.ensures.found) (sym c.as_slice.ensures) c.in-Ok-read_program.ensures.ok
          c.in-Ok-read_program.ensures.alone);
    }

pub returns-in-Err-read_program-clause-before_the_run : goal.returns-in-Err-read_program-clause-before_the_run
returns-in-Err-read_program-clause-before_the_run g c = λ given with_plan told.
    let words = read_in c.args.words.now in
    let of = chosen_in c.in-Some.command in
    let command : Command = command_with words c.args.plan.now of in
    c.in-Err-read_program.ensures.before_the_run given
    (fetched given command (g.F.Files.contents c.args.files.now) c.in-Ok.contents c.as_slice.result.now
    (made-command given words c.args.plan.now of with_plan c.in-Some.ensures.chosen) c.requires.own told
    (subst (λ (names : List (List ℕ)). AreFetched (g.F.Files.contents c.args.files.now) names c.in-Ok.contents)
    (ap texts c.deref.ensures.value) c.in-Ok.ensures.found) (sym c.as_slice.ensures))

pub returns-in-Ok-read_program-clause-small : goal.returns-in-Ok-read_program-clause-small
returns-in-Ok-read_program-clause-small g c =
    (c.in-Some.ensures.sound c.requires.sound c.requires.within).budget
