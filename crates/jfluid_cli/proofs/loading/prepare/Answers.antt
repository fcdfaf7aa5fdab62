use Rattle.std.proofs.Common.{◌∙◌, Option, Ok, refl, sym, subst}
use Rattle.byte_streams.specs.Streams.{Told}
use Rattle.command_line.specs.Words.{read_in}
use Rattle.jfluid_cli.specs.Asking.{IsPlanFor}
use Rattle.jfluid_cli.specs.Sinks.{files_view}
use Rattle.jfluid_cli.proofs.Runs.BeforeTheRun.{due-plan, later-fault}
use Rattle.jfluid_cli.proofs.loading.prepare.Goals as goal

pub returns-in-Err-clause-before_the_run : goal.returns-in-Err-clause-before_the_run
returns-in-Err-clause-before_the_run g c = λ given read told.
    due-plan given (read_in c.args.words.now) (g.F.Files.contents c.args.files.now) c.in-Err.refusal read told
    c.in-Err.ensures.refused

pub returns-in-Ok-load-clause-ok : goal.returns-in-Ok-load-clause-ok
returns-in-Ok-load-clause-ok g c = λ given read told.
    c.in-Ok-load.ensures.ok given
    (record {
      read = read;
      planned = subst (λ (t : Option Told). IsPlanFor t (read_in c.args.words.now) (Ok c.in-Ok.plan)) (sym told)
          c.in-Ok.ensures.planned;
    })
    (told ∙ sym c.in-Ok.ensures.stay)

pub returns-in-Err-load-clause-before_the_run : goal.returns-in-Err-load-clause-before_the_run
returns-in-Err-load-clause-before_the_run g c = λ given read told.
    c.in-Err-load.ensures.before_the_run given
    (record {
      read = read;
      planned = subst (λ (t : Option Told). IsPlanFor t (read_in c.args.words.now) (Ok c.in-Ok.plan)) (sym told)
          c.in-Ok.ensures.planned;
    })
    (told ∙ sym c.in-Ok.ensures.stay)

pub returns-in-Err-load-clause-cause : goal.returns-in-Err-load-clause-cause
returns-in-Err-load-clause-cause g c =
    let words = read_in c.args.words.now in
    later-fault words.plan words.files
    (files_view (g.F.Files.faults c.args.files.now) (g.F.Files.last_failed c.args.files.now))
    (files_view (g.F.Files.faults c.plan_of.new.files) (g.F.Files.last_failed c.plan_of.new.files))
    (files_view (g.F.Files.faults c.load.new.files) (g.F.Files.last_failed c.load.new.files))
    c.in-Err-load.refusal (c.in-Ok.ensures.without_fault refl) c.in-Err-load.ensures.cause
