use Rattle.std.proofs.Common.{List, ℕ, refl, sym, subst}
use Rattle.std.specs.Prelude.{Ok}
use Rattle.plan_text.specs.declared.plan.Plan.{Plan}
use Rattle.command_line.specs.Words.{read_in}
use Rattle.jvm_model.specs.declared.program.Program.{Program}
use Rattle.jfluid_cli.specs.Actions.{CanBeTaken}
use Rattle.jfluid_cli.specs.Causes.{CallInputs}
use Rattle.jfluid_cli.specs.Stages.{IsPrepared}
use Rattle.jfluid_cli.proofs.Runs.Carried.{carried-refused, carried-input, carried-memory, carried-run, of-program, rest-of-input}
use Rattle.jfluid_cli.proofs.Reports.OnDevices.{carried-from, carried-on, ran-on}
use Rattle.jfluid_cli.proofs.top.carry_out.Goals as goal

pub returns-in-Err-clause-carried : goal.returns-in-Err-clause-carried
returns-in-Err-clause-carried g c = λ list read. carried-from (Ok list) _ _ _ _ _ c.devices.view_is
    (carried-refused _ (read_in c.args.words.now) c.in-Err.refusal read c.requires.empty
    (record { taken = refl; faults = refl }) (record { taken = refl; faults = refl })
    (record { taken = refl; faults = refl }) refl
    (c.in-Err.ensures.before_the_run _ read refl) c.in-Err.ensures.cause)

pub returns-in-Err-take-clause-carried : goal.returns-in-Err-take-clause-carried
returns-in-Err-take-clause-carried g c =
    let l = c.in-Ok.loaded in
    λ list read. carried-from (Ok list) _ _ _ _ _ c.devices.view_is
    (carried-input _ c.in-Err-take.refusal c.requires.empty
    (record { taken = refl; faults = refl }) (record { taken = refl; faults = refl })
    (record { taken = refl; faults = refl }) (c.in-Ok.ensures.without_fault refl)
    (of-program _ l.plan l.budget l.contents l.program (c.in-Ok.ensures.ok _ read refl))
    c.in-Err-take.ensures.refused)

pub returns-in_default-clause-carried : goal.returns-in_default-clause-carried
returns-in_default-clause-carried g c = λ list read. carried-from (Ok list) _ _ _ _ _ c.devices.view_is
    (carried-memory _ c.requires.empty
    (record { taken = refl; faults = refl }) (record { taken = refl; faults = refl })
    (record { taken = refl; faults = refl }) (c.in-Ok.ensures.without_fault refl)
    (rest-of-input _ _ c.in-Ok-take.bytes c.in-Ok-take.ensures.short c.in-Ok-take.ensures.taken))

pub run_made-requires-clause-acts : goal.run_made-requires-clause-acts
run_made-requires-clause-acts g c =
    subst (λ (p : Program). CanBeTaken p.acts) (sym c.in-Ok-make.ensures.runs.program_is) c.in-Ok.ensures.acts

pub returns-clause-carried : goal.returns-clause-carried
returns-clause-carried g c =
    let l = c.in-Ok.loaded in
    let made = c.in-Ok-make.made_of in
    λ list read.
    (let given : CallInputs = record {
      words = list;
      told = g.F.Files.contents c.devices.inside.files;
      left = g.I.Source.left c.devices.inside.input;
    } in
    carried-on (Ok list) _ _ _ _ _ _ c.devices.view_is (sym c.run_made.ensures.stay)
    (carried-run _ c.is_some-summary.result l.budget made c.run_made.result (read_in c.args.words.now) read
    c.is_some-summary.ensures
    (record {
      program = l.program;
      bytes = c.in-Ok-take.bytes;
      prepared = subst (λ (p : Plan). IsPrepared given p l.budget made.classes l.program)
          (sym c.in-Ok-make.ensures.plan)
          (subst (λ (contents : List (List ℕ)). IsPrepared given l.plan l.budget contents l.program) (sym c.in-Ok-make.ensures.classes) (c.in-Ok.ensures.ok given read refl));
      runs = c.in-Ok-make.ensures.runs;
      input = c.in-Ok-take.ensures.all;
      short = c.in-Ok-take.ensures.short;
      rest = rest-of-input _ _ c.in-Ok-take.bytes c.in-Ok-take.ensures.short c.in-Ok-take.ensures.taken;
      ended = c.in-Ok-take.ensures.ended refl;
    })
    c.run_made.ensures.same
    (ran-on _ _ _ _ (record { out = refl; report = refl; images = refl })
    (record { out = refl; report = refl; images = refl })
    c.is_some-summary.result _ l.budget _ c.run_made.result c.run_made.ensures.run)
    c.run_made.ensures.prefix c.run_made.ensures.images
    c.run_made.ensures.unasked
    (c.in-Ok.ensures.without_fault refl) (c.in-Ok-take.ensures.without_fault refl)))
