use Rattle.std.proofs.Common.{subst, sym, arith, length, ◌≤◌}
use Rattle.std.specs.Prelude.{◌≢◌}
use Rattle.jfluid_cli.specs.declared.refusal.Refusal.{Refusal}
use Rattle.jfluid_cli.specs.Refusals.{status_of}
use Rattle.jfluid_cli.specs.Stages.{IsBeforeTheRun}
use Rattle.jfluid_cli.specs.Asking.{asked_for}
use Rattle.jfluid_cli.specs.Contents.{SpellsAlone}
use Rattle.jfluid_cli.proofs.Runs.BeforeTheRun.{admission-without_fault, due-admission, due-unread}
use Rattle.jfluid_cli.proofs.Runs.Admitted.{acts-in-order, first-classes}
use Rattle.jfluid_cli.proofs.Actions.Alternating.{acts-alternating}
use Rattle.jfluid_cli.proofs.Reports.Pairs.{zip-length}
use Rattle.jfluid_cli.proofs.Files.Spelled.{spelled-program, spelled-alone}
use Rattle.jfluid_cli.proofs.loading.read_program.Goals as goal

pub admit-requires-clause-count : goal.admit-requires-clause-count
admit-requires-clause-count c =
    let many = zip-length SpellsAlone c.args.contents.now c.in-Ok.classes c.in-Ok.ensures.found in
    let few : length c.args.contents.now ≤ 1024 = c.requires.few in
    omega (arith, many, few)

pub admit-requires-clause-heap : goal.admit-requires-clause-heap
admit-requires-clause-heap c = c.requires.within.heap

-- ---- what was not read

pub returns-in-Err-clause-before_the_run : goal.returns-in-Err-clause-before_the_run
returns-in-Err-clause-before_the_run c g f =
    due-unread g (asked_for c.args.main.now c.args.plan.now) c.args.contents.now c.in-Err.refusal f
    c.in-Err.ensures.errors

-- ---- what runs

pub returns-in-Ok-admit-clause-ok : goal.returns-in-Ok-admit-clause-ok
returns-in-Ok-admit-clause-ok c =
    spelled-program (asked_for c.args.main.now c.args.plan.now) c.args.contents.now c.in-Ok.classes
    c.in-Ok-admit.program c.in-Ok.ensures.found
    (first-classes c.in-Ok.classes c.args.main.now c.in-Ok-admit.program c.in-Ok-admit.ensures.sound) c.in-Ok-admit.ensures.admitted

pub returns-in-Ok-admit-clause-alone : goal.returns-in-Ok-admit-clause-alone
returns-in-Ok-admit-clause-alone c =
    spelled-alone c.args.contents.now c.in-Ok.classes c.in-Ok-admit.program c.in-Ok.ensures.found
    (first-classes c.in-Ok.classes c.args.main.now c.in-Ok-admit.program c.in-Ok-admit.ensures.sound)

pub returns-in-Ok-admit-clause-admitted : goal.returns-in-Ok-admit-clause-admitted
returns-in-Ok-admit-clause-admitted c =
    record { classes = c.in-Ok.classes; name = c.args.main.now; is = c.in-Ok-admit.ensures.sound }

pub returns-in-Ok-admit-clause-acts : goal.returns-in-Ok-admit-clause-acts
returns-in-Ok-admit-clause-acts c = record {
  in_order = acts-in-order c.in-Ok.classes c.args.main.now c.args.plan.now c.in-Ok-admit.program
      c.requires.within.rising c.in-Ok-admit.ensures.admitted;
  alternate = acts-alternating c.in-Ok.classes c.args.main.now c.args.plan.now c.in-Ok-admit.program
      c.requires.alternate c.in-Ok-admit.ensures.admitted;
}

-- ---- what does not

pub returns-in-Err-admit-clause-before_the_run : goal.returns-in-Err-admit-clause-before_the_run
returns-in-Err-admit-clause-before_the_run c g f =
    subst (IsBeforeTheRun g) (sym c.refusal_for.ensures)
    (due-admission g (asked_for c.args.main.now c.args.plan.now) c.args.contents.now c.in-Ok.classes
    c.in-Err-admit.fault f c.in-Ok.ensures.found c.in-Err-admit.ensures.admitted)

pub returns-in-Err-admit-clause-without_fault : goal.returns-in-Err-admit-clause-without_fault
returns-in-Err-admit-clause-without_fault c =
    subst (λ (e : Refusal). status_of e ≢ 7) (sym c.refusal_for.ensures) (admission-without_fault c.in-Err-admit.fault)
