use Rattle.std.proofs.Common.{List, ℕ, Ok, subst}
use Rattle.plan_text.specs.Lines.{IsPlanRead}
use Rattle.jfluid_cli.specs.Sinks.{files_view}
use Rattle.jfluid_cli.specs.Stages.{IsTextRefusal}
use Rattle.jfluid_cli.proofs.Files.ToldPlans.{told-plan, told-fault, told-unfetched}
use Rattle.jfluid_cli.proofs.plans.told_plan.Goals as goal

pub returns-in-Err-clause-refused : goal.returns-in-Err-clause-refused
returns-in-Err-clause-refused g c =
    told-unfetched (g.F.Files.contents c.args.files.now) c.args.name.now
    (files_view (g.F.Files.faults c.args.files.now) (g.F.Files.last_failed c.args.files.now))
    (files_view (g.F.Files.faults c.fetch_plan.new.files) (g.F.Files.last_failed c.fetch_plan.new.files))
    c.in-Err.refusal c.in-Err.ensures.failed

pub returns-in-Ok-read_text-clause-planned : goal.returns-in-Ok-read_text-clause-planned
returns-in-Ok-read_text-clause-planned g c =
    told-plan (g.F.Files.contents c.args.files.now) c.args.name.now c.in-Ok.bytes (Ok c.in-Ok-read_text.plan) c.in-Ok.ensures.found
    (subst (λ (bytes : List ℕ). IsPlanRead bytes (Ok c.in-Ok-read_text.plan)) c.as_slice.ensures c.in-Ok-read_text.ensures.read)

pub returns-clause-refused : goal.returns-clause-refused
returns-clause-refused g c =
    told-fault (g.F.Files.contents c.args.files.now) c.args.name.now c.in-Ok.bytes c.in-Err-read_text.refusal c.in-Ok.ensures.found
    (subst (λ (bytes : List ℕ). IsTextRefusal bytes c.in-Err-read_text.refusal) c.as_slice.ensures c.in-Err-read_text.ensures.refused)
