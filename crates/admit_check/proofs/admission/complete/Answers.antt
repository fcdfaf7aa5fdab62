use Rattle.std.proofs.Common.{sym, ap, ◌∙◌, length, arith}
use Rattle.std.proofs.lemmas.Bool.{le-ltb}
use Rattle.admit_check.specs.Admission.{acts_from}
use Rattle.admit_check.proofs.Completed.{completes}
use Rattle.admit_check.proofs.admission.complete.Goals as goal

pub returns-in-Ok : goal.returns-in-Ok
returns-in-Ok c = completes c.args.program c.args.given c.args.main.now c.args.plan.now c.in-Some.main c.in-Ok.acts c.with_acts.result (le-ltb 32768 (length c.args.program.methods) (omega (arith, c.len-count.ensures, c.if-count-gt-MOST_METHODS.false)))
    (sym c.main_in.ensures ∙ c.in-Some.is) (ap (acts_from c.args.program 1) (sym c.as_slice.ensures) ∙ c.in-Ok.ensures) c.with_acts.ensures
