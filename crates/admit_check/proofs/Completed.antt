-- What stands behind the last class.
use Rattle.std.proofs.Common.{◌≡◌, ℕ, Bool, false, List, length, Some, Ok, sym, ap, ◌∙◌}
use Rattle.std.specs.Prelude.{nat_lt}
use Rattle.jvm_model.specs.declared.event.Act.{Act}
use Rattle.jvm_model.specs.declared.program.Program.{Program}
use Rattle.plan_text.specs.declared.plan.Plan.{Plan}
use Rattle.code_admission.specs.declared.error.AdmitError.TheVariants.{TooManyMethods}
use Rattle.code_admission.specs.Checks.{fault_if}
use Rattle.jvm_model.specs.Soundness.SoundPrograms.{main_in}
use Rattle.admit_check.specs.Admission.{acts_from, program_completed, unless_fault, with_acts, with_main}

pub completes : (p : Program) (given : ℕ) (name : List ℕ) (plan : Plan) (main : ℕ) (acts : List Act) (whole : Program) → nat_lt 32768 (length p.methods) ≡ false
    → main_in p given name ≡ Some main → acts_from p 1 plan.actions ≡ Ok acts → whole ≡ record p { main = main; acts = acts } → program_completed p given name plan ≡ Ok whole
completes p given name plan main acts whole few found told is =
    ap (λ (b : Bool). unless_fault (fault_if b (TooManyMethods (length p.methods))) (with_main p plan (main_in p given name))) few
    ∙ (ap (with_main p plan) found ∙ (ap (with_acts p main) told ∙ sym (ap Ok is)))
