-- What admission answers is what is said of generated classes.
use Rattle.std.proofs.Common.{◌≡◌, ℕ, ◌≤◌, List, length, Ok, Err, ap, sym, subst, ◌∙◌, arith}
use Rattle.std.specs.Prelude.{Result, IfOk, IfErr}
use Rattle.const_pool.specs.declared.class.ClassFile.{ClassFile}
use Rattle.jvm_model.specs.declared.program.Program.{Program}
use Rattle.plan_text.specs.declared.plan.Plan.{Plan}
use Rattle.program_gen.specs.Generated.{classes_generated}
use Rattle.program_gen.proofs.GeneratedFacts.{generated-count}
use Rattle.code_admission.specs.declared.error.AdmitError.{AdmitError}
use Rattle.admit_check.specs.Admission.{IsAdmittedProgram, admission_of}
use Rattle.admit_check.specs.Stages.{Answers}
use Rattle.generated_programs.specs.Admitted.{IsRefusedFor, admission_of_generated, main_name}
use Rattle.generated_programs.proofs.GeneratedAdmitted.{generated-admitted}

pub few-classes : (seed size : ℕ) (classes : List ClassFile) → size ≤ 200 → classes ≡ classes_generated seed size → length classes ≤ 4096
few-classes seed size classes most is = subst (λ cs. length cs ≤ 4096) (sym is) (omega (arith, generated-count seed size))

module _ (seed size : ℕ) (plan : Plan) (classes : List ClassFile) (main : List ℕ) (some : 1 ≤ size) (most : size ≤ 200) (is : classes ≡ classes_generated seed size) (named : main ≡ main_name) where
  same-answer : admission_of classes main plan ≡ admission_of_generated seed size plan
  same-answer =
      ap (λ cs. admission_of cs main plan) is ∙ ap (λ m. admission_of (classes_generated seed size) m plan) named ∙ generated-admitted seed size plan some most

  pub admitted-so : (result : Result Program AdmitError) → Answers result (admission_of classes main plan) → IfOk result (λ p. admission_of_generated seed size plan ≡ Ok p)
  admitted-so (Ok p) answers = sym same-answer ∙ answers
  admitted-so (Err fault) answers = tt

  pub refused-so : (result : Result Program AdmitError) → Answers result (admission_of classes main plan) → IfErr result (IsRefusedFor (admission_of_generated seed size plan))
  refused-so (Ok p) answers = tt
  refused-so (Err fault) answers = λ other. sym same-answer ∙ answers other

  pub sound-so : (result : Result Program AdmitError) → IfOk result (IsAdmittedProgram classes main) → IfOk result (IsAdmittedProgram (classes_generated seed size) main_name)
  sound-so (Ok p) sound = subst (λ cs. IsAdmittedProgram cs main_name p) is (subst (λ m. IsAdmittedProgram classes m p) named sound)
  sound-so (Err fault) sound = tt
