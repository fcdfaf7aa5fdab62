-- What an admitted program is: its classes have no fault, its methods are few, its main method and its acts are those
-- of the plan.
use Rattle.std.proofs.Common.{◌≡◌, ℕ, ◌≤◌, Bool, true, false, List, length, Option, Some, None, Result, Ok, Err, [], refl}
use Rattle.std.specs.Prelude.{nat_lt}
use Rattle.std.proofs.lemmas.Bool.{ltb-false}
use Rattle.const_pool.specs.declared.class.ClassFile.{ClassFile}
use Rattle.jvm_model.specs.declared.event.Act.{Act}
use Rattle.jvm_model.specs.declared.program.Program.{Program}
use Rattle.plan_text.specs.declared.plan.Plan.{Plan}
use Rattle.code_admission.specs.declared.error.AdmitError.{AdmitError}
use Rattle.code_admission.specs.declared.error.AdmitError.TheVariants.{TooManyMethods}
use Rattle.code_admission.specs.Checks.{fault_if}
use Rattle.jvm_model.specs.Soundness.SoundPrograms.{main_in}
use Rattle.admit_check.specs.Admission.{acts_from, admission, classes_fault, program_completed, count_fault, program_with, unless_fault, with_acts, with_main}

-- behind the last class
pub record IsCompletion (p : Program) (given : ℕ) (name : List ℕ) (plan : Plan) (whole : Program) : Type 0 where
  pub few : length p.methods ≤ 32768
  pub main : ℕ
  pub found : main_in p given name ≡ Some main
  pub acts : List Act
  pub told : acts_from p 1 plan.actions ≡ Ok acts
  pub is : record p { main = main; acts = acts } ≡ whole

pub record IsAdmitted (classes built_in : List ClassFile) (name : List ℕ) (plan : Plan) (whole : Program) : Type 0 where
  pub fine : classes_fault [] classes ≡ None
  pub completion : IsCompletion (program_with classes built_in plan) (length classes) name plan whole

same_ok : (x y : Program) → ◌≡◌ {A = Result Program AdmitError} (Ok x) (Ok y) → x ≡ y
same_ok x y e = cc e

with_acts-ok : (p : Program) (main : ℕ) (told : Result (List Act) AdmitError) (whole : Program) → with_acts p main told ≡ Ok whole
    → (acts : List Act) × (told ≡ Ok acts) × (record p { main = main; acts = acts } ≡ whole)
with_acts-ok p main (Ok acts) whole e = (acts, refl, same_ok _ _ e)
with_acts-ok p main (Err fault) whole e = absurd cc

with_main-ok : (p : Program) (plan : Plan) (found : Option ℕ) (whole : Program) → with_main p plan found ≡ Ok whole
    → (main : ℕ) × (found ≡ Some main) × (with_acts p main (acts_from p 1 plan.actions) ≡ Ok whole)
with_main-ok p plan (Some main) whole e = (main, refl, e)
with_main-ok p plan None whole e = absurd cc

no_fault : (fault : Option AdmitError) (answer : Result Program AdmitError) (whole : Program) → unless_fault fault answer ≡ Ok whole → (fault ≡ None) × (answer ≡ Ok whole)
no_fault None answer whole e = (refl, e)
no_fault (Some fault) answer whole e = absurd cc

not_many : (many : Bool) (fault : AdmitError) → fault_if many fault ≡ None → many ≡ false
not_many false fault e = refl
not_many true fault e = absurd cc

completion : (p : Program) (given : ℕ) (name : List ℕ) (plan : Plan) (whole : Program) → program_completed p given name plan ≡ Ok whole → IsCompletion p given name plan whole
completion p given name plan whole e =
    let counted = no_fault (count_fault p) (with_main p plan (main_in p given name)) whole e in
    let mained = with_main-ok p plan (main_in p given name) whole counted.1 in
    let acted = with_acts-ok p mained.0 (acts_from p 1 plan.actions) whole mained.2 in
    record {
      few = ltb-false 32768 (length p.methods) (not_many (nat_lt 32768 (length p.methods)) (TooManyMethods (length p.methods)) counted.0);
      main = mained.0;
      found = mained.1;
      acts = acted.0;
      told = acted.1;
      is = acted.2;
    }

pub admitted : (classes built_in : List ClassFile) (name : List ℕ) (plan : Plan) (whole : Program) → admission classes built_in name plan ≡ Ok whole → IsAdmitted classes built_in name plan whole
admitted classes built_in name plan whole e =
    let passed = no_fault (classes_fault [] classes) (program_completed (program_with classes built_in plan) (length classes) name plan) whole e in
    record { fine = passed.0; completion = completion (program_with classes built_in plan) (length classes) name plan whole passed.1 }
