-- What is answered for the generated classes: their program, unless an action names no method.
use Rattle.std.proofs.Common.{◌≡◌, ℕ, ◌+◌, ◌≤◌, List, [], ◌∷◌, ◌++◌, length, map, None, Some, Ok, Err, refl, subst, length-append, arith}
use Rattle.std.specs.Prelude.{Option, Result, IfErr}
use Rattle.std.proofs.lemmas.Bool.{le-ltb}
use Rattle.jf_bytes.proofs.Lists.{each_append}
use Rattle.base_classes.specs.BuiltInFiles.{built_in_files}
use Rattle.plan_text.specs.declared.plan.Action.{Action}
use Rattle.plan_text.specs.declared.plan.Plan.{Plan}
use Rattle.jvm_model.specs.declared.event.Act.{Act}
use Rattle.jvm_model.specs.declared.program.Program.{Program}
use Rattle.jvm_model.specs.Basis.Programs.{methods_numbered}
use Rattle.jvm_model.specs.Soundness.SoundPrograms.{main_in}
use Rattle.program_gen.specs.Generated.{classes_generated}
use Rattle.program_gen.specs.Making.{class_file_of}
use Rattle.program_gen.specs.Programs.{main_row, program_rows, rows_below}
use Rattle.program_gen.proofs.GeneratedFacts.{generated-count}
use Rattle.code_admission.specs.declared.error.AdmitError.{AdmitError}
use Rattle.code_admission.specs.declared.error.AdmitError.TheVariants as admit
use Rattle.admit_check.specs.Admission.{acts_from, act_of, act_with, admission_of, count_fault, with_acts}
use Rattle.generated_programs.specs.Admitted.{IsRefusedFor, NamesNoMethod, admission_of_generated, generated_program, main_name}
use Rattle.generated_programs.proofs.FewMethods.{HasFewMethods, built_in-count, built_in-few, numbered-few}
use Rattle.generated_programs.proofs.GeneratedFine.{generated-few, generated-fine, rows-fine}
use Rattle.generated_programs.proofs.GeneratedMain.{main-found}

few-numbered : (seed size : ℕ) → 1 ≤ size → size ≤ 200 → length (methods_numbered (classes_generated seed size ++ built_in_files)) ≤ 32768
few-numbered seed size some most =
    let own = generated-few (program_rows seed size) (rows-fine seed size some most) in
    let few = numbered-few 0 (classes_generated seed size ++ built_in_files) (each_append HasFewMethods (classes_generated seed size) built_in_files own built_in-few) in
    omega (arith, few, length-append (classes_generated seed size) built_in_files, generated-count seed size, built_in-count)

count-fine : (seed size : ℕ) (plan : Plan) → 1 ≤ size → size ≤ 200 → count_fault (generated_program seed size plan) ≡ None
count-fine seed size plan some most = rw (le-ltb 32768 (length (methods_numbered (classes_generated seed size ++ built_in_files))) (few-numbered seed size some most)) refl

main-is : (seed size : ℕ) (plan : Plan) → 1 ≤ size → size ≤ 200 → main_in (generated_program seed size plan) (length (classes_generated seed size)) main_name ≡ Some 0
main-is seed size plan some most =
    let first = (rows-fine seed size some most).0 in
    main-found (generated_program seed size plan) (class_file_of main_row) (map class_file_of (rows_below seed size size) ++ built_in_files) (length (classes_generated seed size))
    (omega (arith, generated-count seed size))
    (record { classes = refl; methods = refl; named = first.well.named; members = first.well.members; fine = first.fine.methods })

pub generated-admitted : (seed size : ℕ) (plan : Plan) → 1 ≤ size → size ≤ 200 → admission_of (classes_generated seed size) main_name plan ≡ admission_of_generated seed size plan
unfolding admission_of
generated-admitted seed size plan some most =
    rw (generated-fine seed size some most, count-fine seed size plan some most, main-is seed size plan some most) refl

-- ---- which faults there are

with-none : (o : Option Act) (at : ℕ) (more : Result (List Act) AdmitError) → IfErr more NamesNoMethod → IfErr (act_with o at more) NamesNoMethod
with-none None at more h = tt
with-none (Some act) at (Ok acts) h = tt
with-none (Some act) at (Err fault) h = h

acts-none : (p : Program) (at : ℕ) (actions : List Action) → IfErr (acts_from p at actions) NamesNoMethod
acts-none p at [] = tt
acts-none p at (a ∷ rest) = with-none (act_of p a) at (acts_from p (at + 1) rest) (acts-none p (at + 1) rest)

acts-given : (p : Program) (main : ℕ) (acts : Result (List Act) AdmitError) → IfErr acts NamesNoMethod → IfErr (with_acts p main acts) NamesNoMethod
acts-given p main (Ok acts) h = tt
acts-given p main (Err fault) h = h

pub only-roots : (seed size : ℕ) (plan : Plan) → IfErr (admission_of_generated seed size plan) NamesNoMethod
only-roots seed size plan =
    let p = generated_program seed size plan in
    acts-given p 0 (acts_from p 1 plan.actions) (acts-none p 1 plan.actions)

given : (seed size : ℕ) (plan : Plan) (fault : AdmitError) → admission_of_generated seed size plan ≡ Err fault → NamesNoMethod fault
given seed size plan fault e = subst (λ r. IfErr r NamesNoMethod) e (only-roots seed size plan)

-- a fault that is told is one of those
pub told-roots : (seed size : ℕ) (plan : Plan) (fault : AdmitError) → IsRefusedFor (admission_of_generated seed size plan) fault → NamesNoMethod fault
told-roots seed size plan (admit.NoSuchRoot at) refused = tt
told-roots seed size plan admit.NoMemory refused = tt
told-roots seed size plan (admit.ReservedName k) refused = given seed size plan (admit.ReservedName k) (refused (λ e. cc e))
told-roots seed size plan (admit.Duplicate k) refused = given seed size plan (admit.Duplicate k) (refused (λ e. cc e))
told-roots seed size plan (admit.BadShape k why) refused = given seed size plan (admit.BadShape k why) (refused (λ e. cc e))
told-roots seed size plan (admit.BadCode k method at why) refused = given seed size plan (admit.BadCode k method at why) (refused (λ e. cc e))
told-roots seed size plan (admit.FloatingPoint k place) refused = given seed size plan (admit.FloatingPoint k place) (refused (λ e. cc e))
told-roots seed size plan (admit.NotProfilable k method why) refused = given seed size plan (admit.NotProfilable k method why) (refused (λ e. cc e))
told-roots seed size plan (admit.TooManyMethods count) refused = given seed size plan (admit.TooManyMethods count) (refused (λ e. cc e))
told-roots seed size plan admit.NoMain refused = given seed size plan admit.NoMain (refused (λ e. cc e))
