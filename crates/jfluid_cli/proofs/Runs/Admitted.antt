-- What is known of a program that was admitted with a plan.
use Rattle.std.proofs.Common.{◌≡◌, ℕ, ◌+◌, ◌≤◌, List, [], ◌∷◌, length, take, Option, Some, None, Result, Ok, Err, refl, sym, ap, subst, ◌∙◌, arith}
use Rattle.std.specs.List.{AllByRecursion, AllZip}
use Rattle.std.specs.Option.{option_map}
use Rattle.std.proofs.lemmas.List.{take_at}
use Rattle.const_pool.specs.declared.class.ClassFile.{ClassFile}
use Rattle.base_classes.specs.BuiltInFiles.{built_in_files}
use Rattle.plan_text.specs.declared.plan.Action.{Action}
use Rattle.plan_text.specs.declared.plan.Plan.{Plan}
use Rattle.plan_text.specs.Bounds.{DoNotFall}
use Rattle.jvm_model.specs.declared.event.Act.{Act}
use Rattle.jvm_model.specs.declared.program.Program.{Program}
use Rattle.jvm_model.specs.Soundness.Calls.{AreFrom}
use Rattle.jvm_model.specs.Soundness.SoundPrograms.{main_in}
use Rattle.code_admission.specs.declared.error.AdmitError.{AdmitError}
use Rattle.admit_check.specs.Admission.{IsAdmittedProgram, act_of, act_with, acts_from, admission_of, classes_fault, program_completed, count_fault, program_with, root_in, unless_fault, with_acts, with_main}

-- its first classes are those that were given
pub first-classes : (classes : List ClassFile) (name : List ℕ) (p : Program) → IsAdmittedProgram classes name p
    → take (length classes) p.classes ≡ classes
first-classes classes name p admitted =
    ap (take (length classes)) admitted.sound.classes_are ∙ take_at classes built_in_files (length classes) refl

-- ---- the actions

-- an answer without a fault
unless-ok : (fault : Option AdmitError) (answer : Result Program AdmitError) (p : Program)
    → unless_fault fault answer ≡ Ok p → answer ≡ Ok p
unless-ok None answer p e = e
unless-ok (Some fault) answer p e = absurd cc

acts-ok : (whole : Program) (main : ℕ) (r : Result (List Act) AdmitError) (p : Program)
    → with_acts whole main r ≡ Ok p → r ≡ Ok p.acts
acts-ok whole main (Ok acts) p e =
    let same : (let q : Program = record whole { main = main; acts = acts } in q ≡ p) = cc e in
    ap (λ (q : Program). let r : Result (List Act) AdmitError = Ok q.acts in r) same
acts-ok whole main (Err fault) p e = absurd cc

main-ok : (whole : Program) (plan : Plan) (main : Option ℕ) (p : Program) → with_main whole plan main ≡ Ok p
    → acts_from whole 1 plan.actions ≡ Ok p.acts
main-ok whole plan None p e = absurd cc
main-ok whole plan (Some main) p e = acts-ok whole main (acts_from whole 1 plan.actions) p e

abbrev pub program_for : List ClassFile → Plan → Program
program_for classes plan = program_with classes built_in_files plan

pub acts-found : (classes : List ClassFile) (name : List ℕ) (plan : Plan) (p : Program)
    → admission_of classes name plan ≡ Ok p → acts_from (program_for classes plan) 1 plan.actions ≡ Ok p.acts
unfolding admission_of
acts-found classes name plan p e =
    let whole = program_for classes plan in
    let given = length classes in
    main-ok whole plan (main_in whole given name) p
    (unless-ok (count_fault whole) (with_main whole plan (main_in whole given name)) p
    (unless-ok (classes_fault [] classes) (program_completed whole given name plan) p e))

-- what becomes of an action
abbrev pub IsActOf : Program → Action → Act → Type 0
IsActOf p a act = act_of p a ≡ Some act

acts-zip : (p : Program) (at : ℕ) (actions : List Action) (acts : List Act) → acts_from p at actions ≡ Ok acts
    → AllZip (IsActOf p) actions acts
acts-zip p at [] acts e = subst (AllZip (IsActOf p) []) (let same : [] ≡ acts = cc e in same) tt
acts-zip p at (a ∷ rest) acts e =
    by (act_of p a) refl (acts_from p (at + 1) rest) refl (λ more is. acts-zip p (at + 1) rest more is) e
  where
    by : (o : Option Act) → act_of p a ≡ o → (r : Result (List Act) AdmitError) → acts_from p (at + 1) rest ≡ r
        → ((more : List Act) → acts_from p (at + 1) rest ≡ Ok more → AllZip (IsActOf p) rest more)
        → act_with o at r ≡ Ok acts → AllZip (IsActOf p) (a ∷ rest) acts
    by (Some act) found (Ok more) is later e =
        subst (AllZip (IsActOf p) (a ∷ rest)) (let same : act ∷ more ≡ acts = cc e in same)
        (found, later more is)
    by (Some act) found (Err fault) is later e = absurd cc
    by None found r is later e = absurd cc

-- the acts of an admitted program, one for each action of its plan
pub plan-acts : (classes : List ClassFile) (name : List ℕ) (plan : Plan) (p : Program)
    → admission_of classes name plan ≡ Ok p → AllZip (IsActOf (program_for classes plan)) plan.actions p.acts
plan-acts classes name plan p e = acts-zip (program_for classes plan) 1 plan.actions p.acts (acts-found classes name plan p e)

-- it has the action's moment
moment-of : (p : Program) (a : Action) (act : Act) → IsActOf p a act → act.moment ≡ a.moment
moment-of p a act is = by (root_in p a.root) is where
  by : (o : Option ℕ) → (let f : ℕ → Act = λ m. record { moment = a.moment; select = a.select; method = m } in option_map f o ≡ Some act)
      → act.moment ≡ a.moment
  by None e = absurd cc
  by (Some m) e =
      let same : (let act : Act = record { moment = a.moment; select = a.select; method = m } in act) ≡ act = cc e in
      sym (ap (λ (x : Act). x.moment) same)

in-order : (p : Program) (least : ℕ) (actions : List Action) (acts : List Act) → AllZip (IsActOf p) actions acts
    → DoNotFall actions → AllByRecursion (λ (a : Action). least ≤ a.moment) actions → AreFrom least acts
in-order p least [] [] zip rising from = tt
in-order p least [] (act ∷ acts) zip rising from = absurd zip
in-order p least (a ∷ rest) [] zip rising from = absurd zip
in-order p least (a ∷ rest) (act ∷ acts) zip rising from =
    let same : a.moment ≡ act.moment = sym (moment-of p a act zip.0) in (
      subst (λ n. least ≤ n) same from.0,
      in-order p act.moment rest acts zip.1 rising.1
          (subst (λ n. AllByRecursion (λ (later : Action). n ≤ later.moment) rest) same rising.0),
    )

-- their moments do not fall
pub acts-in-order : (classes : List ClassFile) (name : List ℕ) (plan : Plan) (p : Program) → DoNotFall plan.actions
    → admission_of classes name plan ≡ Ok p → AreFrom 0 p.acts
acts-in-order classes name plan p rising e =
    in-order (program_for classes plan) 0 plan.actions p.acts (plan-acts classes name plan p e) rising (from-zero plan.actions)
  where
    from-zero : (list : List Action) → AllByRecursion (λ (a : Action). 0 ≤ a.moment) list
    from-zero [] = tt
    from-zero (a ∷ list) = (omega arith, from-zero list)
