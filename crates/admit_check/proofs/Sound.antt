-- What is admitted is a sound program.
use Rattle.std.proofs.Common.{◌≡◌, ℕ, suc, ◌+◌, ◌<◌, ◌≤◌, Bool, true, false, cond, List, [], ◌∷◌, length, Option, Some, None, Result, Ok, Err, refl, subst, arith}
use Rattle.std.specs.Prelude.{nat_lt, unwrap_or, IfOk, IfSome}
use Rattle.std.specs.Option.{option_and_then, option_map}
use Rattle.std.specs.List.{AllByRecursion}
use Rattle.std.proofs.lemmas.Option.{same_Some, none-some, option_and_then_some}
use Rattle.jf_bytes.proofs.Lists.{each_append, each_at}
use Rattle.const_pool.specs.declared.class.ClassFile.{ClassFile}
use Rattle.const_pool.specs.References.{name_type_of}
use Rattle.const_pool.specs.ClassFile.{IsClassFile}
use Rattle.base_classes.specs.BuiltInFiles.{built_in_files}
use Rattle.base_classes.proofs.Computed.{all_formed}
use Rattle.jvm_model.specs.declared.event.Act.{Act}
use Rattle.jvm_model.specs.declared.program.MethodPlace.{MethodPlace}
use Rattle.jvm_model.specs.declared.program.Program.{Program}
use Rattle.jvm_model.specs.Basis.Methods.{method_named}
use Rattle.jvm_model.specs.Basis.Programs.{class_at, class_named, declared_method, has_built_in_name, number_from, number_of_method, same_place}
use Rattle.plan_text.specs.declared.plan.Action.{Action}
use Rattle.plan_text.specs.declared.plan.Plan.{Plan}
use Rattle.code_admission.specs.declared.error.AdmitError.{AdmitError}
use Rattle.jvm_model.specs.Soundness.SoundPrograms.{HasOperations, IsHeapLimit, declared_main, main_in, main_of_class}
use Rattle.jvm_model.specs.Soundness.Whole.{HasSoundCodes}
use Rattle.inject_events.specs.Answers.{IsProfilable, IsReadableClass}
use Rattle.admit_check.specs.Admission.{act_of, act_with, acts_from, admission, admission_of, program_with, root_in, IsAdmittedProgram}
use Rattle.admit_check.specs.Profiling.{HaveSoundTables}
use Rattle.admit_check.specs.Stages.{Answers}
use Rattle.admit_check.proofs.BuiltInRules.{built-in-follow}
use Rattle.admit_check.proofs.ClassCodes.{IsFineClass, fine-built-in, fine-classes}
use Rattle.admit_check.proofs.Fit.{fit}
use Rattle.admit_check.proofs.FitNames.{IsOwnClass, own-classes}
use Rattle.admit_check.proofs.Admitted.{admitted}

-- ---- numbers of methods

one_more : (n behind k : ℕ) (test : Bool) (rest : Option ℕ) → (rest ≡ Some k → k < n + 1 + behind) → cond test (Some n) rest ≡ Some k → k < n + suc behind
one_more n behind k true rest later e = let same : n ≡ k = same_Some n k e in omega arith
one_more n behind k false rest later e = let found = later e in omega arith

number_below : (n class at : ℕ) (places : List MethodPlace) (k : ℕ) → number_from n class at places ≡ Some k → k < n + length places
number_below n class at [] k e = absurd (none-some k e)
number_below n class at (place ∷ rest) k e =
    one_more n (length rest) k (same_place class at place) (number_from (n + 1) class at rest) (λ later. number_below (n + 1) class at rest k later) e

method_below : (p : Program) (class at k : ℕ) → number_of_method p class at ≡ Some k → k < length p.methods
method_below p class at k e = let below = number_below 0 class at p.methods k e in omega arith

main_below : (p : Program) (class k : ℕ) → main_of_class p class ≡ Some k → k < length p.methods
main_below p class k e =
    option_and_then_some (λ c. option_and_then (number_of_method p class) (declared_main c)) (class_at p class) k e
    (λ c is rest. option_and_then_some (number_of_method p class) (declared_main c) k rest (λ at is found. method_below p class at k found))

main_in-below : (p : Program) (given : ℕ) (name : List ℕ) (k : ℕ) → main_in p given name ≡ Some k → k < length p.methods
main_in-below p given name k e =
    option_and_then_some (λ class. cond (nat_lt class given) (main_of_class p class) None) (class_named p name) k e
    (λ class is rest. by_test class (nat_lt class given) rest)
  where
    by_test : (class : ℕ) (b : Bool) → cond b (main_of_class p class) None ≡ Some k → k < length p.methods
    by_test class true found = main_below p class k found
    by_test class false found = absurd (none-some k found)

-- ---- acts

abbrev IsBelow : Program → Act → Type 0
IsBelow p act = act.method < length p.methods

root_below : (p : Program) (a : Action) (k : ℕ) → root_in p a.root ≡ Some k → k < length p.methods
root_below p a k e =
    let wanted = name_type_of a.root.name a.root.descriptor in
    option_and_then_some (declared_method p wanted) (class_named p a.root.class) k e
    (λ class is rest. option_and_then_some (λ c. option_and_then (number_of_method p class) (method_named c wanted)) (class_at p class) k rest
    (λ c at found. option_and_then_some (number_of_method p class) (method_named c wanted) k found (λ at is number. method_below p class at k number)))

act_below : (p : Program) (a : Action) (act : Act) → act_of p a ≡ Some act → IsBelow p act
act_below p a act e = by_root (root_in p a.root) (λ k is. root_below p a k is) e where
  by_root : (o : Option ℕ) → ((k : ℕ) → o ≡ Some k → k < length p.methods)
      → option_map (λ (method : ℕ). let x : Act = record { moment = a.moment; select = a.select; method = method } in x) o ≡ Some act → IsBelow p act
  by_root None below is = absurd (none-some act is)
  by_root (Some k) below is = subst (IsBelow p) (same_Some _ act is) (below k refl)

same_acts : (xs ys : List Act) → (let x : Result (List Act) AdmitError = Ok xs in x ≡ Ok ys) → xs ≡ ys
same_acts xs ys e = cc e

acts_below : (p : Program) (at : ℕ) (actions : List Action) (acts : List Act) → acts_from p at actions ≡ Ok acts → AllByRecursion (IsBelow p) acts
acts_below p at [] acts e = subst (AllByRecursion (IsBelow p)) (same_acts [] acts e) tt
acts_below p at (a ∷ rest) acts e =
    by_parts (act_of p a) (acts_from p (at + 1) rest) (λ act is. act_below p a act is) (λ more is. acts_below p (at + 1) rest more is) e
  where
    by_parts : (o : Option Act) (told : Result (List Act) AdmitError) → ((act : Act) → o ≡ Some act → IsBelow p act)
        → ((more : List Act) → told ≡ Ok more → AllByRecursion (IsBelow p) more) → act_with o at told ≡ Ok acts → AllByRecursion (IsBelow p) acts
    by_parts None told one all is = absurd cc
    by_parts (Some act) (Err fault) one all is = absurd cc
    by_parts (Some act) (Ok more) one all is = subst (AllByRecursion (IsBelow p)) (same_acts (act ∷ more) acts is) (one act refl, all more refl)

-- ---- its codes

module _ (p : Program) (fine : AllByRecursion IsFineClass p.classes) where
  sound-codes : HasSoundCodes p
  sound-codes method place c code stands is at = (each_at IsFineClass p.classes place.class c fine is).codes place.position code at

  known-codes : HasOperations p
  known-codes method place c code stands is at = (each_at IsFineClass p.classes place.class c fine is).operations place.position code at

-- ---- the program

each-so : {A : Type 0} (P Q : A → Type 0) → ((x : A) → P x → Q x) → (xs : List A) → AllByRecursion P xs → AllByRecursion Q xs
each-so P Q so [] each = tt
each-so P Q so (x ∷ xs) each = (so x each.0, each-so P Q so xs each.1)

heap-limit : (heap : Option ℕ) → IfSome heap IsHeapLimit → IsHeapLimit (unwrap_or heap 4194304)
heap-limit None within = (omega arith, omega arith)
heap-limit (Some slots) within = within

sound : (classes : List ClassFile) (name : List ℕ) (plan : Plan) (p : Program) → AllByRecursion IsClassFile classes → length classes ≤ 4096 → IfSome plan.heap IsHeapLimit
    → admission classes built_in_files name plan ≡ Ok p → IsAdmittedProgram classes name p
sound classes name plan p formed few heap e =
    let is = admitted classes built_in_files name plan p e in
    let whole = is.completion in
    let q : Program = record (program_with classes built_in_files plan) { main = whole.main; acts = whole.acts } in
    let each : AllByRecursion IsFineClass q.classes = each_append IsFineClass classes built_in_files (fine-classes [] classes formed is.fine) fine-built-in in
    subst (IsAdmittedProgram classes name) whole.is (record {
      sound = record {
        few_classes = few;
        classes_are = refl;
        formed = each_append IsClassFile classes built_in_files formed (all_formed built_in_files refl);
        free = each-so IsOwnClass (λ c. has_built_in_name c ≡ false) (λ c own. own.free) classes (own-classes [] classes is.fine);
        methods = refl;
        few = whole.few;
        main_is = whole.found;
        main = main_in-below (program_with classes built_in_files plan) (length classes) name whole.main whole.found;
        acts = acts_below (program_with classes built_in_files plan) 1 plan.actions whole.acts whole.told;
        heap = heap-limit plan.heap heap;
        fit = fit classes name q is.fine refl whole.found few;
        codes = sound-codes q each;
        operations = known-codes q each;
      };
      fine = is.fine;
      built_in = built-in-follow;
      readable = each-so IsFineClass IsReadableClass (λ c fine. fine.readable) q.classes each;
      profilable = each-so IsFineClass IsProfilable (λ c fine. fine.profilable) q.classes each;
      tables = each-so IsFineClass HaveSoundTables (λ c fine. fine.tables) q.classes each;
    })

-- ---- what is answered

pub answers-given : (r : Result Program AdmitError) (classes files : List ClassFile) (name : List ℕ) (plan : Plan) → files ≡ built_in_files
    → Answers r (admission classes files name plan) → Answers r (admission_of classes name plan)
unfolding admission_of
answers-given r classes files name plan same answers = subst (λ (fs : List ClassFile). Answers r (admission classes fs name plan)) same answers

pub sound-answers : (r : Result Program AdmitError) (classes : List ClassFile) (name : List ℕ) (plan : Plan) → AllByRecursion IsClassFile classes → length classes ≤ 4096
    → IfSome plan.heap IsHeapLimit → Answers r (admission_of classes name plan) → IfOk r (IsAdmittedProgram classes name)
unfolding admission_of
sound-answers (Ok p) classes name plan formed few heap answers = sound classes name plan p formed few heap answers
sound-answers (Err fault) classes name plan formed few heap answers = tt
