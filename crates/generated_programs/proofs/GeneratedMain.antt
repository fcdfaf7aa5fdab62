-- The main method of a generated program is that of its first class.
use Rattle.std.proofs.Common.{◌≡◌, ℕ, ◌<◌, Bool, true, false, cond, List, [], ◌∷◌, length, None, Some, refl, ap, ◌∙◌, arith}
use Rattle.std.specs.Prelude.{slice_get, position, nat_lt}
use Rattle.std.specs.Option.{option_and_then, option_map_or}
use Rattle.std.specs.List.{AllByRecursion, AllZip}
use Rattle.std.proofs.lemmas.Bool.{lt-ltb}
use Rattle.const_pool.specs.declared.class.ClassFile.{ClassFile}
use Rattle.const_pool.specs.declared.class.Member.{Member}
use Rattle.jvm_model.specs.declared.program.Program.{Program}
use Rattle.jvm_model.specs.Basis.Descriptors.{same_text}
use Rattle.jvm_model.specs.Basis.Programs.{class_named, has_name, number_of_method, number_from, methods_numbered}
use Rattle.jvm_model.specs.Soundness.SoundPrograms.{declared_main, main_of_class, main_in}
use Rattle.program_gen.specs.Generated.{IsNamedBy}
use Rattle.program_gen.specs.Members.{HasMembersOf, IsMethodOf}
use Rattle.program_gen.specs.Programs.{entry_method, main_row}
use Rattle.generated_programs.specs.Admitted.{main_name}
use Rattle.generated_programs.proofs.FineMethods.{IsFineMethod}

-- a program whose first class is the one of this row
pub record HasEntry (p : Program) (c : ClassFile) (rest : List ClassFile) : Type 0 where
  pub classes : p.classes ≡ c ∷ rest
  pub methods : p.methods ≡ methods_numbered p.classes
  pub named : IsNamedBy main_row c
  pub members : HasMembersOf main_row c
  pub fine : AllByRecursion (IsFineMethod c.pool) c.methods

-- ---- its method

declared-first : (c : ClassFile) (ms : List Member) → c.methods ≡ ms → AllZip (IsMethodOf c.pool) (entry_method ∷ []) ms → declared_main c ≡ Some 0
declared-first c [] is of_row = absurd of_row
declared-first c (m ∷ []) is of_row =
    rw (is, of_row.0.name, of_row.0.descriptor, of_row.0.access) refl
declared-first c (m ∷ n ∷ ms) is of_row = absurd of_row.1

numbered-first : (c : ClassFile) (rest : List ClassFile) (ms : List Member) → c.methods ≡ ms → AllZip (IsMethodOf c.pool) (entry_method ∷ []) ms → AllByRecursion (IsFineMethod c.pool) ms
    → number_from 0 0 0 (methods_numbered (c ∷ rest)) ≡ Some 0
numbered-first c rest [] is of_row fine = absurd of_row
numbered-first c rest (m ∷ ms) is of_row fine = rw (is, fine.0.coded) refl

main-of-first : (p : Program) (c : ClassFile) (rest : List ClassFile) → HasEntry p c rest → main_of_class p 0 ≡ Some 0
main-of-first p c rest h =
    let there : slice_get p.classes 0 ≡ Some c = ap (λ cs. slice_get cs 0) h.classes in
    let declared = declared-first c c.methods refl h.members.methods in
    let number : number_of_method p 0 0 ≡ Some 0 =
    ap (number_from 0 0 0) (h.methods ∙ ap methods_numbered h.classes) ∙ numbered-first c rest c.methods refl h.members.methods h.fine in
    ap (λ o. option_and_then (λ c. option_and_then (number_of_method p 0) (declared_main c)) o) there
    ∙ ap (λ o. option_and_then (number_of_method p 0) o) declared ∙ number

-- ---- the class

position-first : {A : Type 0} (test : A → Bool) (x : A) (xs : List A) → test x ≡ true → position test (x ∷ xs) ≡ Some 0
position-first test x xs is = rw is (ap (λ b. cond b (Some 0) None) (lt-ltb 0 (length (x ∷ xs)) (omega arith)))

first-named : (p : Program) (c : ClassFile) (rest : List ClassFile) → HasEntry p c rest → class_named p main_name ≡ Some 0
first-named p c rest h =
    let is : has_name main_name c ≡ true = ap (λ o. option_map_or (same_text main_name) o false) h.named.name in
    ap (position (has_name main_name)) h.classes ∙ position-first (has_name main_name) c rest is

pub main-found : (p : Program) (c : ClassFile) (rest : List ClassFile) (given : ℕ) → 0 < given → HasEntry p c rest → main_in p given main_name ≡ Some 0
main-found p c rest given some h =
    ap (λ o. option_and_then (λ class. cond (nat_lt class given) (main_of_class p class) None) o) (first-named p c rest h)
    ∙ ap (λ b. cond b (main_of_class p 0) None) (lt-ltb 0 given some) ∙ main-of-first p c rest h
