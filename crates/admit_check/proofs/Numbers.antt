-- How many methods the classes of a program have, and that their numbers fit.
use Rattle.std.proofs.Common.{◌≡◌, ℕ, suc, ◌+◌, ◌*◌, ◌<◌, ◌≤◌, ◌^◌, Bool, true, false, List, [], ◌∷◌, ◌++◌, length, refl, sym, ap, ◌∙◌, arith}
use Rattle.std.specs.Prelude.{is_some, if◌then◌else◌}
use Rattle.std.specs.List.{AllByRecursion}
use Rattle.std.proofs.lemmas.List.{length-append, length-map}
use Rattle.const_pool.specs.declared.class.ClassFile.{ClassFile}
use Rattle.const_pool.specs.declared.class.Member.{Member}
use Rattle.const_pool.specs.ClassFile.{IsClassFile}
use Rattle.jvm_model.specs.declared.program.MethodPlace.{MethodPlace}
use Rattle.jvm_model.specs.Basis.Methods.{code_of}
use Rattle.jvm_model.specs.Basis.Programs.{coded_from, numbered_from}
use Rattle.plan_text.specs.declared.plan.Plan.{Plan}
use Rattle.base_classes.specs.BuiltInClasses.{built_in_classes}
use Rattle.base_classes.specs.ObjectClasses.{object_classes}
use Rattle.base_classes.specs.TextClasses.{text_classes}
use Rattle.base_classes.specs.StreamClasses.{stream_classes}
use Rattle.base_classes.specs.ValueClasses.{value_classes}
use Rattle.base_classes.specs.ThrowableClasses.{throwable_classes}
use Rattle.base_classes.specs.Shown.{declaration_of}
use Rattle.admit_check.specs.Admission.{program_with}
use Rattle.admit_check.specs.Stages.{AreBuiltIn, HasNumbers}

-- ---- the classes

both_formed : (xs ys : List ClassFile) → AllByRecursion IsClassFile xs → AllByRecursion IsClassFile ys → AllByRecursion IsClassFile (xs ++ ys)
both_formed [] ys left right = right
both_formed (x ∷ xs) ys left right = (left.0, both_formed xs ys left.1 right)

declared_count : length built_in_classes ≡ 53
unfolding built_in_classes object_classes text_classes stream_classes value_classes throwable_classes
declared_count = refl

built_in_count : (built_in : List ClassFile) → AreBuiltIn built_in → length built_in ≡ 53
built_in_count built_in are = sym (length-map built_in declaration_of) ∙ (ap length are.declared ∙ declared_count)

class_count : (classes built_in : List ClassFile) → length classes ≤ 4096 → AreBuiltIn built_in → length (classes ++ built_in) ≤ 4149
class_count classes built_in few are = omega (arith, length-append classes built_in, built_in_count built_in are, few)

pub few_classes : (classes built_in : List ClassFile) → length classes ≤ 4096 → AreBuiltIn built_in → length (classes ++ built_in) < 2 ^ 32
few_classes classes built_in few are = omega (arith, class_count classes built_in few are)

pub all_formed : (classes built_in : List ClassFile) → AllByRecursion IsClassFile classes → AreBuiltIn built_in → AllByRecursion IsClassFile (classes ++ built_in)
all_formed classes built_in formed are = both_formed classes built_in formed are.formed

-- ---- their methods

either_few : (coded : Bool) (place : MethodPlace) (places : List MethodPlace) (n : ℕ) → length places ≤ n → length (if coded then place ∷ places else places) ≤ suc n
either_few true place places n few = omega (arith, few)
either_few false place places n few = omega (arith, few)

coded_few : (class at : ℕ) (ms : List Member) → length (coded_from class at ms) ≤ length ms
coded_few class at [] = omega arith
coded_few class at (m ∷ rest) = either_few (is_some (code_of m)) (record { class = class; position = at }) (coded_from class (at + 1) rest) (length rest) (coded_few class (at + 1) rest)

numbered_few : (class : ℕ) (cs : List ClassFile) → AllByRecursion IsClassFile cs → length (numbered_from class cs) ≤ 65535 * length cs
numbered_few class [] formed = omega arith
numbered_few class (c ∷ rest) formed =
    omega (arith, length-append (coded_from class 0 c.methods) (numbered_from (class + 1) rest), coded_few class 0 c.methods, formed.0.method_count, numbered_few (class + 1) rest formed.1)

-- ---- the program

pub has_numbers : (classes built_in : List ClassFile) (plan : Plan) → AllByRecursion IsClassFile classes → length classes ≤ 4096 → AreBuiltIn built_in → HasNumbers (program_with classes built_in plan)
has_numbers classes built_in plan formed few are =
    let all : AllByRecursion IsClassFile (classes ++ built_in) = all_formed classes built_in formed are in
    record {
      formed = all;
      classes = few_classes classes built_in few are;
      methods = omega (arith, numbered_few 0 (classes ++ built_in) all, class_count classes built_in few are);
    }
