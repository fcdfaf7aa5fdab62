-- The built-in classes follow the rules of admission: computed over their class files.
use Rattle.std.proofs.Common.{◌≡◌, ℕ, Bool, true, List, [], ◌∷◌, map, Option, Some, None, refl, codes}
use Rattle.std.specs.Prelude.{not, ◌&&◌}
use Rattle.std.specs.Bool.{beq}
use Rattle.std.specs.List.{AllByRecursion, list_all, list_any}
use Rattle.std.specs.Option.{is_none}
use Rattle.std.specs.Cmp.{booleans_Decides}
use Rattle.std.proofs.lemmas.Bool.{and_parts, not-true}
use Rattle.const_pool.specs.declared.class.ClassFile.{ClassFile}
use Rattle.op_table.specs.Opcodes.{row_of, groups}
use Rattle.code_model.specs.Instructions.{instruction_at}
use Rattle.code_model.specs.Reading.{read_instruction, behind_opcode_at, operand_at, value_at, index_at, signed_at, number_at, run_at, target_at, many_at, local_at, branch_at}
use Rattle.jvm_model.specs.Basis.Programs.{has_name}
use Rattle.base_classes.specs.BuiltInClasses.{built_in_classes}
use Rattle.base_classes.specs.BuiltInFiles.{built_in_files}
use Rattle.base_classes.specs.ObjectClasses.{object_classes}
use Rattle.base_classes.specs.TextClasses.{text_classes}
use Rattle.base_classes.specs.StreamClasses.{stream_classes}
use Rattle.base_classes.specs.ValueClasses.{value_classes}
use Rattle.base_classes.specs.ThrowableClasses.{throwable_classes}
use Rattle.base_classes.specs.Making.{entry_added, text_added, string_added, class_added, name_type_added, reference_added, instruction_added, code_from, code_added, attributes_added, member_added, members_from, superclass_added, interfaces_from, class_file_of}
use Rattle.inject_events.specs.Rewriting.{instrs_from}
use Rattle.code_admission.specs.Codes.{codes_fault, instructions_of}
use Rattle.code_admission.specs.Floating.{floating_fault}
use Rattle.admit_check.specs.Profiling.{profiling_fault}
use Rattle.admit_check.specs.Shapes.{has_member_twice, has_wrong_code_count, has_wrong_constant, has_wrong_descriptor, has_wrong_name, has_wrong_super}
use Rattle.admit_check.specs.SoundBuiltIn.{IsSoundBuiltIn}

-- ---- as tests

unfoldable is_shaped : ClassFile → Bool
is_shaped c =
    not (has_wrong_name c)
    && (beq (has_wrong_super c) (has_name (codes "java/lang/Object") c)
    && (not (has_wrong_descriptor c)
    && (not (has_member_twice c) && (not (list_any has_wrong_code_count c.methods) && not (list_any (has_wrong_constant c.pool) c.fields)))))

shaped : list_all is_shaped (map class_file_of built_in_classes) ≡ true
unfolding built_in_classes object_classes text_classes stream_classes value_classes throwable_classes entry_added text_added string_added class_added name_type_added reference_added instruction_added code_from code_added attributes_added member_added members_from superclass_added interfaces_from class_file_of is_shaped
shaped = refl

unfoldable is_coded : ℕ → ClassFile → Bool
is_coded k c = is_none (codes_fault k c) && is_none (floating_fault k c)

coded : (k : ℕ) → list_all (is_coded k) (map class_file_of built_in_classes) ≡ true
unfolding built_in_classes object_classes text_classes stream_classes value_classes throwable_classes entry_added text_added string_added class_added name_type_added reference_added instruction_added code_from code_added attributes_added member_added members_from superclass_added interfaces_from class_file_of instructions_of read_instruction behind_opcode_at operand_at value_at index_at signed_at number_at run_at target_at many_at local_at branch_at row_of groups is_coded
coded k = refl

unfoldable is_rewritten : ℕ → ClassFile → Bool
is_rewritten k c = is_none (profiling_fault k c)

rewritten : (k : ℕ) → list_all (is_rewritten k) (map class_file_of built_in_classes) ≡ true
unfolding built_in_classes object_classes text_classes stream_classes value_classes throwable_classes entry_added text_added string_added class_added name_type_added reference_added instruction_added code_from code_added attributes_added member_added members_from superclass_added interfaces_from class_file_of instrs_from instruction_at read_instruction behind_opcode_at operand_at value_at index_at signed_at number_at run_at target_at many_at local_at branch_at row_of groups is_rewritten
rewritten k = refl

-- ---- what they say

is-none : {A : Type 0} (o : Option A) → is_none o ≡ true → o ≡ None
is-none None e = refl
is-none (Some x) e = absurd cc

follows : (c : ClassFile) → is_shaped c ≡ true → ((k : ℕ) → is_coded k c ≡ true) → ((k : ℕ) → is_rewritten k c ≡ true) → IsSoundBuiltIn c
unfolding is_shaped is_coded is_rewritten
follows c shape code rewrite =
    let a = and_parts (not (has_wrong_name c)) _ shape in
    let b = and_parts (beq (has_wrong_super c) (has_name (codes "java/lang/Object") c)) _ a.1 in
    let d = and_parts (not (has_wrong_descriptor c)) _ b.1 in
    let e = and_parts (not (has_member_twice c)) _ d.1 in
    let f = and_parts (not (list_any has_wrong_code_count c.methods)) (not (list_any (has_wrong_constant c.pool) c.fields)) e.1 in
    record {
      name = not-true (has_wrong_name c) a.0;
      superclass = (booleans_Decides (has_wrong_super c) (has_name (codes "java/lang/Object") c)).0 b.0;
      descriptors = not-true (has_wrong_descriptor c) d.0;
      members = not-true (has_member_twice c) e.0;
      bodies = not-true (list_any has_wrong_code_count c.methods) f.0;
      constants = not-true (list_any (has_wrong_constant c.pool) c.fields) f.1;
      codes_fine = λ k. is-none (codes_fault k c) (and_parts (is_none (codes_fault k c)) (is_none (floating_fault k c)) (code k)).0;
      floats = λ k. is-none (floating_fault k c) (and_parts (is_none (codes_fault k c)) (is_none (floating_fault k c)) (code k)).1;
      rewritten = λ k. is-none (profiling_fault k c) (rewrite k);
    }

each-follows : (cs : List ClassFile) → list_all is_shaped cs ≡ true → ((k : ℕ) → list_all (is_coded k) cs ≡ true) → ((k : ℕ) → list_all (is_rewritten k) cs ≡ true) → AllByRecursion IsSoundBuiltIn cs
each-follows [] shape code rewrite = tt
each-follows (c ∷ cs) shape code rewrite = (
  follows c (and_parts (is_shaped c) (list_all is_shaped cs) shape).0 (λ k. (and_parts (is_coded k c) (list_all (is_coded k) cs) (code k)).0)
      (λ k. (and_parts (is_rewritten k c) (list_all (is_rewritten k) cs) (rewrite k)).0),
  each-follows cs (and_parts (is_shaped c) (list_all is_shaped cs) shape).1 (λ k. (and_parts (is_coded k c) (list_all (is_coded k) cs) (code k)).1)
      (λ k. (and_parts (is_rewritten k c) (list_all (is_rewritten k) cs) (rewrite k)).1),
)

pub built-in-follow : AllByRecursion IsSoundBuiltIn built_in_files
built-in-follow = each-follows built_in_files shaped coded rewritten
