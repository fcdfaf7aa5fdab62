-- Which rules of admission a built-in class follows: those of its shape, but that java/lang/Object has no superclass,
-- those of its codes, of floats, and of what can be rewritten.
use Rattle.std.specs.Prelude.{◌≡◌, ℕ, false, None, codes}
use Rattle.std.specs.List.{list_any}
use Rattle.const_pool.specs.declared.class.ClassFile.{ClassFile}
use Rattle.jvm_model.specs.Basis.Programs.{has_name}
use Rattle.code_admission.specs.Codes.{codes_fault}
use Rattle.code_admission.specs.Floating.{floating_fault}
use Rattle.admit_check.specs.Profiling.{profiling_fault}
use Rattle.admit_check.specs.Shapes.{has_member_twice, has_wrong_code_count, has_wrong_constant, has_wrong_descriptor, has_wrong_name, has_wrong_super}

pub record IsSoundBuiltIn (c : ClassFile) : Type 0 where
  pub name : has_wrong_name c ≡ false
  pub superclass : has_wrong_super c ≡ has_name (codes "java/lang/Object") c
  pub descriptors : has_wrong_descriptor c ≡ false
  pub members : has_member_twice c ≡ false
  pub bodies : list_any has_wrong_code_count c.methods ≡ false
  pub constants : list_any (has_wrong_constant c.pool) c.fields ≡ false
  pub codes_fine : (k : ℕ) → codes_fault k c ≡ None
  pub floats : (k : ℕ) → floating_fault k c ≡ None
  pub rewritten : (k : ℕ) → profiling_fault k c ≡ None
