-- What a class's constants come to, where its class file is there.
use Rattle.std.proofs.Common.{◌≡◌, ℕ, ap, subst, sym}
use Rattle.std.specs.Prelude.{Option, Some, Result, Ok, Err, IfOk, OnOk}
use Rattle.std.specs.Option.{option_map_or}
use Rattle.const_pool.specs.declared.class.ClassFile.{ClassFile}
use Rattle.jf_bytes.specs.declared.error.NoMemory.{NoMemory}
use Rattle.jvm_model.specs.declared.program.Program.{Program}
use Rattle.jvm_model.specs.declared.state.Shared.{Shared}
use Rattle.jvm_model.specs.Basis.Programs.{class_at}
use Rattle.jvm_model.specs.Running.Constants.{Setting, constant_set, sets_constants, sets_fields}
use Rattle.symbolic_references.specs.Held.{IsSetting}
use Rattle.symbolic_references.specs.Runtimes.{RuntimeView, with_shared}

pub all-set : (p : Program) (class : ℕ) (s : Shared) (file : ClassFile) (result : Result (Option ℕ) NoMemory) (new : Shared) → class_at p class ≡ Some file
    → IsSetting result new (sets_fields p file class 0 file.fields s) → IsSetting result new (sets_constants p class s)
all-set p class s file result new there =
    subst (λ o. IsSetting result new (option_map_or (λ (c : ClassFile). sets_fields p c class 0 c.fields s) o (constant_set s))) (sym there)

pub thrown-by : (result : Result (Option ℕ) NoMemory) (new : Shared) (set : Setting) → IsSetting result new set → IfOk result (λ thrown. thrown ≡ set.thrown)
thrown-by (Ok thrown) new set is = is.0
thrown-by (Err e) new set is = tt

pub left-by : (result : Result (Option ℕ) NoMemory) (new : Shared) (set : Setting) (v : RuntimeView) → IsSetting result new set
    → OnOk result (with_shared new v ≡ with_shared set.shared v)
left-by (Ok thrown) new set v is = ap (λ s. with_shared s v) is.1
left-by (Err e) new set v is = tt
