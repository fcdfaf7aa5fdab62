-- An instruction does the same elsewhere: its operation does not look at where its targets lead.
use Rattle.std.proofs.Common.{◌≡◌, ℕ, List, map, Option, Some, refl, ap, ◌∙◌}
use Rattle.std.proofs.lemmas.List.{length-map}
use Rattle.std.specs.Option.{option_map}
use Rattle.const_pool.specs.declared.class.ClassFile.{ClassFile}
use Rattle.const_pool.specs.declared.pool.Const.{Const}
use Rattle.code_model.specs.declared.instr.Instr.{Instr}
use Rattle.code_model.specs.declared.instr.Arg.{Arg}
use Rattle.code_model.specs.declared.instr.Arg.TheVariants as arg
use Rattle.code_model.specs.Layout.{instr_moved, moved_arg}
use Rattle.heap_objects.specs.declared.datum.Datum.{Datum}
use Rattle.jvm_model.specs.declared.family.Family.{Family}
use Rattle.jvm_model.specs.declared.family.Family.TheVariants as family
use Rattle.jvm_model.specs.Basis.Data.{Keys, Consecutive, Local, Switch, Branch, Goto, Jsr, Ret, Load, Store, Constant, Iinc, Within}
use Rattle.jvm_model.specs.Basis.Families.{family_of}
use Rattle.jvm_model.specs.Codes.Lines.{constant_in, pool_constant_operation, increment_in, keys_in, local_of, object_constant_in, operation_by, operation_of, other_operation, slot_in, target_in, targets_of, value_in}

constant-moves : (pool : List Const) (h : ℕ → ℕ) (a : Arg) → constant_in pool (moved_arg h a) ≡ constant_in pool a
constant-moves pool h (arg.Pool index) = refl
constant-moves pool h arg.Plain = refl
constant-moves pool h (arg.Value n) = refl
constant-moves pool h (arg.Local slot) = refl
constant-moves pool h (arg.Inc slot n) = refl
constant-moves pool h (arg.Target t) = refl
constant-moves pool h (arg.Table default low targets) = refl
constant-moves pool h (arg.Lookup default keys targets) = refl
constant-moves pool h (arg.Interface index count zero) = refl
constant-moves pool h (arg.Multi index dimensions) = refl
constant-moves pool h (arg.Array code) = refl

object-moves : (pool : List Const) (h : ℕ → ℕ) (a : Arg) → object_constant_in pool (moved_arg h a) ≡ object_constant_in pool a
object-moves pool h (arg.Pool index) = refl
object-moves pool h arg.Plain = refl
object-moves pool h (arg.Value n) = refl
object-moves pool h (arg.Local slot) = refl
object-moves pool h (arg.Inc slot n) = refl
object-moves pool h (arg.Target t) = refl
object-moves pool h (arg.Table default low targets) = refl
object-moves pool h (arg.Lookup default keys targets) = refl
object-moves pool h (arg.Interface index count zero) = refl
object-moves pool h (arg.Multi index dimensions) = refl
object-moves pool h (arg.Array code) = refl

other-moves : (c : ClassFile) (op : ℕ) (h : ℕ → ℕ) (a : Arg) → other_operation c op (moved_arg h a) ≡ other_operation c op a
other-moves c op h (arg.Pool index) = refl
other-moves c op h arg.Plain = refl
other-moves c op h (arg.Value n) = refl
other-moves c op h (arg.Local slot) = refl
other-moves c op h (arg.Inc slot n) = refl
other-moves c op h (arg.Target t) = refl
other-moves c op h (arg.Table default low targets) = refl
other-moves c op h (arg.Lookup default keys targets) = refl
other-moves c op h (arg.Interface index count zero) = refl
other-moves c op h (arg.Multi index dimensions) = refl
other-moves c op h (arg.Array code) = refl

-- the local one, by what it reads of its operand: values, slots, increments, targets and keys
record SameOperand (a b : Arg) : Type 0 where
  value : value_in a ≡ value_in b
  slot : slot_in a ≡ slot_in b
  increment : increment_in a ≡ increment_in b
  jumps : (l : Local) → option_map (λ t. l) (target_in a) ≡ option_map (λ t. l) (target_in b)
  keys : keys_in a ≡ keys_in b

operand-same : (h : ℕ → ℕ) (a : Arg) → SameOperand (moved_arg h a) a
operand-same h (arg.Table default low targets) = record {
  value = refl;
  slot = refl;
  increment = refl;
  jumps = λ l. refl;
  keys = ap (λ n. let o : Option Keys = Some (Consecutive low n) in o) (length-map targets h);
}
operand-same h (arg.Target t) = record { value = refl; slot = refl; increment = refl; jumps = λ l. refl; keys = refl }
operand-same h (arg.Lookup default keys targets) = record { value = refl; slot = refl; increment = refl; jumps = λ l. refl; keys = refl }
operand-same h (arg.Pool index) = record { value = refl; slot = refl; increment = refl; jumps = λ l. refl; keys = refl }
operand-same h arg.Plain = record { value = refl; slot = refl; increment = refl; jumps = λ l. refl; keys = refl }
operand-same h (arg.Value n) = record { value = refl; slot = refl; increment = refl; jumps = λ l. refl; keys = refl }
operand-same h (arg.Local slot) = record { value = refl; slot = refl; increment = refl; jumps = λ l. refl; keys = refl }
operand-same h (arg.Inc slot n) = record { value = refl; slot = refl; increment = refl; jumps = λ l. refl; keys = refl }
operand-same h (arg.Interface index count zero) = record { value = refl; slot = refl; increment = refl; jumps = λ l. refl; keys = refl }
operand-same h (arg.Multi index dimensions) = record { value = refl; slot = refl; increment = refl; jumps = λ l. refl; keys = refl }
operand-same h (arg.Array code) = record { value = refl; slot = refl; increment = refl; jumps = λ l. refl; keys = refl }

local-same : (f : Family) (a b : Arg) (c : Option Datum) → SameOperand a b → local_of f a c ≡ local_of f b c
local-same family.OperandConstant a b c same = ap (option_map Constant) same.value
local-same (family.Load k) a b c same = ap (option_map (Load k)) same.slot
local-same (family.Store k) a b c same = ap (option_map (Store k)) same.slot
local-same family.Iinc a b c same = ap (option_map (λ p. Iinc p.0 p.1)) same.increment
local-same (family.Branch test) a b c same = same.jumps (Branch test)
local-same family.Goto a b c same = same.jumps Goto
local-same family.Jsr a b c same = same.jumps Jsr
local-same family.Ret a b c same = ap (option_map Ret) same.slot
local-same family.Switch a b c same = ap (option_map Switch) same.keys
local-same _ a b c same = refl

by-moves : (c : ClassFile) (op : ℕ) (h : ℕ → ℕ) (a : Arg) (f : Family) → operation_by c op (moved_arg h a) f ≡ operation_by c op a f
by-moves c op h a family.NotLocal = other-moves c op h a
by-moves c op h a family.PoolConstant =
    ap (λ d. pool_constant_operation (option_map Within (local_of family.PoolConstant (moved_arg h a) d)) (object_constant_in c.pool (moved_arg h a))) (constant-moves c.pool h a)
    ∙ ap (pool_constant_operation (option_map Within (local_of family.PoolConstant a (constant_in c.pool a)))) (object-moves c.pool h a)
by-moves c op h a f =
    ap (λ d. option_map Within (local_of f (moved_arg h a) d)) (constant-moves c.pool h a)
    ∙ ap (option_map Within) (local-same f (moved_arg h a) a (constant_in c.pool a) (operand-same h a))

pub operation-moves : (c : ClassFile) (h : ℕ → ℕ) (place : ℕ) (i : Instr) → operation_of c (instr_moved h place i) ≡ operation_of c i
operation-moves c h place i = by-moves c i.op h i.arg (family_of i.op)

-- ---- targets

pub targets-move : (h : ℕ → ℕ) (a : Arg) → targets_of (moved_arg h a) ≡ map h (targets_of a)
targets-move h (arg.Target t) = refl
targets-move h (arg.Table default low targets) = refl
targets-move h (arg.Lookup default keys targets) = refl
targets-move h (arg.Pool index) = refl
targets-move h arg.Plain = refl
targets-move h (arg.Value n) = refl
targets-move h (arg.Local slot) = refl
targets-move h (arg.Inc slot n) = refl
targets-move h (arg.Interface index count zero) = refl
targets-move h (arg.Multi index dimensions) = refl
targets-move h (arg.Array code) = refl
