-- Only the six return opcodes return.
use Rattle.std.proofs.Common.{◌≡◌, ℕ, ◌<◌, Bool, true, false, not, List, [], ◌∷◌, Option, Some, None, refl, sym, ap, ◌∙◌}
use Rattle.std.specs.Prelude.{◌==◌, ◌&&◌, ◌||◌, slice_get, if◌then◌else◌}
use Rattle.std.specs.Int.{is_in_range}
use Rattle.std.specs.List.{AllByRecursion}
use Rattle.std.specs.Option.{option_and_then, option_map}
use Rattle.std.proofs.lemmas.Option.{none-some, same_Some}
use Rattle.const_pool.specs.declared.class.ClassFile.{ClassFile}
use Rattle.const_pool.specs.declared.pool.Const.{Const}
use Rattle.const_pool.specs.declared.pool.Const.TheVariants as const
use Rattle.const_pool.specs.References.{named_text}
use Rattle.code_model.specs.declared.instr.Arg.{Arg}
use Rattle.code_model.specs.declared.instr.Arg.TheVariants as arg
use Rattle.code_model.specs.declared.instr.Instr.{Instr}
use Rattle.jvm_model.specs.declared.family.Family.{Family}
use Rattle.jvm_model.specs.declared.family.Family.TheVariants as family
use Rattle.jvm_model.specs.Basis.Data.{Datum}
use Rattle.jvm_model.specs.declared.instruction.Local.TheVariants.{ManageStack, BinaryOfInts, BinaryOfLongs, Branch, Constant, DivisionOfInts, DivisionOfLongs, Goto, Iinc, Jsr, Lcmp, Load, Nop, Ret, ShiftOfLong, Store, Switch, UnaryOfInt, UnaryOfLong}
use Rattle.jvm_model.specs.declared.instruction.SymbolicReference.TheVariants.{LdcClass}
use Rattle.jvm_model.specs.declared.instruction.Operation.TheVariants.{LdcString, Named, Newarray, Within}
use Rattle.jvm_model.specs.declared.instruction.Local.{Local}
use Rattle.jvm_model.specs.declared.instruction.SymbolicReference.{SymbolicReference}
use Rattle.jvm_model.specs.declared.instruction.Operation.{Operation}
use Rattle.jvm_model.specs.Basis.Families.{family_of, rows}
use Rattle.jvm_model.specs.Codes.Lines.{ObjectRow, constant_in, pool_constant_operation, has_dimensions, increment_in, interface_reference, keys_in, array_reference, named_by, symbolic_reference_of, newarray_of, object_among, object_constant, object_constant_in, object_rows, operation_by, operation_of, other_operation, slot_in, target_in, value_in}
use Rattle.jvm_model.specs.Turns.StepPauses.{is_return}
use Rattle.jvm_model.specs.Rewriting.Versions.{is_return_opcode}
use Rattle.jvm_model.proofs.Running.AllBelow.{all_below, all_below-each}
use Rattle.jvm_model.specs.Instructions.ObjectRules.{array_kind}

-- ---- by the family of an opcode

abbrev returns : Family → Bool
returns (family.Return k) = true
returns _ = false

returns-by-opcode : all_below (λ op. not (returns (family_of op)) || is_return_opcode op) 256 ≡ true
unfolding family_of rows
returns-by-opcode = refl

or-second : (a b : Bool) → (not a || b) ≡ true → a ≡ true → b ≡ true
or-second true b e is = e
or-second false b e is = absurd (let f : false ≡ true = is in cc)

-- ---- what another family does

abbrev Stays : Option (Operation Local) → Type 0
Stays x = (o : Operation Local) → x ≡ Some o → is_return o ≡ false

none-stays : Stays None
none-stays o e = absurd (none-some o e)

some-stays : (x : Operation Local) → is_return x ≡ false → Stays (Some x)
some-stays x stays o e = ap is_return (sym (same_Some x o e)) ∙ stays

map-stays : {A : Type 0} (f : A → Operation Local) → ((a : A) → is_return (f a) ≡ false) → (x : Option A) → Stays (option_map f x)
map-stays f each None = none-stays
map-stays f each (Some a) = some-stays (f a) (each a)

within-stays : {A : Type 0} (f : A → Local) → ((a : A) → is_return (Within (f a)) ≡ false) → (x : Option A) → Stays (option_map Within (option_map f x))
within-stays f each None = none-stays
within-stays f each (Some a) = some-stays (Within (f a)) (each a)

named-stays : (x : Option SymbolicReference) → Stays (option_and_then named_by x)
named-stays None = none-stays
named-stays (Some n) = by (has_dimensions n) where
  by : (b : Bool) → Stays (if b then Some (Named n) else None)
  by true = some-stays (Named n) refl
  by false = none-stays

among-stays : (rs : List ObjectRow) (op : ℕ) → AllByRecursion (λ (r : ObjectRow). is_return r.operation ≡ false) rs → Stays (object_among rs op)
among-stays [] op all = none-stays
among-stays (r ∷ rs) op all = by (op == r.op) (among-stays rs op all.1) where
  by : (b : Bool) → Stays (object_among rs op) → Stays (if b then Some r.operation else object_among rs op)
  by true others = some-stays r.operation all.0
  by false others = others

newarray-stays : (op code : ℕ) → Stays (newarray_of op code)
newarray-stays op code = by (op == 188 && is_in_range 4 11 code) where
  by : (b : Bool) → Stays (if b then Some (Newarray (array_kind code)) else None)
  by true = some-stays (Newarray (array_kind code)) refl
  by false = none-stays

other-stays : (c : ClassFile) (op : ℕ) (a : Arg) → Stays (other_operation c op a)
other-stays c op (arg.Pool index) = named-stays (symbolic_reference_of c op index)
other-stays c op (arg.Interface index count zero) = named-stays (interface_reference c op index)
other-stays c op (arg.Multi index dimensions) = named-stays (array_reference c op index dimensions)
other-stays c op (arg.Array code) = newarray-stays op code
other-stays c op arg.Plain = among-stays object_rows op (refl, (refl, (refl, (refl, (refl, (refl, (refl, (refl, (refl, (refl, (refl, (refl, (refl, (refl, (refl, (refl, tt))))))))))))))))
other-stays c op (arg.Value n) = none-stays
other-stays c op (arg.Local slot) = none-stays
other-stays c op (arg.Inc slot n) = none-stays
other-stays c op (arg.Target t) = none-stays
other-stays c op (arg.Table d low ts) = none-stays
other-stays c op (arg.Lookup d ks ts) = none-stays

constant-stays : (pool : List Const) (k : Const) → Stays (object_constant pool k)
constant-stays pool (const.Text i) = map-stays LdcString (λ t. refl) (named_text pool i)
constant-stays pool (const.Class i) = map-stays (λ name. Named (LdcClass name)) (λ t. refl) (named_text pool i)
constant-stays pool const.Gap = none-stays
constant-stays pool (const.Utf8 t) = none-stays
constant-stays pool (const.Integer n) = none-stays
constant-stays pool (const.Float n) = none-stays
constant-stays pool (const.Long n) = none-stays
constant-stays pool (const.Double n) = none-stays
constant-stays pool (const.Field a b) = none-stays
constant-stays pool (const.Method a b) = none-stays
constant-stays pool (const.InterfaceMethod a b) = none-stays
constant-stays pool (const.NameType a b) = none-stays

object-stays : (c : ClassFile) (a : Arg) → Stays (object_constant_in c.pool a)
object-stays c (arg.Pool index) = by (slice_get c.pool index) where
  by : (x : Option Const) → Stays (option_and_then (object_constant c.pool) x)
  by None = none-stays
  by (Some k) = constant-stays c.pool k
object-stays c (arg.Interface index count zero) = none-stays
object-stays c (arg.Multi index dimensions) = none-stays
object-stays c (arg.Array code) = none-stays
object-stays c arg.Plain = none-stays
object-stays c (arg.Value n) = none-stays
object-stays c (arg.Local slot) = none-stays
object-stays c (arg.Inc slot n) = none-stays
object-stays c (arg.Target t) = none-stays
object-stays c (arg.Table d low ts) = none-stays
object-stays c (arg.Lookup d ks ts) = none-stays

given-stays : (x : Option Datum) (y : Option (Operation Local)) → Stays y → Stays (pool_constant_operation (option_map Within (option_map Constant x)) y)
given-stays None y stays = stays
given-stays (Some d) y stays = some-stays (Within (Constant d)) refl

family-stays : (c : ClassFile) (op : ℕ) (a : Arg) (f : Family) → returns f ≡ false → Stays (operation_by c op a f)
family-stays c op a family.NotLocal other = other-stays c op a
family-stays c op a family.PoolConstant other = given-stays (constant_in c.pool a) (object_constant_in c.pool a) (object-stays c a)
family-stays c op a family.Nop other = some-stays (Within Nop) refl
family-stays c op a (family.Constant d) other = some-stays (Within (Constant d)) refl
family-stays c op a family.OperandConstant other = within-stays Constant (λ d. refl) (value_in a)
family-stays c op a (family.Load k) other = within-stays (Load k) (λ d. refl) (slot_in a)
family-stays c op a (family.LoadFrom k slot) other = some-stays (Within (Load k slot)) refl
family-stays c op a (family.Store k) other = within-stays (Store k) (λ d. refl) (slot_in a)
family-stays c op a (family.StoreTo k slot) other = some-stays (Within (Store k slot)) refl
family-stays c op a (family.ManageStack x) other = some-stays (Within (ManageStack x)) refl
family-stays c op a (family.BinaryOfInts x) other = some-stays (Within (BinaryOfInts x)) refl
family-stays c op a (family.BinaryOfLongs x) other = some-stays (Within (BinaryOfLongs x)) refl
family-stays c op a (family.DivisionOfInts x) other = some-stays (Within (DivisionOfInts x)) refl
family-stays c op a (family.DivisionOfLongs x) other = some-stays (Within (DivisionOfLongs x)) refl
family-stays c op a (family.ShiftOfLong x) other = some-stays (Within (ShiftOfLong x)) refl
family-stays c op a (family.UnaryOfInt x) other = some-stays (Within (UnaryOfInt x)) refl
family-stays c op a (family.UnaryOfLong x) other = some-stays (Within (UnaryOfLong x)) refl
family-stays c op a family.Lcmp other = some-stays (Within Lcmp) refl
family-stays c op a family.Iinc other = within-stays (λ p. Iinc p.0 p.1) (λ d. refl) (increment_in a)
family-stays c op a (family.Branch test) other = within-stays (λ target. Branch test) (λ d. refl) (target_in a)
family-stays c op a family.Goto other = within-stays (λ target. Goto) (λ d. refl) (target_in a)
family-stays c op a family.Jsr other = within-stays (λ target. Jsr) (λ d. refl) (target_in a)
family-stays c op a family.Ret other = within-stays Ret (λ d. refl) (slot_in a)
family-stays c op a family.Switch other = within-stays Switch (λ d. refl) (keys_in a)
family-stays c op a (family.Return k) other = absurd (let e : true ≡ false = other in cc)

-- ---- an instruction that returns

pub return-opcode : (c : ClassFile) (i : Instr) (o : Operation Local) → i.op < 256 → operation_of c i ≡ Some o → is_return o ≡ true → is_return_opcode i.op ≡ true
return-opcode c i o lt is back = by (returns (family_of i.op)) refl where
  by : (b : Bool) → returns (family_of i.op) ≡ b → is_return_opcode i.op ≡ true
  by true e = or-second (returns (family_of i.op)) (is_return_opcode i.op) (all_below-each (λ op. not (returns (family_of op)) || is_return_opcode op) 256 i.op returns-by-opcode lt) e
  by false e = absurd (let f : true ≡ false = sym back ∙ family-stays c i.op i.arg (family_of i.op) e o is in cc)
