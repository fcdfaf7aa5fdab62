-- Rows and counts of the table of opcodes, taken from the instructions' pages of the JVM Specification, SE 7, 6.5.
use Rattle.std.proofs.Common.{◌≡◌, ℕ, zero, suc, Bool, true, false, List, [], ◌∷◌, refl}
use Rattle.std.specs.Prelude.{map, count_by, ◌==◌}
use Rattle.op_table.specs.declared.Form.{Form}
use Rattle.op_table.specs.declared.Form.TheVariants.{Plain, Byte, Short, PoolByte, Pool, Local, Inc, Jump, JumpWide, Table, Lookup, Interface, Multi, Array, Wide, Unknown}
use Rattle.op_table.specs.declared.OpRow.{OpRow}
use Rattle.op_table.specs.Opcodes.{row_of, wide_row_of, groups, wide_groups}

abbrev plain_row : Form → ℕ → OpRow
plain_row form size = record { form = form; size = size; floating = false; ends = false; returns = false }

nop : row_of 0 ≡ plain_row Plain 1
unfolding row_of groups
nop = refl

dconst_1 : row_of 15 ≡ record (plain_row Plain 1) { floating = true }
unfolding row_of groups
dconst_1 = refl

sipush : row_of 17 ≡ plain_row Short 3
unfolding row_of groups
sipush = refl

ldc : row_of 18 ≡ plain_row PoolByte 2
unfolding row_of groups
ldc = refl

aload : row_of 25 ≡ plain_row Local 2
unfolding row_of groups
aload = refl

iinc : row_of 132 ≡ plain_row Inc 3
unfolding row_of groups
iinc = refl

ret : row_of 169 ≡ record (plain_row Local 2) { ends = true }
unfolding row_of groups
ret = refl

lookupswitch : row_of 171 ≡ record (plain_row Lookup 0) { ends = true }
unfolding row_of groups
lookupswitch = refl

dreturn : row_of 175 ≡ record { form = Plain; size = 1; floating = true; ends = true; returns = true }
unfolding row_of groups
dreturn = refl

invokeinterface : row_of 185 ≡ plain_row Interface 5
unfolding row_of groups
invokeinterface = refl

invokedynamic : row_of 186 ≡ plain_row Unknown 0
unfolding row_of groups
invokedynamic = refl

multianewarray : row_of 197 ≡ plain_row Multi 4
unfolding row_of groups
multianewarray = refl

jsr_w : row_of 201 ≡ plain_row JumpWide 5
unfolding row_of groups
jsr_w = refl

-- ---- how many opcodes

-- so many opcodes, from the last one down
abbrev opcodes : ℕ → List ℕ
opcodes zero = []
opcodes (suc n) = n ∷ opcodes n

-- which of the forms it is, in the order of the type
abbrev place_of : Form → ℕ
place_of Plain = 0
place_of Byte = 1
place_of Short = 2
place_of PoolByte = 3
place_of Pool = 4
place_of Local = 5
place_of Inc = 6
place_of Jump = 7
place_of JumpWide = 8
place_of Table = 9
place_of Lookup = 10
place_of Interface = 11
place_of Multi = 12
place_of Array = 13
place_of Wide = 14
place_of Unknown = 15

-- how many opcodes have a form
abbrev having : Form → ℕ
having form = count_by (λ op. place_of (row_of op).form == place_of form) (opcodes 256)

forms : map having (Plain ∷ Byte ∷ Short ∷ PoolByte ∷ Pool ∷ Local ∷ Inc ∷ Jump ∷ JumpWide ∷ Table ∷ Lookup ∷ Interface ∷ Multi ∷ Array ∷ Wide ∷ Unknown ∷ [])
    ≡ 147 ∷ 1 ∷ 1 ∷ 1 ∷ 13 ∷ 11 ∷ 1 ∷ 18 ∷ 2 ∷ 1 ∷ 1 ∷ 1 ∷ 1 ∷ 1 ∷ 1 ∷ 55 ∷ []
unfolding row_of groups
forms = refl

floating : count_by (λ op. (row_of op).floating) (opcodes 256) ≡ 57
unfolding row_of groups
floating = refl

-- ---- behind wide

wide_iinc : wide_row_of 132 ≡ plain_row Inc 6
unfolding wide_row_of wide_groups
wide_iinc = refl

wide_ret : (wide_row_of 169).size ≡ 4
unfolding wide_row_of wide_groups
wide_ret = refl

wide_locals : count_by (λ op. place_of (wide_row_of op).form == place_of Local) (opcodes 256) ≡ 11
unfolding wide_row_of wide_groups
wide_locals = refl

wide_floating : count_by (λ op. (wide_row_of op).floating) (opcodes 256) ≡ 4
unfolding wide_row_of wide_groups
wide_floating = refl
