-- What the opcode table says, by groups of neighbouring opcodes that share a row (JVM Specification, SE 7, 6.5 and 7).
use Rattle.std.specs.Prelude.{◌≡◌, ℕ, true, false, List, [], ◌∷◌, ◌⊎◌, if◌then◌else◌, ⊤}
use Rattle.std.specs.Int.{is_in_range, IsInRange}
use Rattle.op_table.specs.declared.Form.{Form}
use Rattle.op_table.specs.declared.Form.TheVariants.{Plain, Byte, Short, PoolByte, Pool, Local, Inc, Jump, JumpWide, Table, Lookup, Interface, Multi, Array, Wide, Unknown}
use Rattle.op_table.specs.declared.OpRow.{OpRow}

-- the opcodes from `first` to `last`, and the row of each
pub record Group : Type 0 where
  pub first : ℕ
  pub last : ℕ
  pub row : OpRow

-- instructions after which control may go on
abbrev pub group : ℕ → ℕ → Form → ℕ → Group
group a b f n = record { first = a; last = b; row = record { form = f; size = n; floating = false; ends = false; returns = false } }

-- the same for instructions that take or give a float or a double
abbrev pub floating : ℕ → ℕ → Form → ℕ → Group
floating a b f n = record { first = a; last = b; row = record { form = f; size = n; floating = true; ends = false; returns = false } }

-- instructions after which control never goes on
abbrev pub ending : ℕ → ℕ → Form → ℕ → Group
ending a b f n = record { first = a; last = b; row = record { form = f; size = n; floating = false; ends = true; returns = false } }

-- those that return from the method
abbrev pub returning : ℕ → ℕ → Form → ℕ → Group
returning a b f n = record { first = a; last = b; row = record { form = f; size = n; floating = false; ends = true; returns = true } }

-- freturn and dreturn
abbrev pub floating_returning : ℕ → ℕ → Form → ℕ → Group
floating_returning a b f n = record { first = a; last = b; row = record { form = f; size = n; floating = true; ends = true; returns = true } }

-- The row of the group that the opcode is in. An opcode in no group stands for no instruction: 186, invokedynamic, is
-- in no class file of a version up to 50.
abbrev pub row_among : List Group → ℕ → OpRow
row_among [] op = record { form = Unknown; size = 0; floating = false; ends = false; returns = false }
row_among (g ∷ gs) op = if is_in_range g.first g.last op then g.row else row_among gs op

unfoldable pub groups : List Group
groups =
    -- nop, aconst_null, iconst_m1 to iconst_5, lconst_0 and lconst_1; fconst_0 to fconst_2, dconst_0 and dconst_1
    group 0 10 Plain 1 ∷ floating 11 15 Plain 1
    -- bipush; sipush; ldc; ldc_w and ldc2_w
    ∷ group 16 16 Byte 2 ∷ group 17 17 Short 3 ∷ group 18 18 PoolByte 2 ∷ group 19 20 Pool 3
    -- iload and lload; fload and dload; aload
    ∷ group 21 22 Local 2 ∷ floating 23 24 Local 2 ∷ group 25 25 Local 2
    -- iload_0 to lload_3; fload_0 to dload_3; aload_0 to aload_3
    ∷ group 26 33 Plain 1 ∷ floating 34 41 Plain 1 ∷ group 42 45 Plain 1
    -- iaload and laload; faload and daload; aaload to saload
    ∷ group 46 47 Plain 1 ∷ floating 48 49 Plain 1 ∷ group 50 53 Plain 1
    -- istore and lstore; fstore and dstore; astore
    ∷ group 54 55 Local 2 ∷ floating 56 57 Local 2 ∷ group 58 58 Local 2
    -- istore_0 to lstore_3; fstore_0 to dstore_3; astore_0 to astore_3
    ∷ group 59 66 Plain 1 ∷ floating 67 74 Plain 1 ∷ group 75 78 Plain 1
    -- iastore and lastore; fastore and dastore; aastore to sastore
    ∷ group 79 80 Plain 1 ∷ floating 81 82 Plain 1 ∷ group 83 86 Plain 1
    -- pop to swap
    ∷ group 87 95 Plain 1
    -- add, sub, mul, div, rem and neg, each of int and long; of float and double
    ∷ group 96 97 Plain 1 ∷ floating 98 99 Plain 1
    ∷ group 100 101 Plain 1 ∷ floating 102 103 Plain 1
    ∷ group 104 105 Plain 1 ∷ floating 106 107 Plain 1
    ∷ group 108 109 Plain 1 ∷ floating 110 111 Plain 1
    ∷ group 112 113 Plain 1 ∷ floating 114 115 Plain 1
    ∷ group 116 117 Plain 1 ∷ floating 118 119 Plain 1
    -- ishl to lushr, iand to lxor; iinc
    ∷ group 120 131 Plain 1 ∷ group 132 132 Inc 3
    -- i2l; i2f and i2d; l2i; l2f to d2f; i2b, i2c and i2s
    ∷ group 133 133 Plain 1 ∷ floating 134 135 Plain 1 ∷ group 136 136 Plain 1 ∷ floating 137 144 Plain 1 ∷ group 145 147 Plain 1
    -- lcmp; fcmpl to dcmpg
    ∷ group 148 148 Plain 1 ∷ floating 149 152 Plain 1
    -- ifeq to ifle, if_icmpeq to if_acmpne; goto; jsr; ret; tableswitch; lookupswitch
    ∷ group 153 166 Jump 3 ∷ ending 167 167 Jump 3 ∷ group 168 168 Jump 3 ∷ ending 169 169 Local 2 ∷ ending 170 170 Table 0 ∷ ending 171 171 Lookup 0
    -- ireturn and lreturn; freturn and dreturn; areturn and return
    ∷ returning 172 173 Plain 1 ∷ floating_returning 174 175 Plain 1 ∷ returning 176 177 Plain 1
    -- getstatic to putfield, invokevirtual to invokestatic; invokeinterface
    ∷ group 178 184 Pool 3 ∷ group 185 185 Interface 5
    -- new; newarray; anewarray; arraylength; athrow; checkcast and instanceof; monitorenter and monitorexit
    ∷ group 187 187 Pool 3 ∷ group 188 188 Array 2 ∷ group 189 189 Pool 3 ∷ group 190 190 Plain 1 ∷ ending 191 191 Plain 1 ∷ group 192 193 Pool 3 ∷ group 194 195 Plain 1
    -- wide; multianewarray; ifnull and ifnonnull; goto_w; jsr_w
    ∷ group 196 196 Wide 0 ∷ group 197 197 Multi 4 ∷ group 198 199 Jump 3 ∷ ending 200 200 JumpWide 5 ∷ group 201 201 JumpWide 5 ∷ []

unfoldable pub row_of : ℕ → OpRow
row_of op = row_among groups op

-- after `wide`: the loads, the stores, iinc and ret; the size counts the wide
unfoldable pub wide_groups : List Group
wide_groups =
    group 21 22 Local 4 ∷ floating 23 24 Local 4 ∷ group 25 25 Local 4
    ∷ group 54 55 Local 4 ∷ floating 56 57 Local 4 ∷ group 58 58 Local 4
    ∷ group 132 132 Inc 6 ∷ ending 169 169 Local 4 ∷ []

unfoldable pub wide_row_of : ℕ → OpRow
wide_row_of op = row_among wide_groups op

-- the operands decide the size, or there is no instruction
abbrev pub HasNoFixedSize : Form → Type 0
HasNoFixedSize Table = ⊤
HasNoFixedSize Lookup = ⊤
HasNoFixedSize Wide = ⊤
HasNoFixedSize Unknown = ⊤
HasNoFixedSize _ = ⊥

-- goto; ret, the two switches and the returns; athrow; goto_w
abbrev pub NeverGoesOn : ℕ → Type 0
NeverGoesOn op = (op ≡ 167) ⊎ (IsInRange 169 177 op ⊎ ((op ≡ 191) ⊎ (op ≡ 200)))

-- ireturn, lreturn, freturn, dreturn, areturn and return
abbrev pub IsReturn : ℕ → Type 0
IsReturn op = IsInRange 172 177 op
