-- Which family an opcode is of, a row each (JVM Specification 6.5, 7). Behind `wide` an opcode is of the same family.
use Rattle.std.specs.Prelude.{ℕ, Some, None, true, false, List, [], ◌∷◌, pos, negsuc, ◌==◌, if◌then◌else◌}
use Rattle.heap_objects.specs.declared.datum.Datum.TheVariants.{Int, Long, Ref}
use Rattle.const_pool.specs.declared.descriptor.Kind.TheVariants as kind
use Rattle.jvm_model.specs.declared.family.IntOperator.TheVariants.{Iadd, Isub, Imul, Ishl, Ishr, Iushr, Iand, Ior, Ixor}
use Rattle.jvm_model.specs.declared.family.LongOperator.TheVariants.{Ladd, Lsub, Lmul, Land, Lor, Lxor}
use Rattle.jvm_model.specs.declared.family.Division.TheVariants.{Quotient, Remainder}
use Rattle.jvm_model.specs.declared.family.LongShift.TheVariants.{Lshl, Lshr, Lushr}
use Rattle.jvm_model.specs.declared.family.OfInt.TheVariants.{Ineg, I2l, I2b, I2c, I2s}
use Rattle.jvm_model.specs.declared.family.OfLong.TheVariants.{Lneg, L2i}
use Rattle.jvm_model.specs.declared.family.Comparison.TheVariants.{Equal, NotEqual, Less, AtLeast, Greater, AtMost}
use Rattle.jvm_model.specs.declared.family.Test.TheVariants.{WithZero, OfInts, OfReferences, IsNull}
use Rattle.jvm_model.specs.declared.family.StackInstruction.TheVariants.{Pop, Pop2, Dup, DupX1, DupX2, Dup2, Dup2X1, Dup2X2, Swap}
use Rattle.jvm_model.specs.declared.family.Family.{Family}
use Rattle.jvm_model.specs.declared.family.Family.TheVariants.{Nop, Constant, PoolConstant, OperandConstant, Load, LoadFrom, Store, StoreTo, ManageStack, BinaryOfInts, BinaryOfLongs, DivisionOfInts, DivisionOfLongs, ShiftOfLong, UnaryOfInt, UnaryOfLong, Lcmp, Iinc, Branch, Goto, Jsr, Ret, Switch, Return, NotLocal}

pub record Row : Type 0 where
  pub op : ℕ
  pub family : Family

abbrev pub row : ℕ → Family → Row
row op family = record { op = op; family = family }

-- An opcode without a row sees more than its frame, takes or gives a float or a double, or is no instruction.
abbrev pub family_among : List Row → ℕ → Family
family_among [] op = NotLocal
family_among (r ∷ rs) op = if op == r.op then r.family else family_among rs op

unfoldable pub rows : List Row
rows =
    -- nop
    row 0 Nop ∷
    -- aconst_null
    row 1 (Constant (Ref 0)) ∷
    -- iconst_m1 to iconst_5
    row 2 (Constant (Int (negsuc 0))) ∷ row 3 (Constant (Int (pos 0))) ∷ row 4 (Constant (Int (pos 1))) ∷
    row 5 (Constant (Int (pos 2))) ∷ row 6 (Constant (Int (pos 3))) ∷ row 7 (Constant (Int (pos 4))) ∷
    row 8 (Constant (Int (pos 5))) ∷
    -- lconst_0, lconst_1
    row 9 (Constant (Long (pos 0))) ∷ row 10 (Constant (Long (pos 1))) ∷
    -- bipush, sipush
    row 16 OperandConstant ∷ row 17 OperandConstant ∷
    -- ldc, ldc_w, ldc2_w
    row 18 PoolConstant ∷ row 19 PoolConstant ∷ row 20 PoolConstant ∷
    -- iload, lload, aload
    row 21 (Load kind.Int) ∷ row 22 (Load kind.Long) ∷ row 25 (Load kind.Ref) ∷
    -- iload_0 to lload_3
    row 26 (LoadFrom kind.Int 0) ∷ row 27 (LoadFrom kind.Int 1) ∷ row 28 (LoadFrom kind.Int 2) ∷
    row 29 (LoadFrom kind.Int 3) ∷ row 30 (LoadFrom kind.Long 0) ∷ row 31 (LoadFrom kind.Long 1) ∷
    row 32 (LoadFrom kind.Long 2) ∷ row 33 (LoadFrom kind.Long 3) ∷
    -- aload_0 to aload_3
    row 42 (LoadFrom kind.Ref 0) ∷ row 43 (LoadFrom kind.Ref 1) ∷ row 44 (LoadFrom kind.Ref 2) ∷
    row 45 (LoadFrom kind.Ref 3) ∷
    -- istore, lstore, astore
    row 54 (Store kind.Int) ∷ row 55 (Store kind.Long) ∷ row 58 (Store kind.Ref) ∷
    -- istore_0 to lstore_3
    row 59 (StoreTo kind.Int 0) ∷ row 60 (StoreTo kind.Int 1) ∷ row 61 (StoreTo kind.Int 2) ∷
    row 62 (StoreTo kind.Int 3) ∷ row 63 (StoreTo kind.Long 0) ∷ row 64 (StoreTo kind.Long 1) ∷
    row 65 (StoreTo kind.Long 2) ∷ row 66 (StoreTo kind.Long 3) ∷
    -- astore_0 to astore_3
    row 75 (StoreTo kind.Ref 0) ∷ row 76 (StoreTo kind.Ref 1) ∷ row 77 (StoreTo kind.Ref 2) ∷
    row 78 (StoreTo kind.Ref 3) ∷
    -- pop to swap
    row 87 (ManageStack Pop) ∷ row 88 (ManageStack Pop2) ∷ row 89 (ManageStack Dup) ∷ row 90 (ManageStack DupX1) ∷
    row 91 (ManageStack DupX2) ∷ row 92 (ManageStack Dup2) ∷ row 93 (ManageStack Dup2X1) ∷ row 94 (ManageStack Dup2X2) ∷
    row 95 (ManageStack Swap) ∷
    -- add, sub, mul, div, rem, neg: of ints, of longs
    row 96 (BinaryOfInts Iadd) ∷ row 97 (BinaryOfLongs Ladd) ∷ row 100 (BinaryOfInts Isub) ∷
    row 101 (BinaryOfLongs Lsub) ∷ row 104 (BinaryOfInts Imul) ∷ row 105 (BinaryOfLongs Lmul) ∷
    row 108 (DivisionOfInts Quotient) ∷ row 109 (DivisionOfLongs Quotient) ∷ row 112 (DivisionOfInts Remainder) ∷
    row 113 (DivisionOfLongs Remainder) ∷ row 116 (UnaryOfInt Ineg) ∷ row 117 (UnaryOfLong Lneg) ∷
    -- shl, shr, ushr: of ints, of longs
    row 120 (BinaryOfInts Ishl) ∷ row 121 (ShiftOfLong Lshl) ∷ row 122 (BinaryOfInts Ishr) ∷
    row 123 (ShiftOfLong Lshr) ∷ row 124 (BinaryOfInts Iushr) ∷ row 125 (ShiftOfLong Lushr) ∷
    -- and, or, xor: of ints, of longs
    row 126 (BinaryOfInts Iand) ∷ row 127 (BinaryOfLongs Land) ∷ row 128 (BinaryOfInts Ior) ∷
    row 129 (BinaryOfLongs Lor) ∷ row 130 (BinaryOfInts Ixor) ∷ row 131 (BinaryOfLongs Lxor) ∷
    -- iinc
    row 132 Iinc ∷
    -- i2l, l2i, i2b, i2c, i2s
    row 133 (UnaryOfInt I2l) ∷ row 136 (UnaryOfLong L2i) ∷ row 145 (UnaryOfInt I2b) ∷ row 146 (UnaryOfInt I2c) ∷
    row 147 (UnaryOfInt I2s) ∷
    -- lcmp
    row 148 Lcmp ∷
    -- ifeq, ifne, iflt, ifge, ifgt, ifle
    row 153 (Branch (WithZero Equal)) ∷ row 154 (Branch (WithZero NotEqual)) ∷ row 155 (Branch (WithZero Less)) ∷
    row 156 (Branch (WithZero AtLeast)) ∷ row 157 (Branch (WithZero Greater)) ∷ row 158 (Branch (WithZero AtMost)) ∷
    -- if_icmpeq, if_icmpne, if_icmplt, if_icmpge, if_icmpgt, if_icmple
    row 159 (Branch (OfInts Equal)) ∷ row 160 (Branch (OfInts NotEqual)) ∷ row 161 (Branch (OfInts Less)) ∷
    row 162 (Branch (OfInts AtLeast)) ∷ row 163 (Branch (OfInts Greater)) ∷ row 164 (Branch (OfInts AtMost)) ∷
    -- if_acmpeq, if_acmpne
    row 165 (Branch (OfReferences true)) ∷ row 166 (Branch (OfReferences false)) ∷
    -- goto, jsr, ret, tableswitch, lookupswitch
    row 167 Goto ∷ row 168 Jsr ∷ row 169 Ret ∷ row 170 Switch ∷ row 171 Switch ∷
    -- ireturn, lreturn, areturn, return
    row 172 (Return (Some kind.Int)) ∷ row 173 (Return (Some kind.Long)) ∷ row 176 (Return (Some kind.Ref)) ∷ row 177 (Return None) ∷
    -- ifnull, ifnonnull
    row 198 (Branch (IsNull true)) ∷ row 199 (Branch (IsNull false)) ∷
    -- goto_w, jsr_w
    row 200 Goto ∷ row 201 Jsr ∷ []

unfoldable pub family_of : ℕ → Family
family_of op = family_among rows op
