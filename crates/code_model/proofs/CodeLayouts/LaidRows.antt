-- The definitions of a layout, computed on worked codes.
use Rattle.std.specs.Prelude.{◌≡◌, ℕ, ◌++◌, length, replicate, Bool, true, false, List, [], ◌∷◌, Some, None, pos, negsuc, refl}
use Rattle.op_table.specs.Opcodes.{row_of, groups, wide_row_of, wide_groups}
use Rattle.code_model.specs.declared.instr.Arg.{Arg}
use Rattle.code_model.specs.declared.instr.Arg.TheVariants.{Plain, Value, Pool, Local, Inc, Target, Table, Lookup, Interface, Multi, Array}
use Rattle.code_model.specs.declared.instr.Instr.{Instr}
use Rattle.code_model.specs.declared.laying.Group.{Group}
use Rattle.code_model.specs.Layout.{instr_bytes, laid_of, home_in, place_in, origin_in, first_far}

-- sipush 0 and invokestatic of a method of the pool's tail
abbrev probe : ℕ → List ℕ
probe index = 17 ∷ 0 ∷ 0 ∷ 184 ∷ 0 ∷ index ∷ []

-- what stands behind the instructions: a probe, and athrow
abbrev unwinding : List ℕ
unwinding = probe 38 ++ 191 ∷ []

abbrev instr_with : Bool → ℕ → ℕ → Arg → Instr
instr_with wide at op arg = record { at = at; op = op; wide = wide; arg = arg }

abbrev group_with : ℕ → ℕ → Arg → Group
group_with at op arg = record { before = []; instr = instr_with false at op arg }

-- an ireturn, with a probe in front
abbrev leaving : ℕ → Group
leaving at = record { before = probe 35; instr = instr_with false at 172 Plain }

-- ---- straight code: iload_0, iconst_1, iadd, ireturn

abbrev straight : List Group
straight = group_with 0 26 Plain ∷ group_with 1 4 Plain ∷ group_with 2 96 Plain ∷ leaving 3 ∷ []

straight_laid : laid_of (probe 29) straight unwinding ≡ record {
  code = 17 ∷ 0 ∷ 0 ∷ 184 ∷ 0 ∷ 29 ∷ 26 ∷ 4 ∷ 96 ∷ 17 ∷ 0 ∷ 0 ∷ 184 ∷ 0 ∷ 35 ∷ 172 ∷ 17 ∷ 0 ∷ 0 ∷ 184 ∷ 0 ∷ 38 ∷ 191 ∷ [];
  homes = record {
    from = 0 ∷ 1 ∷ 2 ∷ 3 ∷ 4 ∷ [];
    home = 6 ∷ 7 ∷ 8 ∷ 9 ∷ 16 ∷ [];
    place = 6 ∷ 7 ∷ 8 ∷ 15 ∷ 16 ∷ [];
  };
}
unfolding row_of groups wide_row_of wide_groups
straight_laid = refl

straight_home : home_in (laid_of (probe 29) straight unwinding).homes 3 ≡ Some 9
unfolding row_of groups wide_row_of wide_groups
straight_home = refl

straight_place : place_in (laid_of (probe 29) straight unwinding).homes 3 ≡ Some 15
unfolding row_of groups wide_row_of wide_groups
straight_place = refl

straight_origin : origin_in (laid_of (probe 29) straight unwinding).homes 15 ≡ Some 3
unfolding row_of groups wide_row_of wide_groups
straight_origin = refl

-- within a probe nothing of the original stands
no_origin : origin_in (laid_of (probe 29) straight unwinding).homes 9 ≡ None
unfolding row_of groups wide_row_of wide_groups
no_origin = refl

-- nor has an offset behind the code a home
no_home : home_in (laid_of (probe 29) straight unwinding).homes 5 ≡ None
unfolding row_of groups wide_row_of wide_groups
no_home = refl

-- ---- a jump back to the start: iinc 0 −1, iload_0, ifgt 0, iload_0, ireturn. It goes behind the front

abbrev back_jump : List Group
back_jump = group_with 0 132 (Inc 0 (negsuc 0)) ∷ group_with 3 26 Plain ∷ group_with 4 157 (Target 0) ∷ group_with 7 26 Plain ∷ leaving 8 ∷ []

back_jump_laid : laid_of (probe 29) back_jump unwinding ≡ record {
  code = 17 ∷ 0 ∷ 0 ∷ 184 ∷ 0 ∷ 29 ∷ 132 ∷ 0 ∷ 255 ∷ 26 ∷ 157 ∷ 255 ∷ 252 ∷ 26 ∷ 17 ∷ 0 ∷ 0 ∷ 184 ∷ 0 ∷ 35 ∷ 172 ∷ 17 ∷ 0 ∷ 0 ∷ 184 ∷ 0 ∷ 38 ∷ 191 ∷ [];
  homes = record {
    from = 0 ∷ 3 ∷ 4 ∷ 7 ∷ 8 ∷ 9 ∷ [];
    home = 6 ∷ 9 ∷ 10 ∷ 13 ∷ 14 ∷ 21 ∷ [];
    place = 6 ∷ 9 ∷ 10 ∷ 13 ∷ 20 ∷ 21 ∷ [];
  };
}
unfolding row_of groups wide_row_of wide_groups
back_jump_laid = refl

back_jump_length : length (laid_of (probe 29) back_jump unwinding).code ≡ 28
unfolding row_of groups wide_row_of wide_groups
back_jump_length = refl

-- ---- a jump to a return: iload_0, ifeq 8, iconst_1, goto 9, iconst_2, ireturn. It goes to the probe in front of it

abbrev to_return : List Group
to_return = group_with 0 26 Plain ∷ group_with 1 153 (Target 8) ∷ group_with 4 4 Plain ∷ group_with 5 167 (Target 9) ∷ group_with 8 5 Plain ∷ leaving 9 ∷ []

to_return_laid : laid_of (probe 29) to_return unwinding ≡ record {
  code = 17 ∷ 0 ∷ 0 ∷ 184 ∷ 0 ∷ 29 ∷ 26 ∷ 153 ∷ 0 ∷ 7 ∷ 4 ∷ 167 ∷ 0 ∷ 4 ∷ 5 ∷ 17 ∷ 0 ∷ 0 ∷ 184 ∷ 0 ∷ 35 ∷ 172 ∷ 17 ∷ 0 ∷ 0 ∷ 184 ∷ 0 ∷ 38 ∷ 191 ∷ [];
  homes = record {
    from = 0 ∷ 1 ∷ 4 ∷ 5 ∷ 8 ∷ 9 ∷ 10 ∷ [];
    home = 6 ∷ 7 ∷ 10 ∷ 11 ∷ 14 ∷ 15 ∷ 22 ∷ [];
    place = 6 ∷ 7 ∷ 10 ∷ 11 ∷ 14 ∷ 21 ∷ 22 ∷ [];
  };
}
unfolding row_of groups wide_row_of wide_groups
to_return_laid = refl

to_return_length : length (laid_of (probe 29) to_return unwinding).code ≡ 29
unfolding row_of groups wide_row_of wide_groups
to_return_length = refl

-- ---- a switch whose padding changes: iload_0, tableswitch (0: 20, default: 22), iconst_1, ireturn, iconst_2, ireturn

abbrev switching : List Group
switching = group_with 0 26 Plain ∷ group_with 1 170 (Table 22 (pos 0) (20 ∷ [])) ∷ group_with 20 4 Plain ∷ leaving 21 ∷ group_with 22 5 Plain ∷ leaving 23 ∷ []

switching_laid : laid_of (probe 29) switching unwinding ≡ record {
  code = 17 ∷ 0 ∷ 0 ∷ 184 ∷ 0 ∷ 29 ∷ 26
      ∷ 170 ∷ 0 ∷ 0 ∷ 0 ∷ 25 ∷ 0 ∷ 0 ∷ 0 ∷ 0 ∷ 0 ∷ 0 ∷ 0 ∷ 0 ∷ 0 ∷ 0 ∷ 0 ∷ 17
      ∷ 4 ∷ 17 ∷ 0 ∷ 0 ∷ 184 ∷ 0 ∷ 35 ∷ 172 ∷ 5 ∷ 17 ∷ 0 ∷ 0 ∷ 184 ∷ 0 ∷ 35 ∷ 172 ∷ 17 ∷ 0 ∷ 0 ∷ 184 ∷ 0 ∷ 38 ∷ 191 ∷ [];
  homes = record {
    from = 0 ∷ 1 ∷ 20 ∷ 21 ∷ 22 ∷ 23 ∷ 24 ∷ [];
    home = 6 ∷ 7 ∷ 24 ∷ 25 ∷ 32 ∷ 33 ∷ 40 ∷ [];
    place = 6 ∷ 7 ∷ 24 ∷ 31 ∷ 32 ∷ 39 ∷ 40 ∷ [];
  };
}
unfolding row_of groups wide_row_of wide_groups
switching_laid = refl

switching_length : length (laid_of (probe 29) switching unwinding).code ≡ 47
unfolding row_of groups wide_row_of wide_groups
switching_length = refl

-- at its original offset the switch has two zeros behind its opcode
switch_padding : instr_bytes (λ t. t) 1 (instr_with false 1 170 (Table 22 (pos 0) (20 ∷ []))) ≡ 170 ∷ 0 ∷ 0 ∷ 0 ∷ 0 ∷ 0 ∷ 21 ∷ 0 ∷ 0 ∷ 0 ∷ 0 ∷ 0 ∷ 0 ∷ 0 ∷ 0 ∷ 0 ∷ 0 ∷ 0 ∷ 19 ∷ []
unfolding row_of groups wide_row_of wide_groups
switch_padding = refl

-- ---- the bytes of each other form, at offset 0

lookup_bytes : instr_bytes (λ t. t) 0 (instr_with false 0 171 (Lookup 28 (negsuc 0 ∷ pos 258 ∷ []) (29 ∷ 30 ∷ [])))
    ≡ 171 ∷ 0 ∷ 0 ∷ 0 ∷ 0 ∷ 0 ∷ 0 ∷ 28 ∷ 0 ∷ 0 ∷ 0 ∷ 2 ∷ 255 ∷ 255 ∷ 255 ∷ 255 ∷ 0 ∷ 0 ∷ 0 ∷ 29 ∷ 0 ∷ 0 ∷ 1 ∷ 2 ∷ 0 ∷ 0 ∷ 0 ∷ 30 ∷ []
unfolding row_of groups wide_row_of wide_groups
lookup_bytes = refl

bipush_bytes : instr_bytes (λ t. t) 0 (instr_with false 0 16 (Value (negsuc 127))) ≡ 16 ∷ 128 ∷ []
unfolding row_of groups wide_row_of wide_groups
bipush_bytes = refl

sipush_bytes : instr_bytes (λ t. t) 0 (instr_with false 0 17 (Value (negsuc 32767))) ≡ 17 ∷ 128 ∷ 0 ∷ []
unfolding row_of groups wide_row_of wide_groups
sipush_bytes = refl

ldc_bytes : instr_bytes (λ t. t) 0 (instr_with false 0 18 (Pool 7)) ≡ 18 ∷ 7 ∷ []
unfolding row_of groups wide_row_of wide_groups
ldc_bytes = refl

getstatic_bytes : instr_bytes (λ t. t) 0 (instr_with false 0 178 (Pool 258)) ≡ 178 ∷ 1 ∷ 2 ∷ []
unfolding row_of groups wide_row_of wide_groups
getstatic_bytes = refl

iload_bytes : instr_bytes (λ t. t) 0 (instr_with false 0 21 (Local 4)) ≡ 21 ∷ 4 ∷ []
unfolding row_of groups wide_row_of wide_groups
iload_bytes = refl

wide_iload_bytes : instr_bytes (λ t. t) 0 (instr_with true 0 21 (Local 258)) ≡ 196 ∷ 21 ∷ 1 ∷ 2 ∷ []
unfolding row_of groups wide_row_of wide_groups
wide_iload_bytes = refl

wide_iinc_bytes : instr_bytes (λ t. t) 0 (instr_with true 0 132 (Inc 258 (negsuc 1))) ≡ 196 ∷ 132 ∷ 1 ∷ 2 ∷ 255 ∷ 254 ∷ []
unfolding row_of groups wide_row_of wide_groups
wide_iinc_bytes = refl

goto_w_bytes : instr_bytes (λ t. t) 4 (instr_with false 4 200 (Target 0)) ≡ 200 ∷ 255 ∷ 255 ∷ 255 ∷ 252 ∷ []
unfolding row_of groups wide_row_of wide_groups
goto_w_bytes = refl

invokeinterface_bytes : instr_bytes (λ t. t) 0 (instr_with false 0 185 (Interface 258 1 0)) ≡ 185 ∷ 1 ∷ 2 ∷ 1 ∷ 0 ∷ []
unfolding row_of groups wide_row_of wide_groups
invokeinterface_bytes = refl

multianewarray_bytes : instr_bytes (λ t. t) 0 (instr_with false 0 197 (Multi 258 3)) ≡ 197 ∷ 1 ∷ 2 ∷ 3 ∷ []
unfolding row_of groups wide_row_of wide_groups
multianewarray_bytes = refl

newarray_bytes : instr_bytes (λ t. t) 0 (instr_with false 0 188 (Array 10)) ≡ 188 ∷ 10 ∷ []
unfolding row_of groups wide_row_of wide_groups
newarray_bytes = refl

-- ---- branches of two bytes go from −32768 to 32767

-- goto 4 over a nop with so many bytes in front of it
abbrev over : ℕ → List Group
over n = group_with 0 167 (Target 4) ∷ record { before = replicate n 0; instr = instr_with false 3 0 Plain } ∷ group_with 4 177 Plain ∷ []

farthest_on : first_far [] (over 32763) ≡ None
unfolding row_of groups wide_row_of wide_groups
farthest_on = refl

too_far_on : first_far [] (over 32764) ≡ Some 0
unfolding row_of groups wide_row_of wide_groups
too_far_on = refl

-- a nop, a nop with so many bytes in front of it, and goto 0
abbrev under : ℕ → List Group
under n = group_with 0 0 Plain ∷ record { before = replicate n 0; instr = instr_with false 1 0 Plain } ∷ group_with 2 167 (Target 0) ∷ []

farthest_back : first_far [] (under 32766) ≡ None
unfolding row_of groups wide_row_of wide_groups
farthest_back = refl

too_far_back : first_far [] (under 32767) ≡ Some 2
unfolding row_of groups wide_row_of wide_groups
too_far_back = refl
