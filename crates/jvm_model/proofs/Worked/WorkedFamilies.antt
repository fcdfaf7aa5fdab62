-- Instructions worked by hand: what each asks for of its frame.
use Rattle.std.specs.Prelude.{◌≡◌, ℕ, false, [], ◌∷◌, Option, Some, None, pos, negsuc, refl, codes}
use Rattle.std.specs.Option.{option_map}
use Rattle.std.specs.Int.{int_wrap}
use Rattle.heap_objects.specs.declared.datum.Datum.TheVariants as datum
use Rattle.heap_objects.specs.declared.Value.TheVariants.{Int, Long, Addr}
use Rattle.const_pool.specs.declared.pool.Const.TheVariants.{Gap, Integer, Text}
use Rattle.code_model.specs.declared.instr.Arg.{Arg}
use Rattle.code_model.specs.declared.instr.Arg.TheVariants as arg
use Rattle.jvm_model.specs.Basis.Data.{Locals, Operands, Next, Target, Back, Outcome, GoesOn, Raises, Breaks}
use Rattle.jvm_model.specs.Basis.Families.{rows, family_of}
use Rattle.jvm_model.specs.Codes.Lines.{local_of, constant_in}
use Rattle.jvm_model.specs.Instructions.LocalRules.{within}

abbrev step : ℕ → Arg → Locals → Operands → Option Outcome
step op a l o = option_map (λ i. within i l o) (local_of (family_of op) a None)

-- ladd of the greatest long and 1
adds : step 97 arg.Plain [] (Long (pos 1) ∷ Long (pos 9223372036854775807) ∷ []) ≡ Some (GoesOn [] (Long (negsuc 9223372036854775807) ∷ []) Next)
unfolding family_of rows int_wrap
adds = refl

-- lshl by 65, which is by 1
shifts : step 121 arg.Plain [] (Int (pos 65) ∷ Long (pos 3) ∷ []) ≡ Some (GoesOn [] (Long (pos 6) ∷ []) Next)
unfolding family_of rows int_wrap
shifts = refl

-- idiv of the least int by -1, and by 0
divides : step 108 arg.Plain [] (Int (negsuc 0) ∷ Int (negsuc 2147483647) ∷ []) ≡ Some (GoesOn [] (Int (negsuc 2147483647) ∷ []) Next)
unfolding family_of rows int_wrap
divides = refl

raises : step 108 arg.Plain [] (Int (pos 0) ∷ Int (pos 5) ∷ []) ≡ Some (Raises (codes "java/lang/ArithmeticException") (Some (codes "/ by zero")))
unfolding family_of rows
raises = refl

-- ret through a local with a return address, and through one that was written since
returns-to : step 169 (arg.Local 1) (None ∷ Some (Addr 3) ∷ []) [] ≡ Some (GoesOn (None ∷ Some (Addr 3) ∷ []) [] (Back 3))
unfolding family_of rows
returns-to = refl

overwritten : step 169 (arg.Local 1) (None ∷ Some (Int (pos 3)) ∷ []) [] ≡ Some (Breaks false)
unfolding family_of rows
overwritten = refl

-- lookupswitch without pairs; tableswitch from -1 at its highest number, and past it
without-pairs : step 171 (arg.Lookup 9 [] []) [] (Int (pos 0) ∷ []) ≡ Some (GoesOn [] [] (Target 0))
unfolding family_of rows
without-pairs = refl

highest : step 170 (arg.Table 9 (negsuc 0) (20 ∷ 30 ∷ 40 ∷ [])) [] (Int (pos 1) ∷ []) ≡ Some (GoesOn [] [] (Target 3))
unfolding family_of rows
highest = refl

past-it : step 170 (arg.Table 9 (negsuc 0) (20 ∷ 30 ∷ 40 ∷ [])) [] (Int (pos 2) ∷ []) ≡ Some (GoesOn [] [] (Target 0))
unfolding family_of rows
past-it = refl

-- lstore_0 where there is one slot; istore_1 takes the long away of which it writes the second slot
no-slot : step 63 arg.Plain (None ∷ []) (Long (pos 1) ∷ []) ≡ Some (Breaks false)
unfolding family_of rows
no-slot = refl

second-slot : step 60 arg.Plain (Some (Long (pos 1)) ∷ None ∷ []) (Int (pos 2) ∷ []) ≡ Some (GoesOn (None ∷ Some (Int (pos 2)) ∷ []) [] Next)
unfolding family_of rows
second-slot = refl

-- an int in the pool, and a text
named : constant_in (Gap ∷ Integer (pos 7) ∷ Text 3 ∷ []) (arg.Pool 1) ≡ Some (datum.Int (pos 7))
named = refl

no-number : constant_in (Gap ∷ Integer (pos 7) ∷ Text 3 ∷ []) (arg.Pool 2) ≡ None
no-number = refl
