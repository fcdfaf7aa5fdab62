-- Worked runs over lists of instructions: a loop, a subroutine, recursion.
use Rattle.std.specs.Prelude.{◌≡◌, ℕ, true, false, List, [], ◌∷◌, Option, Some, None, pos, negsuc, refl, codes, ◌==◌, if◌then◌else◌}
use Rattle.std.specs.Fmt.{digits}
use Rattle.std.specs.Int.{int_wrap}
use Rattle.const_pool.specs.declared.descriptor.Kind.TheVariants as kind
use Rattle.heap_objects.specs.declared.Value.TheVariants.{Int, Ref, Addr}
use Rattle.code_model.specs.declared.laying.Homes.{Homes}
use Rattle.code_model.specs.Layout.{found_beside}
use Rattle.jf_bytes.specs.Unicode.{utf8_of}
use Rattle.base_classes.specs.BuiltInClasses.{built_in_classes}
use Rattle.base_classes.specs.ObjectClasses.{object_classes}
use Rattle.base_classes.specs.TextClasses.{text_classes}
use Rattle.base_classes.specs.StreamClasses.{stream_classes}
use Rattle.base_classes.specs.ValueClasses.{value_classes}
use Rattle.base_classes.specs.ThrowableClasses.{throwable_classes}
use Rattle.base_classes.specs.Natives.{native_methods}
use Rattle.native_effects.specs.Inputs.KindsViews.{is_among}
use Rattle.native_ops.specs.Methods.Rows.{rows}
use Rattle.jvm_model.specs.Basis.Data.{Entry, Active, Listing, Store, BinaryOfInts, Iinc, WithZero, Branch, Jsr, Ret, Within, Returned}
use Rattle.jvm_model.specs.declared.family.IntOperator.TheVariants.{Isub}
use Rattle.jvm_model.specs.declared.family.Comparison.TheVariants.{Equal, Greater}
use Rattle.jvm_model.specs.declared.event.Act.{Act}
use Rattle.jvm_model.specs.Running.Run.{turn_in}
use Rattle.jvm_model.specs.Profiling.Activations.{trace_in}
use Rattle.jvm_model.specs.Codes.Moved.{state_moved}
use Rattle.jvm_model.specs.Codes.Closed.{laid_out}
use Rattle.jvm_model.specs.Rewriting.StandsFor.{home_at, by_homes}
use Rattle.jvm_model.proofs.Worked.WorkedPrograms.{Sketches, world_by, listing_by, after, trace_by, contexts_by, member, routine, main_routine, alone, at, at_to, int, iload, ireturn, returns, call, prints_result}

-- ---- a loop with a jump backwards: main prints k(3), which counts down to 0

abbrev pub p2 : Sketches
p2 = record {
  classes = alone (codes "P2") (
      routine (member (codes "k") (codes "(I)I")) 1 1 (at 0 3 (Within (Iinc 0 (negsuc 0))) ∷ at 3 1 (iload 0) ∷ at_to 4 3 (Within (Branch (WithZero Greater))) 0 ∷ at 7 1 (iload 0) ∷ at 8 1 ireturn ∷ [])
      ∷ main_routine 2 (prints_result (codes "P2") (codes "k") 3 1) ∷ []) ∷ [];
  main = 1;
}

pub p2-goes_on : (after p2 15).ending ≡ None
unfolding turn_in digits int_wrap native_methods rows built_in_classes object_classes text_classes stream_classes value_classes throwable_classes is_among
p2-goes_on = refl

pub p2-returns : (after p2 16).ending ≡ Some Returned
unfolding turn_in digits int_wrap native_methods rows built_in_classes object_classes text_classes stream_classes value_classes throwable_classes is_among
p2-returns = refl

pub p2-output : (after p2 15).output ≡ utf8_of (codes "0\n")
unfolding turn_in digits int_wrap native_methods rows built_in_classes object_classes text_classes stream_classes value_classes throwable_classes is_among
p2-output = refl

-- ---- a subroutine: main prints s(41), which adds 1 in it

abbrev pub p3 : Sketches
p3 = record {
  classes = alone (codes "P3") (
      routine (member (codes "s") (codes "(I)I")) 1 2 (at_to 0 3 (Within Jsr) 5 ∷ at 3 1 (iload 0) ∷ at 4 1 ireturn ∷ at 5 1 (Within (Store kind.Ref 1)) ∷ at 6 3 (Within (Iinc 0 (pos 1))) ∷ at 9 2 (Within (Ret 1)) ∷ [])
      ∷ main_routine 2 (prints_result (codes "P3") (codes "s") 41 2) ∷ []) ∷ [];
  main = 1;
}

pub p3-goes_on : (after p3 10).ending ≡ None
unfolding turn_in digits int_wrap native_methods rows built_in_classes object_classes text_classes stream_classes value_classes throwable_classes is_among
p3-goes_on = refl

pub p3-returns : (after p3 11).ending ≡ Some Returned
unfolding turn_in digits int_wrap native_methods rows built_in_classes object_classes text_classes stream_classes value_classes throwable_classes is_among
p3-returns = refl

pub p3-output : (after p3 10).output ≡ utf8_of (codes "42\n")
unfolding turn_in digits int_wrap native_methods rows built_in_classes object_classes text_classes stream_classes value_classes throwable_classes is_among
p3-output = refl

-- ---- the same by homes: s behind an entry probe, with a leave probe before its return; main as it was

abbrev pub s_homes : Homes
s_homes = record { from = 0 ∷ 3 ∷ 4 ∷ 5 ∷ 6 ∷ 9 ∷ 11 ∷ []; home = 6 ∷ 9 ∷ 10 ∷ 17 ∷ 18 ∷ 21 ∷ 23 ∷ []; place = 6 ∷ 9 ∷ 16 ∷ 17 ∷ 18 ∷ 21 ∷ 23 ∷ [] }

abbrev pub p3_homes : List (Option Homes)
p3_homes = Some s_homes ∷ []

abbrev pub origin : ℕ → ℕ → Option ℕ
origin version place = if version == 0 then found_beside s_homes.home s_homes.from place else Some place

abbrev pub p3_laid : Listing
p3_laid = laid_out (home_at p3_homes) origin (listing_by p3)

-- within the subroutine, when the return address was stored: 9, where the original code has 3
abbrev pub p3_stack : List Entry
p3_stack = Active (record { method = 0; version = 0; place = 18; locals = Some (Int (pos 41)) ∷ Some (Addr 9) ∷ []; operands = []; max_locals = 2; max_stack = 1 })
    ∷ Active (record { method = 1; version = 1; place = 5; locals = Some (Ref 5) ∷ []; operands = Ref 3 ∷ []; max_locals = 1; max_stack = 2 }) ∷ []

pub p3-laid_stack : (turn_in (world_by p3) p3_laid 5).after.stack ≡ p3_stack
unfolding turn_in int_wrap
p3-laid_stack = refl

pub p3-moved_stack : (state_moved (by_homes p3_homes) (after p3 5)).stack ≡ p3_stack
unfolding turn_in int_wrap
p3-moved_stack = refl

pub p3-laid_returns : (turn_in (world_by p3) p3_laid 11).after.ending ≡ Some Returned
unfolding turn_in digits int_wrap native_methods rows built_in_classes object_classes text_classes stream_classes value_classes throwable_classes is_among
p3-laid_returns = refl

pub p3-laid_output : (turn_in (world_by p3) p3_laid 10).after.output ≡ utf8_of (codes "42\n")
unfolding turn_in digits int_wrap native_methods rows built_in_classes object_classes text_classes stream_classes value_classes throwable_classes is_among
p3-laid_output = refl

-- ---- recursion: main calls r(2), which calls itself down to 0

abbrev pub recursive : Sketches
recursive = record {
  classes = alone (codes "R") (
      routine (member (codes "r") (codes "(I)V")) 2 1 (
      at 0 1 (iload 0) ∷ at_to 1 3 (Within (Branch (WithZero Equal))) 10 ∷ at 4 1 (iload 0) ∷ at 5 1 (int 1) ∷ at 6 1 (Within (BinaryOfInts Isub))
      ∷ at 7 3 (call (codes "R") (codes "r") (codes "(I)V")) ∷ at 10 1 returns ∷ [])
      ∷ main_routine 1 (at 0 1 (int 2) ∷ at 1 3 (call (codes "R") (codes "r") (codes "(I)V")) ∷ at 4 1 returns ∷ []) ∷ []) ∷ [];
  main = 1;
}

pub recursive-goes_on : (after recursive 19).ending ≡ None
unfolding turn_in int_wrap
recursive-goes_on = refl

pub recursive-returns : (after recursive 20).ending ≡ Some Returned
unfolding turn_in int_wrap
recursive-returns = refl

pub recursive-trace : trace_by recursive 20 ≡ record {
  activations = record { method = 1; parent = None; begin = 0; «end» = Some 20 }
      ∷ record { method = 0; parent = Some 0; begin = 2; «end» = Some 19 }
      ∷ record { method = 0; parent = Some 1; begin = 8; «end» = Some 18 }
      ∷ record { method = 0; parent = Some 2; begin = 14; «end» = Some 17 } ∷ [];
  live = [];
}
unfolding trace_in turn_in int_wrap
recursive-trace = refl

-- r is selected before the start, and deselected after the fourth step: its first activation is the root of the others
abbrev pub selecting_r : List Act
selecting_r = record { moment = 0; select = true; method = 0 } ∷ record { moment = 4; select = false; method = 0 } ∷ []

pub recursive-contexts : contexts_by recursive selecting_r 20
    ≡ record { path = 0 ∷ []; calls = 1; own = 7 } ∷ record { path = 0 ∷ 0 ∷ []; calls = 1; own = 7 } ∷ record { path = 0 ∷ 0 ∷ 0 ∷ []; calls = 1; own = 3 } ∷ []
unfolding trace_in turn_in int_wrap
recursive-contexts = refl
