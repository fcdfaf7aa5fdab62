-- The definitions of a version and of an image, computed on the worked class P1: its method f has the number 0, and its
-- pool 24 entries.
use Rattle.std.specs.Prelude.{◌≡◌, ℕ, List, [], ◌∷◌, length, Some, None, refl}
use Rattle.std.proofs.Common.{arith}
use Rattle.op_table.specs.Opcodes.{row_of, groups}
use Rattle.const_pool.specs.declared.class.CodeAttribute.{CodeAttribute}
use Rattle.const_pool.specs.declared.class.ClassFile.{ClassFile}
use Rattle.const_pool.specs.declared.class.Member.{Member}
use Rattle.const_pool.specs.declared.class.Attribute.TheVariants.{Code}
use Rattle.const_pool.specs.Tail.{with_tail, root_index, enter_index, leave_index, unwind_index, throwable_index, frames_index}
use Rattle.code_model.specs.declared.laying.Homes.{Homes}
use Rattle.code_model.specs.Layout.{home_in, place_in}
use Rattle.jvm_model.specs.declared.event.Mark.TheVariants.{Off, Plain, Root}
use Rattle.jvm_model.specs.Rewriting.Versions.{laid_version, IsVersion}
use Rattle.jvm_model.specs.Rewriting.Images.{IsMarkedMember, IsImage}
use Rattle.jvm_model.proofs.Worked.PlainRun.{p1, code_with}
use Rattle.machine_tests.proofs.WorkedClass.{f_bytes, main_bytes, f_member, main_member, f_reading, main_reading, f_reads, main_reads}

-- ---- the version of f

abbrev f_homes : Homes
f_homes = record { from = 0 ∷ 1 ∷ 2 ∷ 3 ∷ 4 ∷ []; home = 6 ∷ 7 ∷ 8 ∷ 9 ∷ 16 ∷ []; place = 6 ∷ 7 ∷ 8 ∷ 15 ∷ 16 ∷ [] }

-- by the index of the probe at the entry
abbrev f_version : ℕ → CodeAttribute
f_version index = record {
  max_stack = 3;
  max_locals = 1;
  code = 0x11 ∷ 0 ∷ 0 ∷ 0xB8 ∷ 0 ∷ index ∷ 0x1A ∷ 0x04 ∷ 0x60 ∷ 0x11 ∷ 0 ∷ 0 ∷ 0xB8 ∷ 0 ∷ 0x23 ∷ 0xAC ∷ 0x11 ∷ 0 ∷ 0 ∷ 0xB8 ∷ 0 ∷ 0x26 ∷ 0xBF ∷ [];
  handlers = record { start = 6; end = 16; handler = 16; catch_class = 0 } ∷ [];
  attributes = [];
}

f_root : IsVersion 24 0 Root (code_with f_bytes) (f_version 0x1D) f_homes
unfolding row_of groups
f_root = record { reading = f_reading; reads = f_reads; moved = refl; code = refl; short = (let long : length (laid_version 24 0 Root f_reading.instrs).code ≡ 23 = refl in omega (arith, long)); near = refl }

f_plain : IsVersion 24 0 Plain (code_with f_bytes) (f_version 0x20) f_homes
unfolding row_of groups
f_plain = record { reading = f_reading; reads = f_reads; moved = refl; code = refl; short = (let long : length (laid_version 24 0 Plain f_reading.instrs).code ≡ 23 = refl in omega (arith, long)); near = refl }

home_of_return : home_in f_homes 3 ≡ Some 9
home_of_return = refl

place_of_return : place_in f_homes 3 ≡ Some 15
place_of_return = refl

-- the low sixteen bits of a number are pushed
high_number : (laid_version 24 2147418113 Root f_reading.instrs).code ≡ 0x11 ∷ 0 ∷ 1 ∷ 0xB8 ∷ 0 ∷ 0x1D ∷ 0x1A ∷ 0x04 ∷ 0x60 ∷ 0x11 ∷ 0 ∷ 1 ∷ 0xB8 ∷ 0 ∷ 0x23 ∷ 0xAC ∷ 0x11 ∷ 0 ∷ 1 ∷ 0xB8 ∷ 0 ∷ 0x26 ∷ 0xBF ∷ []
unfolding row_of groups
high_number = refl

-- ---- the version of main, which returns nothing

abbrev main_homes : Homes
main_homes = record { from = 0 ∷ 3 ∷ 5 ∷ 8 ∷ 11 ∷ 12 ∷ []; home = 6 ∷ 9 ∷ 11 ∷ 14 ∷ 17 ∷ 24 ∷ []; place = 6 ∷ 9 ∷ 11 ∷ 14 ∷ 23 ∷ 24 ∷ [] }

abbrev main_version : CodeAttribute
main_version = record {
  max_stack = 3;
  max_locals = 1;
  code = 0x11 ∷ 0 ∷ 1 ∷ 0xB8 ∷ 0 ∷ 0x20 ∷ 0xB2 ∷ 0 ∷ 10 ∷ 0x10 ∷ 41 ∷ 0xB8 ∷ 0 ∷ 14 ∷ 0xB6 ∷ 0 ∷ 20 ∷ 0x11 ∷ 0 ∷ 1 ∷ 0xB8 ∷ 0 ∷ 0x23 ∷ 0xB1 ∷ 0x11 ∷ 0 ∷ 1 ∷ 0xB8 ∷ 0 ∷ 0x26 ∷ 0xBF ∷ [];
  handlers = record { start = 6; end = 24; handler = 24; catch_class = 0 } ∷ [];
  attributes = [];
}

main_plain : IsVersion 24 1 Plain (code_with main_bytes) main_version main_homes
unfolding row_of groups
main_plain = record { reading = main_reading; reads = main_reads; moved = refl; code = refl; short = (let long : length (laid_version 24 1 Plain main_reading.instrs).code ≡ 31 = refl in omega (arith, long)); near = refl }

-- ---- images

-- P1 is of major 50: a version gets a StackMapTable, whose frame is at the added handler
abbrev with_frame : ℕ → CodeAttribute → CodeAttribute
with_frame handler code = record code { attributes = record { name = 41; bytes = 0 ∷ 1 ∷ 0xFF ∷ 0 ∷ handler ∷ 0 ∷ 0 ∷ 0 ∷ 1 ∷ 7 ∷ 0 ∷ 40 ∷ [] } ∷ [] }

abbrev with_version : Member → CodeAttribute → Member
with_version m code = record m { attributes = Code 23 code ∷ [] }

abbrev f_rewritten : Member
f_rewritten = with_version f_member (with_frame 16 (f_version 0x1D))

abbrev main_rewritten : Member
main_rewritten = with_version main_member (with_frame 24 main_version)

abbrev p1_with : List Member → ClassFile
p1_with methods = record p1 { pool = with_tail p1.pool; methods = methods }

f_framed : IsVersion 24 0 Root (code_with f_bytes) (with_frame 16 (f_version 0x1D)) f_homes
unfolding row_of groups f_root
f_framed = record { reading = f_reading; reads = f_reads; moved = refl; code = refl; short = f_root.short; near = refl }

main_framed : IsVersion 24 1 Plain (code_with main_bytes) (with_frame 24 main_version) main_homes
unfolding row_of groups main_plain
main_framed = record { reading = main_reading; reads = main_reads; moved = refl; code = refl; short = main_plain.short; near = refl }

f_marked : IsMarkedMember p1 0 Root f_member f_rewritten f_homes
f_marked = record { before = code_with f_bytes; after = with_frame 16 (f_version 0x1D); coded = refl; version = f_framed; tables = refl; replaced = refl }

main_marked : IsMarkedMember p1 1 Plain main_member main_rewritten main_homes
main_marked = record { before = code_with main_bytes; after = with_frame 24 main_version; coded = refl; version = main_framed; tables = refl; replaced = refl }

-- f alone: main is the original
f_image : IsImage p1 0 (Root ∷ Off ∷ []) (p1_with (f_rewritten ∷ main_member ∷ [])) (Some f_homes ∷ None ∷ [])
f_image = record { methods = ((f_homes, f_marked, refl), ((refl, refl), tt)); rest = refl }

-- both: main has the next number
both_image : IsImage p1 0 (Root ∷ Plain ∷ []) (p1_with (f_rewritten ∷ main_rewritten ∷ [])) (Some f_homes ∷ Some main_homes ∷ [])
both_image = record { methods = ((f_homes, f_marked, refl), ((main_homes, main_marked, refl), tt)); rest = refl }

-- none: it is the class itself
no_image : IsImage p1 0 (Off ∷ Off ∷ []) p1 (None ∷ None ∷ [])
no_image = record { class_stays = refl; unmoved = refl }

-- ---- the tail behind 24 entries

indices : List ℕ
indices = root_index 24 ∷ enter_index 24 ∷ leave_index 24 ∷ unwind_index 24 ∷ throwable_index 24 ∷ frames_index 24 ∷ []

are_indices : indices ≡ 29 ∷ 32 ∷ 35 ∷ 38 ∷ 40 ∷ 41 ∷ []
unfolding indices
are_indices = refl
