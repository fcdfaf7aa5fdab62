-- A code that is laid out with its probes is one whose homes go back to its starts.
use Rattle.std.proofs.Common.{◌≡◌, ◌≤◌, ℕ, List, map, length, Some, None}
use Rattle.std.specs.List.{AllByRecursion}
use Rattle.const_pool.specs.declared.class.ClassFile.{ClassFile}
use Rattle.code_model.specs.declared.instr.Instr.{Instr}
use Rattle.code_model.specs.declared.laying.Group.{Group}
use Rattle.code_model.specs.Groups.{AreGroups}
use Rattle.code_model.specs.Instructions.{Reads}
use Rattle.code_model.specs.Layout.{Spot, all_spots, first_far, home_in, homes_of, laid_of}
use Rattle.code_model.proofs.CodeLayouts.Among.{homes_rise}
use Rattle.code_model.proofs.CodeLayouts.LaidReads.{all_laid}
use Rattle.code_model.proofs.Offsets.Lookups.{found_beside-back}
use Rattle.jvm_model.specs.Codes.Lines.{operation_of}
use Rattle.jvm_model.specs.Rewriting.Versions.{group_of}
use Rattle.jvm_model.specs.Codes.Homed.{IsHomed, start_in}

home-back : (front : List ℕ) (gs : List Group) (at home : ℕ) → home_in (homes_of front gs) at ≡ Some home → start_in (homes_of front gs) home ≡ Some at
home-back front gs at home e =
    found_beside-back (λ (s : Spot). s.from) (λ (s : Spot). s.home) (length front) (all_spots front gs) at home (homes_rise (length front) 0 gs) e

pub is-homed : (c image : ClassFile) (front leave back old : List ℕ) (instrs : List Instr) → Reads old 0 instrs
    → AreGroups (map (group_of leave) instrs) → first_far front (map (group_of leave) instrs) ≡ None → length (laid_of front (map (group_of leave) instrs) back).code ≤ 65535
    → AllByRecursion (λ i. operation_of image i ≡ operation_of c i) instrs → IsHomed c image leave old instrs (laid_of front (map (group_of leave) instrs) back)
is-homed c image front leave back old instrs reads groups near short does = record {
  reads = reads;
  laid_out = all_laid front back (map (group_of leave) instrs) groups near short;
  back = home-back front (map (group_of leave) instrs);
  does = does;
}
