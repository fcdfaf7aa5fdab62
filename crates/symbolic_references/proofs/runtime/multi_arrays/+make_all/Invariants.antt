use Rattle.std.proofs.Common.{◌≡◌, ◌+◌, ◌-◌, ◌*◌, ◌≤◌, length}
use Rattle.class_linker.specs.Linkers.{LinkerView}
use Rattle.heap_objects.specs.Heaps.{next_number}
use Rattle.jvm_model.specs.Instructions.CreationRules.{slots_of_arrays, with_arrays, with_parts}
use Rattle.member_selection.specs.Arrays.{AreUsable}
use Rattle.member_selection.specs.Objects.{AreLoaded}
use Rattle.symbolic_references.proofs.runtime.multi_arrays.+make_all.Given as goal

-- the parts that are left lead to what all of them do, and there is room for them; the classes of all objects stay
-- loaded
abbrev pub invariant-loop-at : goal.invariant-loop-at
invariant-loop-at l =
    (with_parts (with_arrays (l.fn.kind - 16777216) l.rest) l.made.array l.at (l.count - l.at) l.heap
    ≡ with_parts (with_arrays (l.fn.kind - 16777216) l.rest) l.made.array 0 l.count l.initial.heap)
    × (l.next ≡ next_number l.heap)
    × ((k : LinkerView) → AreUsable k (l.fn.kind - 16777216) l.rest → AreLoaded k l.initial.heap → AreLoaded k l.heap)
    × (l.heap.used + (l.count - l.at) * slots_of_arrays l.rest ≤ l.heap.limit)

abbrev pub decreases-make_all : goal.decreases-make_all
decreases-make_all l = length l.lengths.now
