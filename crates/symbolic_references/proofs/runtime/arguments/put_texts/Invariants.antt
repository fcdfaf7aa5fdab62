-- what is left makes the same of what is there, and there is room for it; the classes of all objects stay loaded
use Rattle.std.proofs.Common.{◌≡◌, ◌+◌, ◌≤◌, drop}
use Rattle.class_linker.specs.Linkers.{LinkerView}
use Rattle.jvm_model.specs.declared.program.Program.{Program}
use Rattle.jvm_model.specs.Basis.SharedState.{kind_for, string, texts_cost, with_texts}
use Rattle.member_selection.specs.Objects.{AreLoaded, IsUsable}
use Rattle.symbolic_references.proofs.runtime.arguments.put_texts.Given as goal

abbrev pub invariant-loop-at : goal.invariant-loop-at
invariant-loop-at l =
    ((p : Program) → l.kind ≡ kind_for p string → with_texts p l.array l.at (drop l.at l.args) l.heap ≡ with_texts p l.array 0 l.args l.fn.heap)
    × (l.heap.used + texts_cost (drop l.at l.args) ≤ l.heap.limit)
    × ((k : LinkerView) → IsUsable k l.kind → AreLoaded k l.fn.heap → AreLoaded k l.heap)
