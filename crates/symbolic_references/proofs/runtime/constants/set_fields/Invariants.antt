-- what is left to set leads to what all of it leads to
use Rattle.std.proofs.Common.{◌≡◌, drop}
use Rattle.class_linker.specs.Linkers.{LinkerView}
use Rattle.jvm_model.specs.declared.program.Program.{Program}
use Rattle.jvm_model.specs.declared.state.Shared.{Shared}
use Rattle.jvm_model.specs.Basis.SharedState.{kind_for, string}
use Rattle.jvm_model.specs.Running.Constants.{sets_fields}
use Rattle.member_selection.specs.Objects.{AreLoaded, IsUsable}
use Rattle.symbolic_references.specs.Runtimes.{with_fields}
use Rattle.symbolic_references.proofs.runtime.constants.set_fields.Given as goal

abbrev pub invariant-loop-position : goal.invariant-loop-position
invariant-loop-position l =
    ((p : Program) (s : Shared) → l.string_kind ≡ kind_for p string →
    sets_fields p l.file l.class l.position (drop l.position l.file.fields) (with_fields l.heap l.statics s)
    ≡ sets_fields p l.file l.class 0 l.file.fields (with_fields l.fn.heap l.fn.statics s))
    × ((k : LinkerView) → IsUsable k l.string_kind → AreLoaded k l.fn.heap → AreLoaded k l.heap)
