-- the groups so far
use Rattle.std.proofs.Common.{◌≡◌}
use Rattle.std.specs.Prelude.{map}
use Rattle.jvm_model.specs.Rewriting.Versions.{group_of}
use Rattle.inject_events.proofs.versions.groups_of.Given as goal

abbrev pub invariant-loop-instr : goal.invariant-loop-instr
invariant-loop-instr l = l.groups ≡ map (group_of l.leave) l.yielded
