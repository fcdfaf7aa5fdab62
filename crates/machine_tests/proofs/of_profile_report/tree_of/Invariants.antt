use Rattle.std.proofs.Common.{◌≡◌, ◌≤◌}
use Rattle.context_tree.specs.Profiles.{calls_of}
use Rattle.machine_tests.proofs.of_profile_report.tree_of.Given as goal

abbrev pub invariant-loop-event : goal.invariant-loop-event
invariant-loop-event l = record { calls : calls_of l.tree ≤ l.event-index; clock : l.tree.clock ≡ l.clock }
