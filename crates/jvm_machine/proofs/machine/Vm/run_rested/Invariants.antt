-- so many steps told nothing, and the last one is done
use Rattle.std.proofs.Common.{◌≡◌, ◌+◌, ◌-◌, ◌<◌, ◌≤◌, true}
use Rattle.jvm_machine.specs.Several.{Passes}
use Rattle.jvm_machine.specs.View.{is_resting}
use Rattle.jvm_machine.proofs.machine.Vm.run_rested.Given as goal

abbrev pub invariant-loop-onward : goal.invariant-loop-onward
invariant-loop-onward l = Passes l.fn.self l.made l.self × (l.made < l.most) × (l.self.clock ≤ l.fn.self.clock + l.made) × (is_resting l.self ≡ true)

abbrev pub decreases-loop-onward : goal.decreases-loop-onward
decreases-loop-onward l = l.most - l.made
