-- what is left decides, with the end so far
use Rattle.std.proofs.Common.{◌≡◌, ◌≤◌, drop}
use Rattle.jvm_model.specs.Classes.Selection.{package_end}
use Rattle.class_index.proofs.package.package_end.Given as goal

abbrev pub invariant-loop-at : goal.invariant-loop-at
invariant-loop-at l = (package_end l.end l.at (drop l.at l.name) ≡ package_end 0 0 l.name) × (l.end ≤ l.at)
