-- what is left decides, and the images so far stand in front
use Rattle.std.proofs.Common.{◌≡◌, ◌+◌, ◌≤◌, ◌++◌, drop}
use Rattle.std.specs.Prelude.{map}
use Rattle.inject_events.specs.declared.methods.MethodImage.{MethodImage}
use Rattle.inject_events.specs.Rewriting.{images_from, refused_from}
use Rattle.inject_events.proofs.members.images_from.Given as goal

abbrev pub invariant-loop-position : goal.invariant-loop-position
invariant-loop-position l = record {
  refused : refused_from l.setting l.number l.position (drop l.position l.marks) (drop l.position l.methods) ≡ refused_from l.setting l.first 0 l.marks l.methods;
  members : l.members ++ map (λ (i : MethodImage). i.member) (images_from l.setting l.number (drop l.position l.marks) (drop l.position l.methods)) ≡ map (λ (i : MethodImage). i.member) (images_from l.setting l.first l.marks l.methods);
  homes : l.homes ++ map (λ (i : MethodImage). i.homes) (images_from l.setting l.number (drop l.position l.marks) (drop l.position l.methods)) ≡ map (λ (i : MethodImage). i.homes) (images_from l.setting l.first l.marks l.methods);
  numbered : l.number ≤ l.first + l.position;
}
