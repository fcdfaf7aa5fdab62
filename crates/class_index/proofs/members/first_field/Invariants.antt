-- the first among the classes that are left is the first of all
use Rattle.std.proofs.Common.{◌≡◌, drop}
use Rattle.jvm_model.specs.Classes.Lookup.{first_in, field_at}
use Rattle.class_index.specs.Members.{wanted_view}
use Rattle.class_index.proofs.members.first_field.Given as goal

abbrev pub invariant-loop-class : goal.invariant-loop-class
invariant-loop-class l =
    first_in (field_at l.index (wanted_view l.wanted)) (drop l.class-index l.classes) ≡ first_in (field_at l.index (wanted_view l.wanted)) l.classes
