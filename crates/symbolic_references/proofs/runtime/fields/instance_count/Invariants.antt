-- how many there are so far, and how many are left
use Rattle.std.proofs.Common.{◌≡◌, ◌+◌, ◌≤◌, drop}
use Rattle.std.specs.Prelude.{count_by}
use Rattle.symbolic_references.specs.Fields.{is_of_instances}
use Rattle.symbolic_references.proofs.runtime.fields.instance_count.Given as goal

abbrev pub invariant-loop-field : goal.invariant-loop-field
invariant-loop-field l =
    (l.count + count_by is_of_instances (drop l.field-index l.fields) ≡ count_by is_of_instances l.fields)
    × (l.count ≤ l.field-index)
