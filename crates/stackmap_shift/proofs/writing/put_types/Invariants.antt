-- with the types that are left it is the whole, and those decide whether all numbers are u2
use Rattle.std.proofs.Common.{◌≡◌, ◌++◌, drop}
use Rattle.std.specs.List.{list_all}
use Rattle.stackmap_shift.specs.Spelling.{types_bytes}
use Rattle.stackmap_shift.specs.Conditions.{is_narrow_type}
use Rattle.stackmap_shift.proofs.writing.put_types.Given as goal

abbrev pub invariant-loop-item : goal.invariant-loop-item
invariant-loop-item l = record {
  bytes : l.out ++ types_bytes (drop l.item-index l.types) ≡ l.fn.out ++ types_bytes l.types;
  narrow : list_all is_narrow_type (drop l.item-index l.types) ≡ list_all is_narrow_type l.types;
}
