-- The place among the entries that are left is the place among all.
use Rattle.std.proofs.Common.{◌≡◌, ◌≤◌, drop}
use Rattle.std.specs.List.{position_from}
use Rattle.program_gen.specs.Making.{is_same}
use Rattle.program_gen.proofs.entries.place_of.Given as goal

abbrev pub invariant-loop-other : goal.invariant-loop-other
invariant-loop-other l = (l.place ≤ l.other-index) × (position_from (is_same l.entry) l.place (drop l.other-index l.pool) ≡ position_from (is_same l.entry) 0 l.pool)
