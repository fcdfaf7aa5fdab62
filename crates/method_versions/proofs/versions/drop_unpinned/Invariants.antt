use Rattle.std.proofs.Common.{◌≡◌, ◌≤◌, ◌++◌, ℕ, length, take}
use Rattle.slab.specs.Slab.{slab_len}
use Rattle.method_versions.specs.Tables.{held_but, held_in}
use Rattle.method_versions.proofs.versions.drop_unpinned.Given as goal

abbrev pub invariant-loop-number : goal.invariant-loop-number
invariant-loop-number g l =
    ((k : ℕ) → held_in (l.first.items ++ l.later.slots) k
    ≡ held_but (take l.number-index l.numbers) l.frames.frames (l.initial.first.items ++ l.initial.later.slots) k)
    × (length l.first.items ≡ length l.initial.first.items) × (length l.later.slots ≡ length l.initial.later.slots)
    × (l.later.capacity ≡ l.initial.later.capacity) × (slab_len l.later ≤ slab_len l.initial.later)
