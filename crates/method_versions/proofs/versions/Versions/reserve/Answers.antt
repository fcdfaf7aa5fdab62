use Rattle.std.proofs.Common.{◌≡◌, ◌≤◌, ◌+◌, ◌-◌, ℕ, length, ap, arith}
use Rattle.std.specs.Prelude.{min, vec_capacity}
use Rattle.slab.specs.Slab.{slab_len}
use Rattle.method_versions.proofs.Room.{room-or-none}
use Rattle.method_versions.proofs.versions.Versions.reserve.Goals as goal

pub returns-then-is_err-clause-short : goal.returns-then-is_err-clause-short
returns-then-is_err-clause-short g c =
    let old = c.self.inside.later in
    let new = c.reserve.new.self in
    let first : ℕ = length c.self.inside.first.items in
    let room : ℕ = vec_capacity c.self.inside.superseded - length c.self.inside.superseded.items in
    let same : slab_len new ≡ slab_len old = ap slab_len c.reserve.ensures.rest_kept in
    let more : min (old.capacity - slab_len old) room ≤ min (new.capacity - slab_len new) room =
    omega (arith, c.reserve.ensures.capacity, same) in
    λ refused. rw (← c.self.view_is)
    (room-or-none (first + old.capacity) (first + new.capacity) (min (old.capacity - slab_len old) room) (min (new.capacity - slab_len new) room) more)
