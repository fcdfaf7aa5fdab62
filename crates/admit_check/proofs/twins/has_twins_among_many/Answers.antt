use Rattle.std.proofs.Common.{List, ℕ, map, ap, ◌∙◌}
use Rattle.admit_check.specs.Twins.{has_key_twice, member_key}
use Rattle.admit_check.proofs.Keys.{twins_by_keys}
use Rattle.admit_check.proofs.twins.has_twins_among_many.Goals as goal

pub loop-member-init : goal.loop-member-init
loop-member-init c =
    ap (λ (keys : List (List ℕ)). has_key_twice keys (map (member_key c.args.pool.now) c.args.members.now)) c.new-keys.ensures
    ∙ twins_by_keys c.args.pool.now c.args.members.now
