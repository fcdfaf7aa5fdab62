use Rattle.std.proofs.Common.{◌≡◌, Some, rules}
use Rattle.std.specs.Prelude.{slice_get}
use Rattle.member_selection.proofs.selections.put_from.Goals as goal

pub returns : goal.returns
returns c p are wider =
    let there : slice_get c.args.slots.now c.args.at ≡ Some (Some c.in-Some-slot.s) = search rules in
    c.put_selection.ensures p wider (are.each c.args.at c.in-Some-slot.s there)
