use Rattle.std.proofs.Common.{◌≡◌, Some, rules}
use Rattle.std.specs.Prelude.{slice_get}
use Rattle.member_selection.proofs.SelectionLemmas.{in-parts}
use Rattle.member_selection.proofs.selections.chosen_in.Goals as goal

pub returns-then-is_for : goal.returns-then-is_for
returns-then-is_for c p are =
    let there : slice_get c.args.slots.now c.args.at ≡ Some (Some c.in-Some-slot.s) = search rules in
    in-parts p c.in-Some-slot.s c.args.kind c.args.interface c.args.method c.args.last
    (c.is_for.ensures.last c.if-is_for.true) (c.is_for.ensures.method c.if-is_for.true) (c.is_for.ensures.kind c.if-is_for.true)
    (c.is_for.ensures.interface c.if-is_for.true) (are.each c.args.at c.in-Some-slot.s there)
