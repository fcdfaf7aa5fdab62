use Rattle.std.proofs.Common.{sym, ap, subst, ◌+◌, ◌-◌}
use Rattle.profile_session.specs.Advances.{Sliced}
use Rattle.profile_session.proofs.Turns.Slices.{Making, making-below, making-done, making-ends, making-first, making-next}
use Rattle.profile_session.proofs.parts.Parts.make.Goals as goal

pub loop-next-init : goal.loop-next-init
loop-next-init c =
    making-first c.args.self.now c.args.steps (c.clock.result + c.args.steps) c.next_number-next.result c.requires.rests c.requires.goes_on
    (ap (λ n. n + c.args.steps) c.clock.ensures) c.next_number-next.ensures

pub slice-requires-clause-next : goal.slice-requires-clause-next
slice-requires-clause-next c = c.loop-next.invariant.next_is

pub slice-requires-clause-below : goal.slice-requires-clause-below
slice-requires-clause-below c =
    making-below c.args.self.now c.loop-next.self c.args.steps (c.clock.result + c.args.steps) c.loop-next.next c.loop-next.invariant c.requires.below

pub returns-then-branch : goal.returns-then-branch
returns-then-branch c =
    making-ends c.args.self.now c.loop-next.self c.slice.new.self c.args.steps (c.clock.result + c.args.steps) c.loop-next.next c.loop-next.invariant c.loop-next-test.true
    (subst (λ b. Sliced c.loop-next.self (c.clock.result + c.args.steps + 1 - c.loop-next.next) b c.slice.new.self) c.if-branch.true c.in_ok-slice.ensures)

pub loop-next-preserved : goal.loop-next-preserved
loop-next-preserved c =
    subst (λ n. Making c.args.self.now c.args.steps (c.clock.result + c.args.steps) (n + 1) c.slice.new.self) (sym c.clock-next.ensures)
    (making-next c.args.self.now c.loop-next.self c.slice.new.self c.args.steps (c.clock.result + c.args.steps) c.loop-next.next c.loop-next.invariant c.loop-next-test.true
    (subst (λ b. Sliced c.loop-next.self (c.clock.result + c.args.steps + 1 - c.loop-next.next) b c.slice.new.self) c.if-branch.false c.in_ok-slice.ensures))

pub returns : goal.returns
returns c =
    making-done c.args.self.now c.loop-next.self c.args.steps (c.clock.result + c.args.steps) c.loop-next.next c.loop-next.invariant c.loop-next-test.false
