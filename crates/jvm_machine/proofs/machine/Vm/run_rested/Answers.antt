use Rattle.std.proofs.Common.{true, false, ◌≡◌, ◌+◌, sym, subst, ◌∙◌, arith}
use Rattle.jvm_machine.specs.Several.{Passes, none}
use Rattle.jvm_machine.proofs.Steps.SeveralTurns.{one-more, passes-clock, passes-more, runs-on, settles-clock, settles-rests}
use Rattle.jvm_machine.proofs.machine.Vm.run_rested.Goals as goal

pub loop-onward-init : goal.loop-onward-init
loop-onward-init c = (none, c.requires.some, omega arith, c.requires.resting)

pub go_onward-onward-requires-clause-resting : goal.go_onward-onward-requires-clause-resting
go_onward-onward-requires-clause-resting c = c.loop-onward.invariant.3

pub go_onward-onward-requires-clause-below : goal.go_onward-onward-requires-clause-below
go_onward-onward-requires-clause-below c =
    let less = c.loop-onward.invariant.1 in
    let le = c.loop-onward.invariant.2 in
    let below = c.requires.below in
    omega (arith, less, le, below)

pub loop-onward-preserved : goal.loop-onward-preserved
loop-onward-preserved c =
    let p = c.go_onward-onward.ensures.turns in
    let n = c.loop-onward.made + c.go_onward-onward.result.made in
    let passes = passes-more c.args.self.now c.loop-onward.self p.between c.loop-onward.made c.go_onward-onward.result.made c.loop-onward.invariant.0 p.passes in
    let both = one-more c.args.self.now p.between c.go_onward-onward.new.self n c.go_onward-onward.result.turn passes p.last (sym c.is_settled.ensures ∙ c.if-not-is_settled.false) in
    let up = settles-clock p.between c.go_onward-onward.new.self both.1 in
    let before = passes-clock c.loop-onward.self p.between c.go_onward-onward.result.made p.passes in
    let less = c.loop-onward.invariant.1 in
    let le = c.loop-onward.invariant.2 in
    let within = c.go_onward-onward.ensures.within in
    let other = c.if-made-most.false in
    let sum : c.loop-onward.made + (c.go_onward-onward.result.made + 1) ≡ n + 1 = omega arith in (
      subst (λ n. Passes c.args.self.now n c.go_onward-onward.new.self) (omega arith) both.0,
      (let not_most : c.loop-onward.made + (c.go_onward-onward.result.made + 1) ≡ c.args.most → ⊥ = other in grind (arith, less, within, not_most)),
      omega (arith, up, before, le),
      settles-rests p.between c.go_onward-onward.new.self both.1,
    )

pub returns-then-not-is_settled : goal.returns-then-not-is_settled
returns-then-not-is_settled c =
    let p = c.go_onward-onward.ensures.turns in
    let less = c.loop-onward.invariant.1 in
    let within = c.go_onward-onward.ensures.within in
    runs-on c.args.self.now c.loop-onward.self p.between c.go_onward-onward.new.self c.loop-onward.made c.go_onward-onward.result.made c.args.most c.go_onward-onward.result.turn
    c.loop-onward.invariant.0 p.passes p.last
    (omega (arith, less, within)) (λ settled. absurd (let e : false ≡ true = sym c.if-not-is_settled.true ∙ (c.is_settled.ensures ∙ settled) in cc))

pub returns-then-made-most : goal.returns-then-made-most
returns-then-made-most c =
    let p = c.go_onward-onward.ensures.turns in
    let most = c.if-made-most.true in
    runs-on c.args.self.now c.loop-onward.self p.between c.go_onward-onward.new.self c.loop-onward.made c.go_onward-onward.result.made c.args.most c.go_onward-onward.result.turn
    c.loop-onward.invariant.0 p.passes p.last
    (omega (arith, most)) (λ settled. omega (arith, most))
