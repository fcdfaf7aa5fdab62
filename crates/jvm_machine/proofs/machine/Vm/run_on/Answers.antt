use Rattle.std.proofs.Common.{true, false, ◌≡◌, ◌+◌, ◌<◌, ◌≤◌, sym, subst, ◌∙◌, arith}
use Rattle.std.specs.Prelude.{IfNone}
use Rattle.std.specs.Option.{IfSome}
use Rattle.jvm_machine.specs.declared.advancing.Onward.{Onward}
use Rattle.jvm_machine.specs.Several.{EndsBehind, RunsOn}
use Rattle.jvm_machine.specs.View.{View}
use Rattle.jvm_machine.proofs.Steps.SeveralTurns.{ends-clock, ends-more, ends-on, settled-is, settles-rests}
use Rattle.jvm_machine.proofs.machine.Vm.run_on.Goals as goal

pub run_rested-requires-clause-resting : goal.run_rested-requires-clause-resting
run_rested-requires-clause-resting c = sym c.if-is_resting.ensures

-- a whole turn of it
pub run_fully-requires-clause-below : goal.run_fully-requires-clause-below
run_fully-requires-clause-below c =
    subst (λ (v : View). v.clock + c.args.most < 9223372036854775808)
    (sym (subst (λ o. IfNone o (c.go_behind.new.self ≡ c.args.self.now)) c.in_default.is c.go_behind.ensures.none)) c.requires.below

pub returns-in_default : goal.returns-in_default
returns-in_default c =
    subst (λ v. RunsOn v c.args.most c.run_fully.result c.run_fully.new.self)
    (subst (λ o. IfNone o (c.go_behind.new.self ≡ c.args.self.now)) c.in_default.is c.go_behind.ensures.none) c.run_fully.ensures

-- it was quickly done
pub returns-then-not-is_settled : goal.returns-then-not-is_settled
returns-then-not-is_settled c =
    ends-on c.args.self.now c.go_behind.new.self c.in-Some.onward.made c.args.most c.in-Some.onward.turn
    (subst (λ o. IfSome o (λ (x : Onward). EndsBehind c.args.self.now x.made x.turn c.go_behind.new.self)) c.in-Some.is c.go_behind.ensures.turns)
    (subst (λ o. IfSome o (λ (x : Onward). x.made + 2 ≤ c.args.most)) c.in-Some.is c.go_behind.ensures.within)
    (λ settled. absurd (let e : false ≡ true = sym c.if-not-is_settled.true ∙ (c.is_settled.ensures ∙ settled) in cc))

pub returns-then-made-most : goal.returns-then-made-most
returns-then-made-most c =
    ends-on c.args.self.now c.go_behind.new.self c.in-Some.onward.made c.args.most c.in-Some.onward.turn
    (subst (λ o. IfSome o (λ (x : Onward). EndsBehind c.args.self.now x.made x.turn c.go_behind.new.self)) c.in-Some.is c.go_behind.ensures.turns)
    (subst (λ o. IfSome o (λ (x : Onward). x.made + 2 ≤ c.args.most)) c.in-Some.is c.go_behind.ensures.within)
    (λ settled. c.if-made-most.true)

pub run_rested-requires-2-clause-some : goal.run_rested-requires-2-clause-some
run_rested-requires-2-clause-some c =
    let within = subst (λ o. IfSome o (λ (x : Onward). x.made + 2 ≤ c.args.most)) c.in-Some.is c.go_behind.ensures.within in
    let other = c.if-made-most.false in
    (let not_most : c.in-Some.onward.made + 2 ≡ c.args.most → ⊥ = other in grind (arith, within, not_most))

pub run_rested-requires-2-clause-below : goal.run_rested-requires-2-clause-below
run_rested-requires-2-clause-below c =
    let within = subst (λ o. IfSome o (λ (x : Onward). x.made + 2 ≤ c.args.most)) c.in-Some.is c.go_behind.ensures.within in
    let is = subst (λ o. IfSome o (λ (x : Onward). EndsBehind c.args.self.now x.made x.turn c.go_behind.new.self)) c.in-Some.is c.go_behind.ensures.turns in
    let settled = subst (λ t. EndsBehind c.args.self.now c.in-Some.onward.made t c.go_behind.new.self) (settled-is c.in-Some.onward.turn (sym c.is_settled.ensures ∙ c.if-not-is_settled.false)) is in
    let up = ends-clock c.args.self.now c.go_behind.new.self c.in-Some.onward.made settled in
    let below = c.requires.below in
    omega (arith, within, up, below)

pub run_rested-requires-2-clause-resting : goal.run_rested-requires-2-clause-resting
run_rested-requires-2-clause-resting c =
    let is = subst (λ o. IfSome o (λ (x : Onward). EndsBehind c.args.self.now x.made x.turn c.go_behind.new.self)) c.in-Some.is c.go_behind.ensures.turns in
    let settled = subst (λ t. EndsBehind c.args.self.now c.in-Some.onward.made t c.go_behind.new.self) (settled-is c.in-Some.onward.turn (sym c.is_settled.ensures ∙ c.if-not-is_settled.false)) is in
    settles-rests settled.behind.between c.go_behind.new.self settled.behind.last

pub returns : goal.returns
returns c =
    let is = subst (λ o. IfSome o (λ (x : Onward). EndsBehind c.args.self.now x.made x.turn c.go_behind.new.self)) c.in-Some.is c.go_behind.ensures.turns in
    let settled = subst (λ t. EndsBehind c.args.self.now c.in-Some.onward.made t c.go_behind.new.self) (settled-is c.in-Some.onward.turn (sym c.is_settled.ensures ∙ c.if-not-is_settled.false)) is in
    ends-more c.args.self.now c.go_behind.new.self c.run_rested-2.new.self c.in-Some.onward.made c.args.most c.run_rested-2.result settled c.run_rested-2.ensures
    (subst (λ o. IfSome o (λ (x : Onward). x.made + 2 ≤ c.args.most)) c.in-Some.is c.go_behind.ensures.within)
