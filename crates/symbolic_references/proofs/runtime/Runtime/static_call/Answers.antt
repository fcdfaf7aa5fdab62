use Rattle.std.proofs.Common.{sym, subst, ◌∙◌}
use Rattle.std.specs.Prelude.{IfSome}
use Rattle.frame_stack.specs.FrameLists.{top_operands}
use Rattle.jvm_basic.specs.Outcomes.{top_locals}
use Rattle.jvm_model.specs.declared.instruction.SymbolicReference.TheVariants.{Invokestatic}
use Rattle.member_selection.specs.Callees.{HasCallee}
use Rattle.member_selection.specs.Known.{IsFixed, IsFoundAs}
use Rattle.symbolic_references.specs.Passing.{IsInvoked}
use Rattle.member_selection.specs.Targets.{static_target}
use Rattle.symbolic_references.proofs.TargetLemmas.{does-target, static-rule}
use Rattle.symbolic_references.proofs.runtime.Runtime.static_call.Goals as goal

pub call_of-requires-clause-callee : goal.call_of-requires-clause-callee
call_of-requires-clause-callee c =
    let p = c.args.self.now.world.program in
    let r = c.args.method.now in
    let is : IsFixed p c.args.kind r c.in-Fixed.m = subst (λ x. IsFoundAs x p c.args.kind (Invokestatic r)) c.in-Fixed.is c.requires.found in
    subst (λ o. IfSome o (HasCallee p)) (sym c.in-Some.ensures.selected) is.callee

pub returns-in-Some : goal.returns-in-Some
returns-in-Some c =
    let w = c.args.self.now.world in
    let p = c.args.self.now.world.program in
    let r = c.args.method.now in
    let s = c.args.self.now.shared in
    let fs = c.args.frames.now.frames in
    let l = top_locals fs in
    let o = top_operands fs in
    let is : IsFixed p c.args.kind r c.in-Fixed.m = subst (λ x. IsFoundAs x p c.args.kind (Invokestatic r)) c.in-Fixed.is c.requires.found in
    subst (λ d. IfSome c.call_of.result (λ x. IsInvoked w x d s fs))
    (does-target w (static_target p c.args.kind r s o) s l o c.in-Some.target (c.in-Some.ensures.target p c.args.kind is) c.in-Some.ensures.within
    ∙ static-rule w r s l o c.args.kind)
    c.call_of.ensures
