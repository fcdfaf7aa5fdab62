use Rattle.std.proofs.Common.{subst, ◌∙◌}
use Rattle.std.specs.Prelude.{IfSome}
use Rattle.frame_stack.specs.FrameLists.{top_operands}
use Rattle.jvm_basic.specs.Outcomes.{top_locals}
use Rattle.symbolic_references.specs.Passing.{IsInvoked}
use Rattle.member_selection.specs.Targets.{instance_target, selecting_view}
use Rattle.symbolic_references.proofs.TargetLemmas.{does-target, instance-rule}
use Rattle.symbolic_references.proofs.runtime.Runtime.instance_call.Goals as goal

pub returns-in-Some : goal.returns-in-Some
returns-in-Some c =
    let w = c.args.self.now.world in
    let by = selecting_view c.args.by in
    let r = c.args.method.now in
    let s = c.args.self.now.shared in
    let fs = c.args.frames.now.frames in
    let l = top_locals fs in
    let o = top_operands fs in
    subst (λ d. IfSome c.call_of.result (λ x. IsInvoked w x d s fs))
    (does-target w (instance_target w.program c.args.kind by r s.heap o) s l o c.in-Some.target c.in-Some.ensures.target c.in-Some.ensures.within
    ∙ instance-rule w by r s l o c.args.kind)
    c.call_of.ensures
