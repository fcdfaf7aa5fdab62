use Rattle.std.proofs.Common.{◌≡◌, Some, false, sym, rules, ◌∙◌}
use Rattle.frame_stack.specs.FrameLists.{top_operands}
use Rattle.jvm_model.specs.Instructions.InvocationRules.{arguments_by}
use Rattle.member_selection.specs.Targets.{data_in}
use Rattle.symbolic_references.proofs.TargetLemmas.{target_fixed}
use Rattle.symbolic_references.proofs.runtime.Runtime.fixed_target.Goals as goal

pub returns-in-Some-clause-target : goal.returns-in-Some-clause-target
returns-in-Some-clause-target c p kind is =
    let r = c.args.method.now in
    let o = top_operands c.args.frames.now.frames in
    let given : Some (data_in c.in-Some.count o) ≡ arguments_by false r.member o = search rules in
    target_fixed p kind r c.args.self.now.shared o c.args.m c.in-Some.count is (sym c.is_usable.ensures ∙ c.if-not-is_usable.false) given
