use Rattle.std.proofs.Common.{◌≡◌, ◌∙◌, Some, ap, true, false, rules, subst}
use Rattle.std.specs.Prelude.{◌==◌}
use Rattle.frame_stack.specs.FrameLists.{top_operands}
use Rattle.heap_objects.specs.Heaps.{kind_at}
use Rattle.jvm_model.specs.Instructions.InvocationRules.{arguments_by, receiver_in}
use Rattle.symbolic_references.specs.Runtimes.{RuntimeView}
use Rattle.member_selection.specs.Targets.{data_in, selecting_view}
use Rattle.member_selection.proofs.SelectionLemmas.{target_kept}
use Rattle.symbolic_references.proofs.runtime.Runtime.kept_target.Goals as goal

pub returns-clause-target : goal.returns-clause-target
returns-clause-target c =
    let p = c.args.self.now.world.program in
    let r = c.args.method.now in
    let h = c.args.self.now.shared.heap in
    let o = top_operands c.args.frames.now.frames in
    let given : Some (data_in c.in-Some.count o) ≡ arguments_by true r.member o = search rules in
    let apart : (c.receiver_below-object.result == 0) ≡ false = search rules in
    let there : (receiver_in (data_in c.in-Some.count o) == 0) ≡ false = subst (λ n. (n == 0) ≡ false) c.receiver_below-object.ensures apart in
    let of : Some c.in-Some-kind_of_object.last ≡ kind_at (receiver_in (data_in c.in-Some.count o)) h =
    c.in-Some-kind_of_object.ensures.found
    ∙ (ap (λ (v : RuntimeView). kind_at c.receiver_below-object.result v.shared.heap) c.self.view_is ∙ ap (λ n. kind_at n h) c.receiver_below-object.ensures) in
    target_kept p c.args.kind (selecting_view c.args.by) r h o c.in-Some.count c.in-Some-kind_of_object.last c.args.site.method c.in-Some-kept_for.chosen
    given c.requires.resolved.named there of (c.in-Some-kept_for.ensures r c.requires.site)
