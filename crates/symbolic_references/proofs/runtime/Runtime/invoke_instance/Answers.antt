use Rattle.std.proofs.Common.{drop, sym, ap, ◌∙◌}
use Rattle.std.specs.Option.{option_map}
use Rattle.frame_stack.specs.FrameLists.{top_operands}
use Rattle.jvm_basic.specs.Outcomes.{top_locals}
use Rattle.jvm_model.specs.Basis.Data.{Done}
use Rattle.jvm_model.specs.Instructions.InvocationRules.{invokes_selected}
use Rattle.member_selection.specs.Answers.{abrupt_view}
use Rattle.member_selection.specs.Callees.{chosen_place}
use Rattle.member_selection.specs.Resolved.{invokes_instance}
use Rattle.member_selection.specs.Targets.{data_in, instance_target, selecting_view}
use Rattle.symbolic_references.proofs.Carried.{asks_by, leaves_by, still}
use Rattle.symbolic_references.proofs.TargetLemmas.{does-target, instance-rule, refuses-target}
use Rattle.symbolic_references.proofs.runtime.Runtime.invoke_instance.Goals as goal

pub returns-in-Ok-clause-answer : goal.returns-in-Ok-clause-answer
returns-in-Ok-clause-answer c =
    let w = c.args.self.now.world in
    let s = c.args.self.now.shared in
    let l = top_locals c.args.frames.now.frames in
    let o = top_operands c.args.frames.now.frames in
    asks_by c.invoke_selected.result (λ l o. invokes_selected w (option_map chosen_place c.in-Ok.target.selected) (data_in c.in-Ok.target.count o) s l (drop c.in-Ok.target.count o)) (invokes_instance w c.args.kind (selecting_view c.args.by) c.args.method.now s) c.args.frames.now
    (does-target w (instance_target w.program c.args.kind (selecting_view c.args.by) c.args.method.now s.heap o) s l o c.in-Ok.target c.in-Ok.ensures.target c.in-Ok.ensures.within ∙ instance-rule w (selecting_view c.args.by) c.args.method.now s l o c.args.kind)
    c.invoke_selected.ensures.answer

pub returns-in-Ok-clause-runtime : goal.returns-in-Ok-clause-runtime
returns-in-Ok-clause-runtime c =
    let w = c.args.self.now.world in
    let s = c.args.self.now.shared in
    let l = top_locals c.args.frames.now.frames in
    let o = top_operands c.args.frames.now.frames in
    leaves_by c.invoke_selected.result (λ l o. invokes_selected w (option_map chosen_place c.in-Ok.target.selected) (data_in c.in-Ok.target.count o) s l (drop c.in-Ok.target.count o)) (invokes_instance w c.args.kind (selecting_view c.args.by) c.args.method.now s) c.args.frames.now
    (does-target w (instance_target w.program c.args.kind (selecting_view c.args.by) c.args.method.now s.heap o) s l o c.in-Ok.target c.in-Ok.ensures.target c.in-Ok.ensures.within ∙ instance-rule w (selecting_view c.args.by) c.args.method.now s l o c.args.kind)
    c.invoke_selected.new.self c.args.self.now c.invoke_selected.ensures.runtime

pub returns-in-Err-clause-answer : goal.returns-in-Err-clause-answer
returns-in-Err-clause-answer c =
    let w = c.args.self.now.world in
    let s = c.args.self.now.shared in
    let l = top_locals c.args.frames.now.frames in
    let o = top_operands c.args.frames.now.frames in
    ap (λ (d : Done). d.outcome) (sym (refuses-target w (instance_target w.program c.args.kind (selecting_view c.args.by) c.args.method.now s.heap o) s l o c.in-Err.completion c.in-Err.ensures.target) ∙ instance-rule w (selecting_view c.args.by) c.args.method.now s l o c.args.kind)

pub returns-in-Err-clause-runtime : goal.returns-in-Err-clause-runtime
returns-in-Err-clause-runtime c =
    let w = c.args.self.now.world in
    let s = c.args.self.now.shared in
    let l = top_locals c.args.frames.now.frames in
    let o = top_operands c.args.frames.now.frames in
    still c.args.self.now (invokes_instance w c.args.kind (selecting_view c.args.by) c.args.method.now s l o) (abrupt_view c.in-Err.completion) (sym (refuses-target w (instance_target w.program c.args.kind (selecting_view c.args.by) c.args.method.now s.heap o) s l o c.in-Err.completion c.in-Err.ensures.target) ∙ instance-rule w (selecting_view c.args.by) c.args.method.now s l o c.args.kind)
