use Rattle.std.proofs.Common.{ap, ◌∙◌}
use Rattle.frame_stack.specs.FrameLists.{top_operands}
use Rattle.jvm_basic.specs.Outcomes.{top_locals}
use Rattle.jvm_model.specs.Instructions.CreationRules.{makes_instance}
use Rattle.jvm_model.specs.Instructions.Rules.{class_initialized}
use Rattle.jvm_model.specs.Basis.SharedState.{phase_of}
use Rattle.symbolic_references.specs.Runtimes.{RuntimeView}
use Rattle.symbolic_references.proofs.Carried.{asks_by, sets_by, when_it_is_ready, when_it_is_running}
use Rattle.symbolic_references.proofs.runtime.Runtime.make_initialized.Goals as goal

pub returns-in-Some-Ready-clause-answer : goal.returns-in-Some-Ready-clause-answer
returns-in-Some-Ready-clause-answer c =
    let v = c.args.self.now in
    let f = c.args.frames.now in
    asks_by c.make_instance.result (makes_instance v.world.program c.args.kind c.args.class v.shared)
    (λ l o. class_initialized v.world.program c.args.class v.shared (makes_instance v.world.program c.args.kind c.args.class v.shared l o)) f
    (when_it_is_ready v.world.program (phase_of v.shared c.args.class) c.in-Some-Ready.field-0 c.args.class v.shared
    (makes_instance v.world.program c.args.kind c.args.class v.shared (top_locals f.frames) (top_operands f.frames))
    (c.in-Some-Ready.ensures ∙ ap (λ (v : RuntimeView). phase_of v.shared c.args.class) c.self.view_is) c.in-Some-Ready.field-0-is) c.make_instance.ensures.answer

pub returns-in-Some-Ready-clause-runtime : goal.returns-in-Some-Ready-clause-runtime
returns-in-Some-Ready-clause-runtime c =
    let v = c.args.self.now in
    let f = c.args.frames.now in
    sets_by c.make_instance.result (makes_instance v.world.program c.args.kind c.args.class v.shared)
    (λ l o. class_initialized v.world.program c.args.class v.shared (makes_instance v.world.program c.args.kind c.args.class v.shared l o)) f
    (when_it_is_ready v.world.program (phase_of v.shared c.args.class) c.in-Some-Ready.field-0 c.args.class v.shared
    (makes_instance v.world.program c.args.kind c.args.class v.shared (top_locals f.frames) (top_operands f.frames))
    (c.in-Some-Ready.ensures ∙ ap (λ (v : RuntimeView). phase_of v.shared c.args.class) c.self.view_is) c.in-Some-Ready.field-0-is) c.make_instance.new.self v c.make_instance.ensures.runtime

pub returns-in-Some-Running-clause-answer : goal.returns-in-Some-Running-clause-answer
returns-in-Some-Running-clause-answer c =
    let v = c.args.self.now in
    let f = c.args.frames.now in
    asks_by c.make_instance-in-Some-Running.result (makes_instance v.world.program c.args.kind c.args.class v.shared)
    (λ l o. class_initialized v.world.program c.args.class v.shared (makes_instance v.world.program c.args.kind c.args.class v.shared l o)) f
    (when_it_is_running v.world.program (phase_of v.shared c.args.class) c.in-Some-Running.field-0 c.args.class v.shared
    (makes_instance v.world.program c.args.kind c.args.class v.shared (top_locals f.frames) (top_operands f.frames))
    (c.in-Some-Running.ensures ∙ ap (λ (v : RuntimeView). phase_of v.shared c.args.class) c.self.view_is) c.in-Some-Running.field-0-is) c.make_instance-in-Some-Running.ensures.answer

pub returns-in-Some-Running-clause-runtime : goal.returns-in-Some-Running-clause-runtime
returns-in-Some-Running-clause-runtime c =
    let v = c.args.self.now in
    let f = c.args.frames.now in
    sets_by c.make_instance-in-Some-Running.result (makes_instance v.world.program c.args.kind c.args.class v.shared)
    (λ l o. class_initialized v.world.program c.args.class v.shared (makes_instance v.world.program c.args.kind c.args.class v.shared l o)) f
    (when_it_is_running v.world.program (phase_of v.shared c.args.class) c.in-Some-Running.field-0 c.args.class v.shared
    (makes_instance v.world.program c.args.kind c.args.class v.shared (top_locals f.frames) (top_operands f.frames))
    (c.in-Some-Running.ensures ∙ ap (λ (v : RuntimeView). phase_of v.shared c.args.class) c.self.view_is) c.in-Some-Running.field-0-is) c.make_instance-in-Some-Running.new.self v c.make_instance-in-Some-Running.ensures.runtime
