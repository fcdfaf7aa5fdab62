use Rattle.std.proofs.Common.{◌∙◌, ap, sym}
use Rattle.frame_stack.specs.FrameLists.{top_operands}
use Rattle.jvm_basic.specs.Outcomes.{top_locals}
use Rattle.jvm_model.specs.Instructions.FieldRules.{kind_by, putting_of}
use Rattle.jvm_model.specs.Classes.Layouts.{held_by}
use Rattle.symbolic_references.specs.Fields.{putting_view}
use Rattle.member_selection.specs.Members.{at_place}
use Rattle.symbolic_references.specs.Runtimes.{with_shared}
use Rattle.symbolic_references.proofs.Slots.{puts_found}
use Rattle.symbolic_references.proofs.runtime.Runtime.write_field.Goals as goal

pub returns-in-Some-slot_of-clause-runtime : goal.returns-in-Some-slot_of-clause-runtime
returns-in-Some-slot_of-clause-runtime c =
    c.write_slot.ensures.runtime
    ∙ ap (λ s. with_shared s c.args.self.now)
    (sym (puts_found c.args.self.now.world.program c.args.member.now (at_place c.args.field) c.args.self.now.shared
    (top_locals c.args.frames.now.frames) (top_operands c.args.frames.now.frames)
    (putting_of (kind_by c.args.member.now) (top_operands c.args.frames.now.frames)) (putting_view c.in-Some.putting)
    c.in-Ok.owner.object c.in-Some-slot_of.slot
    (sym (c.in-Some.ensures ∙ ap (λ k. putting_of k (top_operands c.args.frames.now.frames)) (c.held_by.ensures ∙ (ap held_by c.units.ensures ∙ ap held_by c.descriptor.ensures))))
    c.in-Ok.ensures.owner c.in-Some-slot_of.ensures))
