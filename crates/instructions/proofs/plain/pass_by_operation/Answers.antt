use Rattle.std.proofs.Common.{ap, ◌∙◌}
use Rattle.frame_stack.specs.FrameLists.{FramesView}
use Rattle.jvm_model.specs.declared.instruction.Operation.TheVariants.{Within}
use Rattle.prepared_code.specs.declared.parts.Parts.{Parts}
use Rattle.instructions.proofs.Silent.PassedLines.{passed-alone, passed-load, passed-store}
use Rattle.instructions.proofs.plain.pass_by_operation.Goals as goal

pub returns-in-Basic-clause-gone : goal.returns-in-Basic-clause-gone
returns-in-Basic-clause-gone c = λ gone.
    let old : Parts = c.args.parts.now in
    passed-alone c.args.line.now old (record old { frames = c.pass_alone.new.frames }) (c.in-Within.is ∙ ap Within c.in-Basic.is) (c.pass_alone.ensures.gone gone)
    (ap (λ (s : FramesView). record old { frames = s }) c.pass_alone.ensures.frames)

pub returns-in-LoadElement-clause-gone : goal.returns-in-LoadElement-clause-gone
returns-in-LoadElement-clause-gone c = λ gone.
    passed-load c.args.line.now c.args.parts.now c.pass_load.new.parts c.in-LoadElement.kind c.in-LoadElement.is (c.pass_load.ensures.gone gone)

pub returns-in-StoreElement-clause-gone : goal.returns-in-StoreElement-clause-gone
returns-in-StoreElement-clause-gone c = λ gone.
    passed-store c.args.line.now c.args.parts.now c.pass_store.new.parts c.in-StoreElement.kind c.in-StoreElement.is (c.pass_store.ensures.gone gone)
