use Rattle.std.proofs.Common.{sym, ◌∙◌}
use Rattle.frame_stack.specs.FrameLists.{top_operands}
use Rattle.jvm_model.specs.Basis.Values.{ref_of}
use Rattle.activations.proofs.CatchLemmas.{throws-so}
use Rattle.activations.proofs.catching.thrown_object.Goals as goal

pub returns : goal.returns
returns c =
    throws-so c.args.runtime.now.world c.args.runtime.now.shared (ref_of (top_operands c.args.frames.now.frames)) c.in-Some.object
    (sym c.ref_of.ensures.found ∙ c.in-Some.is) c.if-object-eq0.false (sym c.is_throwable.ensures ∙ c.if-not-is_throwable.false)
