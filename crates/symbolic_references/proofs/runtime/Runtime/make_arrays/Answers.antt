use Rattle.std.proofs.Common.{◌≡◌, ◌∙◌, ◌≤◌, ◌/◌, Some, length, ap, subst, sym}
use Rattle.frame_stack.specs.FrameLists.{top_operands}
use Rattle.jvm_model.specs.Instructions.CreationRules.{counts_of}
use Rattle.symbolic_references.proofs.ArraysMade.{counts_count, enough_below}
use Rattle.symbolic_references.proofs.runtime.Runtime.make_arrays.Goals as goal

pub make_counts-requires-clause-most : goal.make_counts-requires-clause-most
make_counts-requires-clause-most c =
    let is : counts_of c.args.dimensions (top_operands c.args.frames.now.frames) ≡ Some c.in-Some.counts = sym c.in_ok-counts.ensures ∙ c.in-Some.is in
    subst (λ n. n ≤ c.args.kind / 16777216)
    (sym (ap length c.as_slice-counts.ensures ∙ counts_count c.args.dimensions (top_operands c.args.frames.now.frames) c.in-Some.counts is)) c.requires.most

pub make_counts-requires-clause-enough : goal.make_counts-requires-clause-enough
make_counts-requires-clause-enough c =
    let is : counts_of c.args.dimensions (top_operands c.args.frames.now.frames) ≡ Some c.in-Some.counts = sym c.in_ok-counts.ensures ∙ c.in-Some.is in
    enough_below c.args.dimensions (top_operands c.args.frames.now.frames) c.in-Some.counts is

pub make_counts-requires-clause-least : goal.make_counts-requires-clause-least
make_counts-requires-clause-least c =
    let is : counts_of c.args.dimensions (top_operands c.args.frames.now.frames) ≡ Some c.in-Some.counts = sym c.in_ok-counts.ensures ∙ c.in-Some.is in
    subst (λ n. 1 ≤ n)
    (sym (ap length c.as_slice-counts.ensures ∙ counts_count c.args.dimensions (top_operands c.args.frames.now.frames) c.in-Some.counts is)) c.requires.least
