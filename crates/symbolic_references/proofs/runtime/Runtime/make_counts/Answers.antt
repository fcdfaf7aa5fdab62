use Rattle.std.proofs.Common.{◌≡◌, ◌∙◌, ◌≤◌, ◌/◌, Some, length, ap, subst, sym}
use Rattle.jvm_model.specs.Instructions.CreationRules.{lengths_of}
use Rattle.symbolic_references.proofs.ArraysMade.{lengths_count}
use Rattle.symbolic_references.proofs.runtime.Runtime.make_counts.Goals as goal

pub make_lengths-requires-clause-most : goal.make_lengths-requires-clause-most
make_lengths-requires-clause-most c =
    let is : lengths_of c.args.counts.now ≡ Some c.in-Some.lengths = sym c.in_ok-lengths.ensures ∙ c.in-Some.is in
    subst (λ n. n ≤ c.args.kind / 16777216) (sym (ap length c.as_slice-lengths.ensures ∙ lengths_count c.args.counts.now c.in-Some.lengths is)) c.requires.most

pub make_lengths-requires-clause-least : goal.make_lengths-requires-clause-least
make_lengths-requires-clause-least c =
    let is : lengths_of c.args.counts.now ≡ Some c.in-Some.lengths = sym c.in_ok-lengths.ensures ∙ c.in-Some.is in
    subst (λ n. 1 ≤ n) (sym (ap length c.as_slice-lengths.ensures ∙ lengths_count c.args.counts.now c.in-Some.lengths is)) c.requires.least
