-- the attributes so far stand in front of what is left
use Rattle.std.proofs.Common.{◌≡◌, ◌++◌, drop}
use Rattle.jvm_model.specs.Rewriting.Images.{with_code_among}
use Rattle.inject_events.specs.Probing.{coded_among}
use Rattle.inject_events.proofs.methods.with_code.Given as goal

abbrev pub invariant-loop-attribute : goal.invariant-loop-attribute
invariant-loop-attribute l =
    l.attributes ++ coded_among l.placed l.code (drop l.attribute-index l.member.attributes) ≡ with_code_among l.code l.member.attributes
