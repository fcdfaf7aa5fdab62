use Rattle.std.proofs.Common.{◌≡◌, ◌∙◌, ◌<◌, ◌-◌, ◌++◌, ◌∷◌, [], ap, rules}
use Rattle.std.specs.Prelude.{None, slice_get}
use Rattle.std.specs.Option.{option_map}
use Rattle.frame_stack.specs.FrameLists.{top_operands}
use Rattle.jvm_model.specs.Instructions.CreationRules.{counts_from}
use Rattle.member_selection.specs.Arrays.{int_at}
use Rattle.symbolic_references.proofs.ArraysMade.{count_next, count_none}
use Rattle.symbolic_references.proofs.runtime.multi_arrays.counts_of.Goals as goal

pub returns-in_default : goal.returns-in_default
returns-in_default c =
    let some : 0 < c.loop-left.left = search rules in
    let is : None ≡ int_at (slice_get (top_operands c.args.frames.now.frames) (c.loop-left.left - 1)) = search rules in
    count_none c.loop-left.left (top_operands c.args.frames.now.frames) c.loop-left.counts some is ∙ c.loop-left.invariant

pub loop-left-preserved : goal.loop-left-preserved
loop-left-preserved c =
    let some : 0 < c.loop-left.left = search rules in
    let pushed : c.push.new.self ≡ c.loop-left.counts ++ c.in-Some.count ∷ [] = search rules in
    ap (λ cs. option_map (λ rest. cs ++ rest) (counts_from (c.loop-left.left - 1) [] (top_operands c.args.frames.now.frames))) pushed
    ∙ (count_next c.loop-left.left (top_operands c.args.frames.now.frames) c.loop-left.counts c.in-Some.count some c.in-Some.ensures ∙ c.loop-left.invariant)
