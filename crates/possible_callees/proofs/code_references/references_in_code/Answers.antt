use Rattle.std.proofs.Common.{◌-◌, ◌++◌, sym, ap, ◌∙◌, arith}
use Rattle.std.specs.Option.{option_to_list}
use Rattle.code_model.proofs.Reading.Readings.{end_of-within}
use Rattle.possible_callees.specs.CodeReferences.{references_in_code, symbolic_references_from}
use Rattle.possible_callees.proofs.References.ReferenceSteps.{one-more}
use Rattle.possible_callees.proofs.code_references.references_in_code.Goals as goal

pub next_offset-at-requires : goal.next_offset-at-requires
next_offset-at-requires c =
    omega (arith, end_of-within c.args.code.now c.loop-left.at c.in-Some.instr (sym c.in_ok-instr.ensures ∙ c.in-Some.is), c.requires)

pub loop-left-preserved : goal.loop-left-preserved
loop-left-preserved c =
    let class = c.args.class.now in
    let code = c.args.code.now in
    let n = c.loop-left.left - 1 in
    let ns = c.loop-left.references in
    ap (λ l. l ++ symbolic_references_from class n code c.next_offset-at.result) c.in_ok-add_some.ensures
    ∙ (ap (λ k. (ns ++ option_to_list c.in_ok-reference.reference) ++ symbolic_references_from class n code k) c.next_offset-at.ensures
    ∙ one-more class code ns (references_in_code class code) c.loop-left.at n c.loop-left.left c.in-Some.instr (sym c.in_ok-instr.ensures ∙ c.in-Some.is)
    (omega (arith, c.loop-left-test.true)) c.loop-left.invariant c.in_ok-reference.reference c.in_ok-reference.ensures)
