use Rattle.std.proofs.Common.{sym, ◌∙◌}
use Rattle.possible_callees.proofs.References.LineReferences.{line-begins}
use Rattle.possible_callees.proofs.code_references.symbolic_reference_of.Goals as goal

pub returns-in-Some : goal.returns-in-Some
returns-in-Some c = c.beginning_of.ensures ∙ line-begins c.args.class.now c.args.instr c.in-Some.line (sym c.in_ok-line.ensures ∙ c.in-Some.is)
