use Rattle.std.proofs.Common.{sym, ◌∙◌}
use Rattle.code_model.proofs.CodeLayouts.Walks.{source_end_last}
use Rattle.code_model.proofs.sizes.source_end.Goals as goal

pub returns-in-Some : goal.returns-in-Some
returns-in-Some c = c.next_offset.ensures ∙ sym (source_end_last 0 c.args.groups.now c.in-Some.group.now (sym c.in-Some.ensures.value))
