use Rattle.std.proofs.Common.{sym, ap, ◌∙◌}
use Rattle.instructions.specs.Acts.{named_in}
use Rattle.instructions.proofs.attempting.named_at.Goals as goal

pub returns-in-Some : goal.returns-in-Some
returns-in-Some c = c.is_named.ensures ∙ ap named_in (sym c.in-Some.ensures.line)

pub returns-in-None : goal.returns-in-None
returns-in-None c = ap named_in (c.in-None.ensures.kept ∙ c.requires c.args.here.place)
