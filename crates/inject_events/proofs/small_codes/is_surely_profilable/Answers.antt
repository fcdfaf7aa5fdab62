-- short codes can be rewritten
use Rattle.std.proofs.Common.{sym, ◌∙◌}
use Rattle.inject_events.proofs.SmallCodes.{IsProfilable-small}
use Rattle.inject_events.proofs.small_codes.is_surely_profilable.Goals as goal

pub returns-clause-profilable : goal.returns-clause-profilable
returns-clause-profilable c = λ is. IsProfilable-small c.args.class.now c.requires.class (sym c.has_small_codes.ensures ∙ is)
