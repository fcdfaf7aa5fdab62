use Rattle.std.proofs.Common.{sym, ap, ◌∙◌}
use Rattle.std.specs.Prelude.{Option}
use Rattle.std.specs.Option.{option_map_or}
use Rattle.prepared_code.specs.declared.passage.Passage.{Passage}
use Rattle.prepared_code.specs.Versions.{line_at}
use Rattle.activations.proofs.Passages.{own-so}
use Rattle.activations.proofs.raising.own_of.Goals as goal

pub returns-in-Some : goal.returns-in-Some
returns-in-Some c =
    ap (λ (o : Option Passage). option_map_or (λ x. x.own) o 0) (sym c.in-Some.is)
    ∙ own-so (line_at c.args.originals.now.versions c.args.here.version c.args.here.place) c.in_ok-passage.passage c.in_ok-passage.ensures

pub returns-in-None : goal.returns-in-None
returns-in-None c =
    ap (λ (o : Option Passage). option_map_or (λ x. x.own) o 0) (sym c.in-None.is)
    ∙ own-so (line_at c.args.originals.now.versions c.args.here.version c.args.here.place) c.in_ok-passage.passage c.in_ok-passage.ensures
