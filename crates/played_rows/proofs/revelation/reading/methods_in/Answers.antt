use Rattle.std.proofs.Common.{◌≡◌, ap, map, subst, ◌∙◌}
use Rattle.std.specs.Prelude.{IfOk}
use Rattle.played_rows.specs.Revelation.Names.{method_called}
use Rattle.played_rows.specs.Words.{all_found}
use Rattle.played_rows.proofs.revelation.reading.methods_in.Goals as goal

pub returns : goal.returns
returns c =
    subst (λ texts. IfOk c.find_all.result (λ found. found ≡ all_found (method_called c.args.program.now) texts))
    (ap (map (λ w. w.now)) c.deref.ensures.value ∙ c.in_ok-words.ensures) c.find_all.ensures
