use Rattle.std.proofs.Common.{◌≡◌, false, rules, sym, subst}
use Rattle.command_line.specs.Words.{IsSound, is_refused, read_in, read_of}
use Rattle.command_line.specs.Reading.{given_in}
use Rattle.command_line.specs.declared.words.Words.{Words}
use Rattle.command_line.proofs.Sound.{sound}
use Rattle.command_line.proofs.words.words_accepted.Goals as goal

pub returns-clause-sound : goal.returns-clause-sound
returns-clause-sound c =
    let words : Words = record {
      main = c.in_ok-main.main;
      root = c.args.given.root;
      budget = c.budget_of.result;
      plan = c.args.given.plan;
      generated = c.generation_of.result;
      images = c.args.given.images;
      files = c.args.given.files;
    } in
    let same : read_in words ≡ read_of (given_in c.args.given) = search rules in
    let fine : is_refused (given_in c.args.given) ≡ false = search rules in
    subst IsSound (sym same) (sound (given_in c.args.given) fine)
