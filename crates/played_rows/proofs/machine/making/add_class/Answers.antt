use Rattle.std.proofs.Common.{◌≡◌, true, false, codes, rules}
use Rattle.std.specs.Str.{bytes_eq}
use Rattle.played_rows.specs.Machine.Making.{AddsClass}
use Rattle.played_rows.specs.Machine.Words.{word_of}
use Rattle.played_rows.proofs.MachineLemmas.MakingLemmas.{class-added}
use Rattle.played_rows.proofs.machine.making.add_class.Goals as goal

pub returns-then-eq-clause-added : goal.returns-then-eq-clause-added
returns-then-eq-clause-added g c =
    let is : bytes_eq (word_of c.args.line.now) (codes "class") ≡ true = search rules in
    class-added (g.F.Files.contents c.args.files.now) c.args.line.now _ c.args.classes.now _ c.in-Ok.class is c.line_parted.ensures.rest
    c.in-Ok.ensures.read c.in-Ok-push.ensures.items

pub returns-clause-added : goal.returns-clause-added
returns-clause-added g c =
    let is : bytes_eq (word_of c.args.line.now) (codes "class") ≡ false = search rules in
    AddsClass.other c.args.classes.now is
