use Rattle.std.proofs.Common.{ap, ◌∙◌}
use Rattle.member_selection.specs.Numbers.{number_in, rows_from}
use Rattle.member_selection.proofs.NumberLaws.{rows-number}
use Rattle.member_selection.proofs.numbers.MethodNumbers.new.Goals as goal

pub returns : goal.returns
returns c class at =
    ap (λ rows. number_in rows class at) (c.in_ok-rows.ensures ∙ ap (rows_from 0) c.as_slice.ensures)
    ∙ rows-number c.args.program.now c.requires.numbered class at
