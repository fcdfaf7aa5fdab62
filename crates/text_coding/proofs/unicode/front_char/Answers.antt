use Rattle.std.proofs.Common.{◌∙◌, sym}
use Rattle.text_coding.proofs.UnicodeLemmas.{utf16_chars-pair, utf16_chars-lone}
use Rattle.text_coding.proofs.unicode.front_char.Goals as goal

pub returns-then-is_pair-clause-prefix : goal.returns-then-is_pair-clause-prefix
returns-then-is_pair-clause-prefix c =
    let pair = rw (c.unit_at-first.ensures, c.unit_at-second.ensures) at (sym c.is_pair.ensures ∙ c.if-is_pair.true) in
    rw (c.pair_char.ensures, c.unit_at-first.ensures, c.unit_at-second.ensures) (utf16_chars-pair c.args.units.now pair)

pub returns-clause-prefix : goal.returns-clause-prefix
returns-clause-prefix c =
    let apart = rw (c.unit_at-first.ensures, c.unit_at-second.ensures) at (sym c.is_pair.ensures ∙ c.if-is_pair.false) in
    rw (c.lone_char.ensures, c.unit_at-first.ensures) (utf16_chars-lone c.args.units.now c.requires apart)
