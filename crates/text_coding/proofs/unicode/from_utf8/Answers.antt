use Rattle.std.proofs.Common.{ap, ◌∙◌, sym, subst}
use Rattle.std.proofs.lemmas.List.{map-id}
use Rattle.std.specs.List.{flat_map}
use Rattle.std.specs.Char.Escape.{encode_utf16}
use Rattle.std.proofs.lemmas.Iterator.{YieldsList-from_chars}
use Rattle.std.proofs.lemmas.Iterator.Consumers.{YieldsList-end}
use Rattle.std.specs.Str.{chars}
use Rattle.std.proofs.lemmas.Str.{scalars-chars}
use Rattle.text_coding.specs.Spelling.{IsUnits}
use Rattle.text_coding.proofs.UnicodeLemmas.{chars_fit}
use Rattle.text_coding.proofs.unicode.from_utf8.Goals as goal

pub returns-clause-spelled : goal.returns-clause-spelled
returns-clause-spelled c =
    let all = YieldsList-end (YieldsList-from_chars c.args.text.now c.utf8.text cc) c.loop-c.yielded _ c.loop-c.yielded_by _ _ c.in-None.is c.next.ensures.steps in
    c.new.ensures ∙ c.loop-c.invariant ∙ ap (flat_map encode_utf16) (sym (map-id c.loop-c.yielded) ∙ all.0)

pub returns-clause-fit : goal.returns-clause-fit
returns-clause-fit c =
    let all = YieldsList-end (YieldsList-from_chars c.args.text.now c.utf8.text cc) c.loop-c.yielded _ c.loop-c.yielded_by _ _ c.in-None.is c.next.ensures.steps in
    let units = c.new.ensures ∙ c.loop-c.invariant ∙ ap (flat_map encode_utf16) (sym (map-id c.loop-c.yielded) ∙ all.0) in
    subst IsUnits (sym units) (chars_fit (chars c.args.text.now) (scalars-chars c.args.text.now c.utf8.text))
