use Rattle.std.proofs.Common.{◌≡◌, ◌++◌, string_bytes, length, ap, ◌∙◌, sym, append-nil}
use Rattle.std.proofs.lemmas.Bool.{eqb-true}
use Rattle.jf_bytes.specs.Unicode.{utf8_of}
use Rattle.text_coding.proofs.UnicodeLemmas.{utf8_of-nil}
use Rattle.text_coding.proofs.unicode.to_utf8.Goals as goal

pub returns : goal.returns
returns c =
    let none : length c.loop-rest.rest.now ≡ 0 = eqb-true _ _ (sym c.is_empty.ensures ∙ c.loop-rest-test.false) in
    let whole : string_bytes c.loop-rest.shown ++ utf8_of c.loop-rest.rest.now ≡ utf8_of c.args.text.now = c.loop-rest.invariant in
    ap (λ v. v.items) c.into_bytes.ensures.value ∙ sym (append-nil _) ∙ (rw (utf8_of-nil c.loop-rest.rest.now none) at whole)
