use Rattle.std.proofs.Common.{◌≡◌, ◌∙◌, true, false, refl, sym, ap, add-one, arith, bytes_eq, string_bytes, vec_items}
use Rattle.std.specs.Prelude.{Some}
use Rattle.std.proofs.lemmas.Option.{slice_get_read}
use Rattle.byte_streams.proofs.FilesLemmas.{contents_at-past, contents_at-here, contents_at-skip}
use Rattle.byte_streams.proofs.memory.find.Goals as goal

pub returns-then-eq : goal.returns-then-eq
returns-then-eq c =
    let here = slice_get_read c.args.names.now _ c.loop-at.at c.index-names-at.result refl (omega arith) c.index-names-at.is in
    let there = slice_get_read c.args.contents.now _ c.loop-at.at c.index-contents-at.result refl (omega arith) c.index-contents-at.is in
    let same : bytes_eq (string_bytes c.index-names-at.result) c.args.name.now ≡ true = rw (← c.as_str.ensures.value) (sym c.if-eq.ensures) in
    ap Some c.as_slice.ensures.value ∙ sym (c.loop-at.invariant ∙ contents_at-here string_bytes vec_items c.args.names.now c.args.contents.now c.loop-at.at _ _ c.args.name.now here there same)

pub loop-at-preserved : goal.loop-at-preserved
loop-at-preserved c =
    let here = slice_get_read c.args.names.now _ c.loop-at.at c.index-names-at.result refl (omega arith) c.index-names-at.is in
    let other : bytes_eq (string_bytes c.index-names-at.result) c.args.name.now ≡ false = rw (← c.as_str.ensures.value) (sym c.if-eq.ensures) in
    rw add-one (c.loop-at.invariant ∙ contents_at-skip string_bytes vec_items c.args.names.now c.args.contents.now c.loop-at.at _ c.args.name.now c.requires here other)

pub returns : goal.returns
returns c = sym (c.loop-at.invariant ∙ contents_at-past string_bytes vec_items c.args.names.now c.args.contents.now c.loop-at.at c.args.name.now c.loop-at-test.false)
