use Rattle.std.proofs.Common.{◌≡◌, ◌+◌, ◌∷◌, drop, ap, sym, subst, ◌∙◌}
use Rattle.std.proofs.lemmas.List.{drop_more}
use Rattle.call_revelation.specs.Books.{HasMore, use_of, with_noted, with_uses}
use Rattle.call_revelation.proofs.References.BookLemmas.{more-then, noted-more}
use Rattle.call_revelation.proofs.book.note_uses.Goals as goal

pub loop-at-preserved : goal.loop-at-preserved
loop-at-preserved c =
    let p = c.args.linker.now.program in
    let xs = c.args.references.now in
    let at = c.loop-at.at in
    let x = c.index-references-at.result in
    let behind : drop at xs ≡ x ∷ drop (at + 1) xs = drop_more xs at x c.loop-at-test.true ∙ ap (λ y. y ∷ drop (at + 1) xs) (sym c.index-references-at.is) in
    let new : c.note_one.new.lists ≡ with_noted p c.args.calls (use_of c.args.caller at) x c.loop-at.lists = c.in_ok-note_one.ensures in (
      ap (λ l. with_uses p c.args.calls c.args.caller (at + 1) (drop (at + 1) xs) l) new
          ∙ (sym (ap (λ l. with_uses p c.args.calls c.args.caller at l c.loop-at.lists) behind) ∙ c.loop-at.invariant.0),
      more-then c.args.lists.now c.loop-at.lists c.note_one.new.lists c.loop-at.invariant.1
          (subst (HasMore c.loop-at.lists) (sym new) (noted-more p c.args.calls (use_of c.args.caller at) x c.loop-at.lists)),
    )
