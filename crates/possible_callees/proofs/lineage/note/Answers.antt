use Rattle.std.proofs.Common.{◌≡◌, ◌+◌, drop, get_or, ap, sym, subst, ◌∙◌}
use Rattle.std.proofs.lemmas.List.{drop_more}
use Rattle.possible_callees.specs.Lineages.{IsNoted, class_noted}
use Rattle.possible_callees.specs.Tables.{with_item}
use Rattle.possible_callees.proofs.Classes.LineageLemmas.{among-get, noted-more}
use Rattle.possible_callees.proofs.lineage.note.Goals as goal

pub loop-above-preserved : goal.loop-above-preserved
loop-above-preserved c =
    let xs = c.args.classes.now in
    let i = c.loop-above.above-index in
    let x = get_or xs i 0 in
    let new : c.add_item.new.lists ≡ with_item x c.args.class c.loop-above.lists = c.in_ok-add_item.ensures in (
      ap (λ l. class_noted c.args.class l (drop (i + 1) xs)) new
          ∙ (sym (ap (class_noted c.args.class c.loop-above.lists) (drop_more xs i 0 c.loop-above-test.true)) ∙ c.loop-above.invariant.0),
      subst (IsNoted c.args.class xs c.args.lists.now) (sym new)
          (noted-more c.args.class xs c.args.lists.now c.loop-above.lists x (among-get xs i c.loop-above-test.true) c.loop-above.invariant.1),
    )
