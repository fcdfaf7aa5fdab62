use Rattle.std.proofs.Common.{◌+◌, None, ap, drop, map, sym, ◌∙◌}
use Rattle.std.specs.Prelude.{if◌then◌else◌}
use Rattle.played_rows.specs.Revelation.Reading.{marks_with}
use Rattle.played_rows.proofs.RevelationLemmas.MarkLemmas.{marked}
use Rattle.played_rows.proofs.revelation.reading.marks_of.Goals as goal

pub returns-then-not-is_marked : goal.returns-then-not-is_marked
returns-then-not-is_marked c =
    let next = marks_with c.args.program.now c.mark_one.new.marks.items
    (map (λ w. w.now) (drop (c.loop-word.word-index + 1) c.args.words.now)) in
    ap (λ is. if is then next else None) (sym c.if-not-is_marked.true)
    ∙ (sym (marked c.args.program.now c.loop-word.marks.items c.args.words.now c.loop-word.word-index _ c.loop-word-test.true
    c.mark_one.new.marks.items c.in_ok-is_marked.is_marked c.in_ok-is_marked.ensures)
    ∙ c.loop-word.invariant)

pub loop-word-preserved : goal.loop-word-preserved
loop-word-preserved c =
    let next = marks_with c.args.program.now c.mark_one.new.marks.items
    (map (λ w. w.now) (drop (c.loop-word.word-index + 1) c.args.words.now)) in
    ap (λ is. if is then next else None) (sym c.if-not-is_marked.false)
    ∙ (sym (marked c.args.program.now c.loop-word.marks.items c.args.words.now c.loop-word.word-index _ c.loop-word-test.true
    c.mark_one.new.marks.items c.in_ok-is_marked.is_marked c.in_ok-is_marked.ensures)
    ∙ c.loop-word.invariant)
