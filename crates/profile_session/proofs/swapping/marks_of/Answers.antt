use Rattle.std.proofs.Common.{◌≡◌, ap, sym, ◌∙◌, ◌++◌, ◌∷◌, [], List, arith, map}
use Rattle.std.specs.List.{range_with_len}
use Rattle.std.proofs.lemmas.List.FromFn.{map-range_with_len_more}
use Rattle.jvm_model.specs.declared.event.Mark.{Mark}
use Rattle.call_revelation.specs.Reveals.{now_of}
use Rattle.profile_session.specs.Swapping.{mark_at_position}
use Rattle.profile_session.proofs.swapping.marks_of.Goals as goal

pub loop-position-preserved : goal.loop-position-preserved
loop-position-preserved c =
    c.in_ok-push.ensures.items
    ∙ (ap (λ (mark : Mark). c.loop-position.marks.items ++ mark ∷ []) c.mark_at_position.ensures
    ∙ (ap (λ (marks : List Mark). marks ++ mark_at_position c.args.program.now (now_of c.args.reveal.now) c.args.class c.loop-position.position ∷ [])
    c.loop-position.invariant
    ∙ sym (map-range_with_len_more
    (mark_at_position c.args.program.now (now_of c.args.reveal.now) c.args.class) 0 c.loop-position.position c.loop-position.position (omega arith))))

pub returns : goal.returns
returns c =
    let over = c.loop-position-test.false in
    let within = c.loop-position.auto.position-end in
    let same : c.loop-position.position ≡ c.args.count = omega (arith, over, within) in
    c.loop-position.invariant ∙ ap (λ n. map (mark_at_position c.args.program.now (now_of c.args.reveal.now) c.args.class) (range_with_len 0 n)) same
