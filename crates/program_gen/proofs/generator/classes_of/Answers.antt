-- One class more.
use Rattle.program_gen.proofs.GeneratedClasses.{next-classes, next-formed, next-state}
use Rattle.program_gen.proofs.generator.classes_of.Goals as goal

pub loop-number-preserved : goal.loop-number-preserved
loop-number-preserved c = (
  next-classes c.args.seed c.args.size c.loop-number.number c.loop-number.state _ _ _ _ _ c.loop-number.invariant.0 c.in_ok-push-2.ensures.items c.in_ok-class_of-2.ensures.class
      c.in_ok-row.ensures.row c.draw_choices-choices.ensures.choices c.loop-number.invariant.2,
  next-formed _ _ _ c.loop-number.invariant.1 c.in_ok-push-2.ensures.items c.in_ok-class_of-2.ensures.formed,
  next-state c.args.seed c.loop-number.number _ _ c.loop-number.invariant.2 c.draw_choices-choices.ensures.next,
  c.draw_choices-choices.ensures.narrow,
)
