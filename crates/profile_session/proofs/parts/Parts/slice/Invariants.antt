use Rattle.jvm_machine.specs.View.{is_resting}
use Rattle.profile_session.proofs.Turns.Slicing.{Slicing, left_by}
use Rattle.profile_session.proofs.parts.Parts.slice.Given as goal

abbrev pub invariant-loop-turn : goal.invariant-loop-turn
invariant-loop-turn l = Slicing l.fn.self l.last l.most l.self

abbrev pub decreases-loop-turn : goal.decreases-loop-turn
decreases-loop-turn l = left_by (is_resting l.self.vm) l.last l.self.vm
