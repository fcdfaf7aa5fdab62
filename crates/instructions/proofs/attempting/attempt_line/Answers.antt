use Rattle.std.proofs.Common.{sym, ap, subst, ◌∙◌}
use Rattle.std.specs.Option.{IfSome}
use Rattle.jvm_model.specs.Soundness.Sound.{IsPrimitiveArray}
use Rattle.prepared_lines.specs.declared.line.Line.{Line}
use Rattle.prepared_code.specs.Initializations.{state_of}
use Rattle.prepared_code.specs.Originals.{setup_in}
use Rattle.instructions.specs.Acts.{IfNewarray}
use Rattle.instructions.proofs.Initializing.Beneath.{breaks-there, done-there}
use Rattle.instructions.proofs.Moves.Sounded.{array-primitive}
use Rattle.instructions.proofs.attempting.attempt_line.Goals as goal

pub returns-in_default-clause-state : goal.returns-in_default-clause-state
returns-in_default-clause-state c =
    ap (state_of c.args.initializing.now) c.break_off.ensures
    ∙ breaks-there (setup_in c.args.parts.now.runtime c.args.originals.now) c.args.initializing.now c.args.parts.now c.args.here c.requires.here c.requires.executing (sym (c.in_default.ensures.kept ∙ c.requires.ready c.args.here.place))

pub returns-clause-state : goal.returns-clause-state
returns-clause-state c =
    done-there (setup_in c.args.parts.now.runtime c.args.originals.now) c.args.initializing.now c.args.parts.now c.act_beneath.result c.act_beneath.new.parts c.in-Some.line.now c.args.here c.requires.here
    c.requires.executing c.in-Some.ensures.line c.act_beneath.ensures.state

pub act_beneath-requires-clause-arrays : goal.act_beneath-requires-clause-arrays
act_beneath-requires-clause-arrays c =
    subst (λ o. IfSome o (λ (line : Line). IfNewarray line.operation IsPrimitiveArray)) c.in-Some.ensures.line
    (array-primitive (setup_in c.args.parts.now.runtime c.args.originals.now) c.args.initializing.now c.args.parts.now c.args.here c.requires.fit c.requires.sound c.requires.here c.requires.executing)
