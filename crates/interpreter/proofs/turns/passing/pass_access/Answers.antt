use Rattle.prepared_code.specs.Originals.{setup_in}
use Rattle.interpreter.proofs.Silent.PassingSteps.{access-passes}
use Rattle.interpreter.proofs.turns.passing.pass_access.Goals as goal

pub returns : goal.returns
returns c =
    let w = setup_in c.args.parts.now.runtime c.args.originals.now in
    let p = c.args.parts.now in
    access-passes w c.requires.run c.args.initializing.now c.args.here c.args.line.now c.args.reference.now p c.requires.here c.requires.line c.requires.named c.requires.at_instruction
    c.pass_field.ensures.loads c.pass_field.result c.pass_field.new.frames c.pass_field.new.self c.pass_field.ensures.passed
