use Rattle.prepared_code.specs.Originals.{setup_in}
use Rattle.interpreter.proofs.Silent.PassingLengths.{length-passes}
use Rattle.interpreter.proofs.turns.passing.pass_measure.Goals as goal

pub returns : goal.returns
returns c =
    length-passes (setup_in c.args.parts.now.runtime c.args.originals.now) c.requires.run c.args.initializing.now c.args.here c.args.line.now c.args.parts.now c.pass_length.new.parts c.pass_length.result
    c.requires.here c.requires.line c.requires.measures c.requires.at_instruction c.pass_length.ensures.gone c.pass_length.ensures.kept
