-- What is made of a row that fits is a class file.
use Rattle.program_gen.proofs.MadeClasses.{class-holds, result-formed}
use Rattle.program_gen.proofs.making.class_of.Goals as goal

pub make_class-requires-clause-gaps : goal.make_class-requires-clause-gaps
make_class-requires-clause-gaps c = (class-holds c.args.row.now c.requires).gaps

pub make_class-requires-clause-count : goal.make_class-requires-clause-count
make_class-requires-clause-count c = (class-holds c.args.row.now c.requires).count

pub returns-clause-formed : goal.returns-clause-formed
returns-clause-formed c = result-formed c.make_class.result c.args.row.now c.make_class.ensures (class-holds c.args.row.now c.requires)
