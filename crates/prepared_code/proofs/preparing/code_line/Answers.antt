-- the instruction ends in the code, which is short
use Rattle.std.proofs.Common.{sym, ◌∙◌, arith}
use Rattle.code_model.proofs.Reading.Readings.{end_of-within}
use Rattle.prepared_code.proofs.preparing.code_line.Goals as goal

pub line_of-requires : goal.line_of-requires
line_of-requires c = omega (arith, end_of-within c.args.code.now c.args.at c.in-Some.instr (sym c.in_ok-found.ensures ∙ c.in-Some.is))
