use Rattle.std.proofs.Common.{rules}
use Rattle.heap_objects.specs.Cells.{bit_datum, char_datum, int_datum, long_datum, reference_datum}
use Rattle.heap_objects.proofs.CellLemmas.{map_filled}
use Rattle.heap_objects.proofs.cells.Cells.make.Goals as goal

pub returns-in_ok-cells_filled-in-Boolean-clause-data : goal.returns-in_ok-cells_filled-in-Boolean-clause-data
returns-in_ok-cells_filled-in-Boolean-clause-data c =
    map_filled bit_datum c.args.len _ _ _ c.in_ok-cells_filled-in-Boolean.ensures (search rules)

pub returns-in_ok-cells_filled-in-Char-clause-data : goal.returns-in_ok-cells_filled-in-Char-clause-data
returns-in_ok-cells_filled-in-Char-clause-data c =
    map_filled char_datum c.args.len _ _ _ c.in_ok-cells_filled-in-Char.ensures (search rules)

pub returns-in_ok-cells_filled-in-Byte-clause-data : goal.returns-in_ok-cells_filled-in-Byte-clause-data
returns-in_ok-cells_filled-in-Byte-clause-data c =
    map_filled int_datum c.args.len _ _ _ c.in_ok-cells_filled-in-Byte.ensures (search rules)

pub returns-in_ok-cells_filled-in-Short-clause-data : goal.returns-in_ok-cells_filled-in-Short-clause-data
returns-in_ok-cells_filled-in-Short-clause-data c =
    map_filled int_datum c.args.len _ _ _ c.in_ok-cells_filled-in-Short.ensures (search rules)

pub returns-in_ok-cells_filled-in-Int-clause-data : goal.returns-in_ok-cells_filled-in-Int-clause-data
returns-in_ok-cells_filled-in-Int-clause-data c =
    map_filled int_datum c.args.len _ _ _ c.in_ok-cells_filled-in-Int.ensures (search rules)

pub returns-in_ok-cells_filled-in-Long-clause-data : goal.returns-in_ok-cells_filled-in-Long-clause-data
returns-in_ok-cells_filled-in-Long-clause-data c =
    map_filled long_datum c.args.len _ _ _ c.in_ok-cells_filled-in-Long.ensures (search rules)

pub returns-in_ok-cells_filled-in-Reference-clause-data : goal.returns-in_ok-cells_filled-in-Reference-clause-data
returns-in_ok-cells_filled-in-Reference-clause-data c =
    map_filled reference_datum c.args.len _ _ _ c.in_ok-cells_filled-in-Reference.ensures (search rules)
