use Rattle.std.proofs.Common.{rules}
use Rattle.heap_objects.specs.Cells.{bit_datum, char_datum, int_datum, long_datum, reference_datum}
use Rattle.heap_objects.proofs.CellLemmas.{map_slice_set}
use Rattle.heap_objects.proofs.cells.Cells.put.Goals as goal

pub returns-in-Booleans-clause-data : goal.returns-in-Booleans-clause-data
returns-in-Booleans-clause-data c = rw c.in-Booleans.is (map_slice_set bit_datum c.in-Booleans.v.items c.args.slot _ _ (search rules))

pub returns-in-Chars-clause-data : goal.returns-in-Chars-clause-data
returns-in-Chars-clause-data c = rw c.in-Chars.is (map_slice_set char_datum c.in-Chars.v.items c.args.slot _ _ (search rules))

pub returns-in-Bytes-clause-data : goal.returns-in-Bytes-clause-data
returns-in-Bytes-clause-data c = rw c.in-Bytes.is (map_slice_set int_datum c.in-Bytes.v.items c.args.slot _ _ (search rules))

pub returns-in-Shorts-clause-data : goal.returns-in-Shorts-clause-data
returns-in-Shorts-clause-data c = rw c.in-Shorts.is (map_slice_set int_datum c.in-Shorts.v.items c.args.slot _ _ (search rules))

pub returns-in-Ints-clause-data : goal.returns-in-Ints-clause-data
returns-in-Ints-clause-data c = rw c.in-Ints.is (map_slice_set int_datum c.in-Ints.v.items c.args.slot _ _ (search rules))

pub returns-in-Longs-clause-data : goal.returns-in-Longs-clause-data
returns-in-Longs-clause-data c = rw c.in-Longs.is (map_slice_set long_datum c.in-Longs.v.items c.args.slot _ _ (search rules))

pub returns-in-References-clause-data : goal.returns-in-References-clause-data
returns-in-References-clause-data c = rw c.in-References.is (map_slice_set reference_datum c.in-References.v.items c.args.slot _ _ (search rules))
