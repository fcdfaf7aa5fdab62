-- the classes so far, and those that are still to come
use Rattle.std.proofs.Common.{◌≡◌, ◌++◌, drop}
use Rattle.std.specs.Prelude.{filter_map}
use Rattle.class_index.specs.Indices.{class_of_entry, interfaces_in}
use Rattle.class_index.proofs.index.Index.interfaces_in.Given as goal

abbrev pub invariant-loop-entry : goal.invariant-loop-entry
invariant-loop-entry l =
    l.classes ++ filter_map (class_of_entry l.self l.file) (drop l.entry-index l.file.interfaces) ≡ interfaces_in l.self l.file
