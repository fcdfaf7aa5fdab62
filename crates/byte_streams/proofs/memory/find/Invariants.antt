use Rattle.std.proofs.Common.{◌≡◌, map, drop, vec_items, string_bytes}
use Rattle.std.specs.List.{zip}
use Rattle.byte_streams.specs.Streams.{contents_at}
use Rattle.byte_streams.proofs.memory.find.Given as goal

-- what is left decides
abbrev pub invariant-loop-at : goal.invariant-loop-at
invariant-loop-at l =
    let files = zip (map string_bytes l.names) (map vec_items l.contents) in
    contents_at files l.name ≡ contents_at (drop l.at files) l.name
