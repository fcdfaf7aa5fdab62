-- what was read so far is what the files so far give, and their contents stay
use Rattle.std.proofs.Common.{◌≡◌, map, take}
use Rattle.std.specs.String.{string_bytes}
use Rattle.played_rows.specs.Revelation.Files.{AreRead}
use Rattle.played_rows.proofs.revelation.parts.read_files.Given as goal

abbrev pub invariant-loop-path : goal.invariant-loop-path
invariant-loop-path g l =
    (g.F.Files.contents l.files ≡ g.F.Files.contents l.fn.files)
    × AreRead (g.F.Files.contents l.fn.files) (map (λ path. string_bytes path) (take l.path-index l.paths))
    (map (λ c. c.items) l.input.classes.items) (string_bytes l.input.rows)
