use Rattle.std.proofs.Common.{arith}
use Rattle.map_rows.proofs.FileLemmas.{told_long, told_whole}
use Rattle.map_rows.proofs.reading.read_bytes.Goals as goal

pub returns-then-len-gt-MOST-clause-cause : goal.returns-then-len-gt-MOST-clause-cause
returns-then-len-gt-MOST-clause-cause g c =
    (c.in-Ok.ensures.cause.ok, told_long (g.F.Files.contents c.args.files.now) c.args.name.now c.in-Ok.bytes.items c.in-Ok.ensures.found (search arith))

pub returns-else-len-gt-MOST-clause-all : goal.returns-else-len-gt-MOST-clause-all
returns-else-len-gt-MOST-clause-all g c =
    told_whole (g.F.Files.contents c.args.files.now) c.args.name.now c.in-Ok.bytes.items c.in-Ok.ensures.found (search arith)
