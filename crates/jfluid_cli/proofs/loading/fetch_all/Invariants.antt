-- the fronts so far were fetched, and no fetch failed
use Rattle.std.proofs.Common.{◌≡◌, take}
use Rattle.command_line.specs.Words.{texts}
use Rattle.jfluid_cli.specs.Contents.{AreFetched}
use Rattle.jfluid_cli.specs.Sinks.{files_view}
use Rattle.jfluid_cli.proofs.loading.fetch_all.Given as goal

abbrev pub invariant-loop-at : goal.invariant-loop-at
invariant-loop-at g l = record {
  fetched : AreFetched (g.F.Files.contents l.fn.files) (take l.at (texts l.names)) l.all;
  stay : g.F.Files.contents l.files ≡ g.F.Files.contents l.fn.files;
  without_fault :
      files_view (g.F.Files.faults l.files) (g.F.Files.last_failed l.files)
      ≡ files_view (g.F.Files.faults l.fn.files) (g.F.Files.last_failed l.fn.files);
}
