-- with what is left of the methods
use Rattle.std.proofs.Common.{◌≡◌, ◌++◌, drop}
use Rattle.prepared_code.specs.ClassVersions.{versions_from}
use Rattle.prepared_code.proofs.class_versions.versions_of.Given as goal

abbrev pub invariant-loop-at : goal.invariant-loop-at
invariant-loop-at l =
    l.versions ++ versions_from l.program l.class l.image l.homes l.at (drop l.at l.file.methods)
    ≡ versions_from l.program l.class l.image l.homes 0 l.file.methods
