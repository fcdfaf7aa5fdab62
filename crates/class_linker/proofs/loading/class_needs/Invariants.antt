-- the needs so far, and those of the entries that are left
use Rattle.std.proofs.Common.{◌≡◌, ◌++◌, true, drop, map}
use Rattle.std.specs.Prelude.{flat_map}
use Rattle.class_linker.specs.States.{need_view, needs_at, needs_in}
use Rattle.class_linker.proofs.loading.class_needs.Given as goal

abbrev pub invariant-loop-entry : goal.invariant-loop-entry
invariant-loop-entry l =
    map need_view l.needs ++ flat_map (needs_at l.file true) (drop l.entry-index l.file.interfaces) ≡ needs_in l.file
