-- the classes that are left are still to be loaded
use Rattle.std.proofs.Common.{◌≡◌, drop}
use Rattle.prepared_code.specs.Prepared.{load_built_in}
use Rattle.prepared_code.proofs.loading.load_built_in.Given as goal

abbrev pub invariant-loop-class : goal.invariant-loop-class
invariant-loop-class l = record {
  program : l.linker.program ≡ l.fn.linker.program;
  loaded : load_built_in l.fn.linker.program (drop l.class l.fn.linker.program.classes) l.linker.loaded
      ≡ load_built_in l.fn.linker.program l.fn.linker.program.classes l.fn.linker.loaded;
}
