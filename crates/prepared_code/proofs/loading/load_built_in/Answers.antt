use Rattle.std.proofs.Common.{◌<◌, ◌∙◌, length, rules}
use Rattle.prepared_code.proofs.Initializing.BuiltInLoads.{loads-more}
use Rattle.prepared_code.proofs.loading.load_built_in.Goals as goal

pub loop-class-preserved : goal.loop-class-preserved
loop-class-preserved c =
    let within : c.loop-class.class < length c.args.linker.now.program.classes = search rules in
    record {
      program = c.in_ok-load_if_built_in.ensures.program ∙ c.loop-class.invariant.program;
      loaded = loads-more c.args.linker.now.program c.loop-class.linker.program c.loop-class.class c.loop-class.linker.loaded
          c.load_if_built_in.new.linker.loaded _ c.loop-class.invariant.program within c.in_ok-load_if_built_in.ensures.loaded
          c.loop-class.invariant.loaded;
    }
