use Rattle.class_linker.proofs.LoadedClassLemmas.{put_loaded_classes}
use Rattle.class_linker.proofs.loading.put_loaded_class.Goals as goal

pub returns-clause-rows : goal.returns-clause-rows
returns-clause-rows c =
    put_loaded_classes c.args.index.now c.args.rows.now c.args.class c.requires.rows c.requires.none c.requires.within c.requires.interfaces c.requires.above
    c.args.row c.set.new.self c.requires.made c.set.ensures
