use Rattle.const_pool.specs.ClassFile.{class_bytes}
use Rattle.generated_programs.proofs.Contents.{one-more}
use Rattle.generated_programs.proofs.admitting.contents_of.Goals as goal

pub loop-class-preserved : goal.loop-class-preserved
loop-class-preserved c =
    one-more class_bytes c.args.classes.now c.loop-class.class-index c.class-item.result _ _ _ c.loop-class-test.true c.class-item.is c.loop-class.invariant c.in_ok-push.ensures.items
    c.in_ok-bytes_of.ensures
