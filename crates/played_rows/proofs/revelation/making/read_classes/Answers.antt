use Rattle.const_pool.specs.ClassFile.{IsClassFile}
use Rattle.class_reader.specs.Files.{IsFile}
use Rattle.played_rows.proofs.RevelationLemmas.JudgingLemmas.{formed-more, none-made, zip-next}
use Rattle.played_rows.proofs.revelation.making.read_classes.Goals as goal

pub loop-bytes-preserved : goal.loop-bytes-preserved
loop-bytes-preserved c = (
  formed-more IsClassFile _ _ _ c.loop-bytes.invariant.0 c.in-Ok.ensures.formed c.in-Ok-push.ensures.items,
  zip-next IsFile (λ f. f.items) c.args.files.now c.loop-bytes.bytes-index c.bytes-item.result _ _ _ _ _ c.loop-bytes-test.true c.bytes-item.is
      c.deref.ensures.value c.loop-bytes.invariant.1 c.in-Ok.ensures.read c.in-Ok-push.ensures.items,
)

pub returns-in-Err-clause-unread : goal.returns-in-Err-clause-unread
returns-in-Err-clause-unread c =
    none-made (λ f. f.items) c.args.files.now c.loop-bytes.bytes-index c.bytes-item.result _ _ c.in-Err.error c.loop-bytes-test.true c.bytes-item.is
    c.deref.ensures.value c.in-Err.ensures.unread
