use Rattle.std.proofs.Common.{List, ℕ, ◌+◌, take, sym, subst}
use Rattle.std.specs.List.{AllByRecursion}
use Rattle.jf_bytes.proofs.Lists.{each_push}
use Rattle.const_pool.specs.ClassFile.{IsClassFile}
use Rattle.jfluid_cli.specs.Contents.{SpellsAlone, SpellAlone}
use Rattle.jfluid_cli.specs.Stages.{IsUnread}
use Rattle.jfluid_cli.proofs.Reports.Pairs.{zip-more}
use Rattle.jfluid_cli.proofs.Files.Spelled.{unread-at}
use Rattle.jfluid_cli.proofs.loading.read_all.Goals as goal

pub returns-in-Err-clause-errors : goal.returns-in-Err-clause-errors
returns-in-Err-clause-errors c =
    unread-at c.args.contents.now c.loop-at.classes c.loop-at.at c.index-contents-at.result
    c.in-Err.refusal c.loop-at-test.true c.index-contents-at.is c.loop-at.invariant.read
    (subst (λ (bytes : List ℕ). IsUnread bytes c.loop-at.at c.in-Err.refusal) c.as_slice.ensures
    c.in-Err.ensures.errors)

pub loop-at-preserved : goal.loop-at-preserved
loop-at-preserved c = record {
  read = subst (SpellAlone (take (c.loop-at.at + 1) c.args.contents.now)) (sym c.in-Ok-push.ensures.items)
      (zip-more SpellsAlone c.args.contents.now c.loop-at.classes c.loop-at.at
      c.index-contents-at.result c.in-Ok.class c.loop-at-test.true c.index-contents-at.is
      c.loop-at.invariant.read
      (subst (λ (bytes : List ℕ). SpellsAlone bytes c.in-Ok.class) c.as_slice.ensures
      c.in-Ok.ensures.found));
  formed = subst (AllByRecursion IsClassFile) (sym c.in-Ok-push.ensures.items)
      (each_push IsClassFile c.loop-at.classes c.in-Ok.class c.loop-at.invariant.formed
      c.in-Ok.ensures.formed);
}
