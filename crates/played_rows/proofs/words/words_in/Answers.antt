use Rattle.std.proofs.Common.{rules}
use Rattle.played_rows.proofs.WordLemmas.{word-last, word-more}
use Rattle.played_rows.proofs.words.words_in.Goals as goal

pub loop-word-preserved : goal.loop-word-preserved
loop-word-preserved c =
    let parts = c.in-Some.ensures.byte c.requires (λ w o found. found) in (
      search rules,
      word-more c.args.separator _ _ _ c.loop-word.rest.now _ _ parts.0 parts.1 parts.2
          c.loop-word.invariant.1 c.in_ok-add_word.ensures,
    )

pub returns : goal.returns
returns c =
    word-last c.args.separator _ _ _ c.loop-word.rest.now
    (c.in_default.ensures.byte c.requires (λ w o found. found)) c.loop-word.invariant.1 c.in_ok-add_word-2.ensures
