-- the words that are left are put behind those that are there
use Rattle.std.proofs.Common.{◌≡◌, ◌++◌, length, map}
use denote.Shadow.{shadow}
use denote.Text.{Utf8}
use Rattle.played_rows.specs.Words.{words_in}
use Rattle.played_rows.proofs.words.words_in.Given as goal

abbrev pub invariant-loop-word : goal.invariant-loop-word
invariant-loop-word l =
    shadow (Utf8 l.rest)
    × (map (λ w. w.now) l.words.items ++ words_in l.separator l.rest ≡ words_in l.separator l.text)

abbrev pub decreases-loop-word : goal.decreases-loop-word
decreases-loop-word l = length l.rest
