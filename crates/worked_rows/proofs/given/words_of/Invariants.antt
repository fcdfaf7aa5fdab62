use Rattle.std.proofs.Common.{◌≡◌, ◌∷◌, take, map}
use Rattle.std.specs.Prelude.{codes}
use Rattle.worked_rows.proofs.given.words_of.Given as goal

abbrev pub invariant-loop-line : goal.invariant-loop-line
invariant-loop-line l = l.words ≡ codes "jfluid" ∷ map (λ x. x.now) (take l.line-index l.line-items)
