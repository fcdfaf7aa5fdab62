-- How many pieces a text has.
use Rattle.std.proofs.Common.{◌≡◌, ℕ, ◌+◌, ◌≤◌, List, length, map, ap, arith}
use Rattle.std.specs.Borrow.{Bor}
use Rattle.std.specs.List.{slice_split}
use Rattle.std.proofs.lemmas.List.{length-map}
use Rattle.std.proofs.lemmas.List.Sums.{count_by-le-length}
use Rattle.std.proofs.lemmas.List.Splits.{length-slice_split}
use Rattle.plan_text.specs.Lines.{is_feed}

-- one more than it has bytes, at most
pub pieces-few : (text : List ℕ) (pieces : List (Bor (List ℕ))) → map (λ p. p.now) pieces ≡ slice_split is_feed text → length pieces ≤ length text + 1
pieces-few text pieces same = omega (arith, length-map pieces (λ p. p.now), ap length same, length-slice_split is_feed text, count_by-le-length is_feed text)
