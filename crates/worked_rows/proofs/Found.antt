-- Lines that are looked for where none is left.
use Rattle.std.proofs.Common.{◌≡◌, ◌≤◌, ℕ, List, [], ◌∷◌, length, drop, map, refl, ap, ◌∙◌, Bor}
use Rattle.std.proofs.Math.ListN.{drop_of_length-le}
use Rattle.worked_rows.specs.Answers.{found_lines}

found_none : (wanted : List (List ℕ)) → found_lines wanted [] ≡ 0
found_none [] = refl
found_none (line ∷ more) = refl

-- behind the last line that came nothing more is found
pub found_at_end : (wanted : List (List ℕ)) (came : List (Bor (List ℕ))) (at : ℕ) → length came ≤ at → found_lines wanted (map (λ line. line.now) (drop at came)) ≡ 0
found_at_end wanted came at h = ap (λ t. found_lines wanted (map (λ line. line.now) t)) (drop_of_length-le came h) ∙ found_none wanted
