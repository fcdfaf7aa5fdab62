-- Names that are looked up in a table, and spaces.
use Rattle.std.proofs.Common.{◌≡◌, ℕ, ◌+◌, ◌++◌, ◌∷◌, replicate, append_assoc, List, [], ap, ◌∙◌, arith}
use Rattle.std.proofs.lemmas.List.{replicate-append-replicate}

-- two spaces more
pub two_spaces : (o x y : List ℕ) (n : ℕ) → x ≡ o ++ replicate (n + n) 32 → y ≡ x ++ 32 ∷ 32 ∷ [] → y ≡ o ++ replicate (n + 1 + (n + 1)) 32
two_spaces o x y n p q =
    q ∙ ap (λ t. t ++ 32 ∷ 32 ∷ []) p ∙ append_assoc o (replicate (n + n) 32) (32 ∷ 32 ∷ [])
    ∙ ap (λ t. o ++ t) (replicate-append-replicate (n + n) 2 32) ∙ ap (λ k. o ++ replicate k 32) (omega arith)
