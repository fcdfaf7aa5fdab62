-- Lines put one behind the other.
use Rattle.std.proofs.Common.{◌≡◌, ℕ, suc, ◌+◌, ◌-◌, ◌<◌, List, [], ◌∷◌, ◌++◌, Option, Some, None, refl, ap, sym, ◌∙◌, arith}
use Rattle.std.specs.Option.{option_and_then, option_map}
use Rattle.std.proofs.lemmas.List.{append_assoc}
use Rattle.played_rows.specs.declared.machine.line.Line.{Line}
use Rattle.played_rows.specs.declared.machine.saying.Said.{Said}
use Rattle.played_rows.specs.Machine.Reading.{of_clocks, said_behind, so_often}

-- ---- clocks

next-clock : (lines : ℕ → List Line) (end clock : ℕ) → clock < end
    → of_clocks lines (end - clock) clock ≡ lines clock ++ of_clocks lines (end - (clock + 1)) (clock + 1)
next-clock lines end clock less =
    let more : end - clock ≡ suc (end - (clock + 1)) = omega (arith, less) in
    ap (λ n. of_clocks lines n clock) more

-- what one clock has is put
pub clock-put : (lines : ℕ → List Line) (old new all : List Line) (end clock : ℕ) → clock < end → new ≡ old ++ lines clock
    → old ++ of_clocks lines (end - clock) clock ≡ all → new ++ of_clocks lines (end - (clock + 1)) (clock + 1) ≡ all
clock-put lines old new all end clock less put before =
    ap (λ ls. ls ++ of_clocks lines (end - (clock + 1)) (clock + 1)) put
    ∙ (append_assoc old (lines clock) (of_clocks lines (end - (clock + 1)) (clock + 1))
    ∙ (ap (λ ls. old ++ ls) (sym (next-clock lines end clock less)) ∙ before))

-- two lines are put
pub two-put : (old mid new : List Line) (a b : Line) → mid ≡ old ++ a ∷ [] → new ≡ mid ++ b ∷ [] → new ≡ old ++ a ∷ b ∷ []
two-put old mid new a b first second = second ∙ (ap (λ ls. ls ++ b ∷ []) first ∙ append_assoc old (a ∷ []) (b ∷ []))

-- ---- the same so many times

behind-both : (first then_said : Said) (rest : Option Said)
    → option_map (said_behind (record { lines = first.lines ++ then_said.lines; next = then_said.next })) rest
    ≡ option_map (said_behind first) (option_map (said_behind then_said) rest)
behind-both first then_said None = refl
behind-both first then_said (Some rest) =
    ap (λ ls. Some (record { lines = ls; next = rest.next })) (append_assoc first.lines then_said.lines rest.lines)

-- it is said once more
pub once-more : (says : ℕ → Option Said) (left next : ℕ) (old new : List Line) (said : Said) (all : Option Said) → 0 < left → says next ≡ Some said
    → new ≡ old ++ said.lines → option_map (said_behind (record { lines = old; next = next })) (so_often says left next) ≡ all
    → option_map (said_behind (record { lines = new; next = said.next })) (so_often says (left - 1) said.next) ≡ all
once-more says left next old new said all some is put before =
    let more : left ≡ suc (left - 1) = omega (arith, some) in
    let old_said : Said = record { lines = old; next = next } in
    ap (λ ls. option_map (said_behind (record { lines = ls; next = said.next })) (so_often says (left - 1) said.next)) put
    ∙ (behind-both old_said said (so_often says (left - 1) said.next)
    ∙ (ap (λ o. option_map (said_behind old_said) (option_and_then (λ first. option_map (said_behind first) (so_often says (left - 1) first.next)) o)) (sym is)
    ∙ (ap (λ n. option_map (said_behind old_said) (so_often says n next)) (sym more) ∙ before)))

-- it says nothing
pub once-none : (says : ℕ → Option Said) (left next : ℕ) (old : List Line) (all : Option Said) → 0 < left → says next ≡ None
    → option_map (said_behind (record { lines = old; next = next })) (so_often says left next) ≡ all → None ≡ all
once-none says left next old all some is before =
    let more : left ≡ suc (left - 1) = omega (arith, some) in
    let old_said : Said = record { lines = old; next = next } in
    ap (λ o. option_map (said_behind old_said) (option_and_then (λ first. option_map (said_behind first) (so_often says (left - 1) first.next)) o)) (sym is)
    ∙ (ap (λ n. option_map (said_behind old_said) (so_often says n next)) (sym more) ∙ before)
