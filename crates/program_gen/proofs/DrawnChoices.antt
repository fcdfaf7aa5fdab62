-- What is drawn from state to state is what the places of the draws decide.
use Rattle.std.proofs.Common.{◌≡◌, ℕ, zero, suc, ◌+◌, ◌*◌, ◌%◌, refl, ap, ◌∙◌, arith}
use Rattle.program_gen.specs.declared.rows.ClassName.{ClassName}
use Rattle.program_gen.specs.declared.rows.Choices.{Choices}
use Rattle.program_gen.specs.Draws.{next_state, number_of, state_at, draw_at, superclass_of, choices_of}
use Rattle.program_gen.specs.Chains.{state_above, superclass_from, state_behind, choices_from}

-- how many draws there were before those of a class
abbrev pub draws_before : ℕ → ℕ
draws_before zero = 0
draws_before (suc i) = 5 * i + 4

state_at-add : (seed k more : ℕ) → state_at (state_at seed k) more ≡ state_at seed (more + k)
state_at-add seed k zero = ap (state_at seed) (omega arith)
state_at-add seed k (suc more) =
    ap next_state (state_at-add seed k more) ∙ ap (state_at seed) (let e : suc (more + k) ≡ suc more + k = omega arith in e)

above-at : (seed i : ℕ) → state_above (state_at seed (draws_before i)) i ≡ state_at seed (5 * i)
above-at seed zero = refl
above-at seed (suc i) = ap (state_at seed) (let e : suc (5 * i + 4) ≡ 5 * suc i = omega arith in e)

draw-from : (seed i place : ℕ) → draw_at (state_above (state_at seed (draws_before i)) i) place ≡ draw_at seed (5 * i + place)
draw-from seed i place =
    ap (λ x. draw_at x place) (above-at seed i) ∙ ap (λ x. number_of (next_state x)) (state_at-add seed (5 * i) place)
    ∙ ap (draw_at seed) (let e : place + 5 * i ≡ 5 * i + place = omega arith in e)

superclass-drawn : (seed i : ℕ) → superclass_from (state_at seed (draws_before i)) i ≡ superclass_of seed i
superclass-drawn seed zero = refl
superclass-drawn seed (suc i) = refl

made_of : ClassName → ℕ → ℕ → ℕ → ℕ → Choices
made_of s l f a r = record { superclass = s; left = l; factor = f; addend = a; right = r }

pub choices-drawn : (seed size i : ℕ) → choices_from (state_at seed (draws_before i)) size i ≡ choices_of seed size i
unfolding made_of
choices-drawn seed size i =
    let x = state_above (state_at seed (draws_before i)) i in
    let first : draw_at x 0 ≡ draw_at seed (5 * i) = draw-from seed i 0 ∙ ap (draw_at seed) (let e : 5 * i + 0 ≡ 5 * i = omega arith in e) in
    ap (λ s. made_of s (draw_at x 0 % size) (draw_at x 1) (draw_at x 2) (draw_at x 3 % size)) (superclass-drawn seed i)
    ∙ ap (λ d. made_of (superclass_of seed i) (d % size) (draw_at x 1) (draw_at x 2) (draw_at x 3 % size)) first
    ∙ ap (λ d. made_of (superclass_of seed i) (draw_at seed (5 * i) % size) d (draw_at x 2) (draw_at x 3 % size)) (draw-from seed i 1)
    ∙ ap (λ d. made_of (superclass_of seed i) (draw_at seed (5 * i) % size) (draw_at seed (5 * i + 1)) d (draw_at x 3 % size)) (draw-from seed i 2)
    ∙ ap (λ d. made_of (superclass_of seed i) (draw_at seed (5 * i) % size) (draw_at seed (5 * i + 1)) (draw_at seed (5 * i + 2)) (d % size)) (draw-from seed i 3)

pub state-drawn : (seed i : ℕ) → state_behind (state_at seed (draws_before i)) i ≡ state_at seed (draws_before (i + 1))
state-drawn seed i =
    ap (λ x. state_at x 4) (above-at seed i) ∙ state_at-add seed (5 * i) 4
    ∙ ap (state_at seed) (let e : 4 + 5 * i ≡ draws_before (suc i) = omega arith in e)
    ∙ ap (λ k. state_at seed (draws_before k)) (let e : suc i ≡ i + 1 = omega arith in e)
