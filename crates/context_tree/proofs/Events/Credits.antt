-- Credits add up: a credit between two events changes nothing of what the tree is behind them.
use Rattle.std.proofs.Common.{◌≡◌, ℕ, ◌+◌, ◌-◌, ◌≤◌, Bool, true, false, List, [], ◌∷◌, map, refl, sym, ap, ap₂, ◌∙◌, arith}
use Rattle.std.proofs.lemmas.Bool.{cond-true, cond-false}
use Rattle.jvm_model.specs.declared.event.Event.{Event}
use Rattle.jvm_model.specs.Profiling.Paths.{Context}
use Rattle.context_tree.specs.Profiles.{Profile, steps_credited, has_path, event_taken, event_told, with_own}

own-twice : (path : List ℕ) (a b : ℕ) (c : Context) → with_own path b (with_own path a c) ≡ with_own path (a + b) c
own-twice path a b c = by (has_path path c) refl where
  by : (t : Bool) → has_path path c ≡ t → with_own path b (with_own path a c) ≡ with_own path (a + b) c
  by true e =
      let sums : (c.own + a) + b ≡ c.own + (a + b) = omega arith in
      ap (with_own path b) (cond-true (has_path path c) (record c { own = c.own + a }) c e)
      ∙ (cond-true (has_path path c) (record c { own = (c.own + a) + b }) (record c { own = c.own + a }) e
      ∙ (ap (λ n. record c { own = n }) sums ∙ sym (cond-true (has_path path c) (record c { own = c.own + (a + b) }) c e)))
  by false e =
      ap (with_own path b) (cond-false (has_path path c) (record c { own = c.own + a }) c e)
      ∙ (cond-false (has_path path c) (record c { own = c.own + b }) c e
      ∙ sym (cond-false (has_path path c) (record c { own = c.own + (a + b) }) c e))

all-twice : (path : List ℕ) (a b : ℕ) (cs : List Context) → map (with_own path b) (map (with_own path a) cs) ≡ map (with_own path (a + b)) cs
all-twice path a b [] = refl
all-twice path a b (c ∷ cs) = ap₂ ◌∷◌ (own-twice path a b c) (all-twice path a b cs)

-- up to a clock, and then up to a later one
pub credits-add : (clock later : ℕ) (p : Profile) → p.clock ≤ clock → clock ≤ later → steps_credited later (steps_credited clock p) ≡ steps_credited later p
credits-add clock later p le on =
    let sums : (clock - p.clock) + (later - clock) ≡ later - p.clock = omega arith in
    ap (λ cs. record p { contexts = cs; clock = later })
    (all-twice p.open (clock - p.clock) (later - clock) p.contexts ∙ ap (λ n. map (with_own p.open n) p.contexts) sums)

pub credit-unseen : (clock : ℕ) (p : Profile) (e : Event) → p.clock ≤ clock → clock ≤ e.clock → event_taken (steps_credited clock p) e ≡ event_taken p e
credit-unseen clock p e le on = ap (event_told e.kind e.method) (credits-add clock e.clock p le on)
