-- A step that is settled by one turn is one more of several.
use Rattle.std.proofs.Common.{◌≡◌, ℕ, suc, ◌+◌, ◌-◌, ◌≤◌, Bool, true, false, if◌then◌else◌, refl, sym, ap, subst, arith}
use Rattle.jvm_machine.specs.View.{View, step_begun, is_resting}
use Rattle.jvm_machine.specs.declared.turn.Turn.{Turn}
use Rattle.jvm_machine.specs.declared.turn.Turn.TheVariants.{Settled, Loaded, Probe, Ended, Broken, NoMemory}
use Rattle.jvm_machine.specs.Several.{EndsBehind, Passes, RunsOn, is_settled, more, none}
use Rattle.jvm_machine.specs.Turns.{Settles, Turns}

pub settled-is : (t : Turn) → is_settled t ≡ true → t ≡ Settled
settled-is Settled e = refl
settled-is (Loaded classes) e = absurd (let h : false ≡ true = e in cc)
settled-is (Probe event) e = absurd (let h : false ≡ true = e in cc)
settled-is Ended e = absurd (let h : false ≡ true = e in cc)
settled-is Broken e = absurd (let h : false ≡ true = e in cc)
settled-is NoMemory e = absurd (let h : false ≡ true = e in cc)

begun-clock : (v : View) → (step_begun v).clock ≤ v.clock + 1
begun-clock v = by (is_resting v) v.started where
  by : (a b : Bool) → (let x : View = if a then record v { started = true; clock = if b then v.clock + 1 else 0 } else v in x).clock ≤ v.clock + 1
  by true true = omega arith
  by true false = omega arith
  by false b = omega arith

pub settles-clock : (old new : View) → Settles old new → new.clock ≤ old.clock + 1
settles-clock old new is = subst (λ (v : View). v.clock ≤ old.clock + 1) (sym is.stepped) (begun-clock old)

pub passes-clock : (old new : View) (n : ℕ) → Passes old n new → new.clock ≤ old.clock + n
passes-clock old _ _ none = omega arith
passes-clock old _ _ (more n mid new before last) =
    let up = settles-clock mid new last in
    let rest = passes-clock old mid n before in
    omega (arith, up, rest)

pub one-more : (first old new : View) (n : ℕ) (t : Turn) → Passes first n old → Turns old t new → is_settled t ≡ true → Passes first (suc n) new × Settles old new
one-more first old new n t passes turns e = let s = subst (λ t. Turns old t new) (settled-is t e) turns in (more n old new passes s, s)

pub settles-rests : (old new : View) → Settles old new → is_resting new ≡ true
settles-rests old new is = ap is_resting is.stepped

-- several steps that told nothing, and then several more
pub passes-more : (first mid new : View) (n m : ℕ) → Passes first n mid → Passes mid m new → Passes first (n + m) new
passes-more first mid _ n _ before none =
    let same : n ≡ n + 0 = omega arith in
    subst (λ k. Passes first k mid) same before
passes-more first mid new n _ before (more m between _ passes last) =
    let same : suc (n + m) ≡ n + suc m = omega arith in
    subst (λ k. Passes first k new) same (more (n + m) between new (passes-more first mid between n m before passes) last)

-- and then one whose turn answers
pub runs-on : (first mid between new : View) (n m most : ℕ) (t : Turn) → Passes first n mid → Passes mid m between → Turns between t new → n + m + 1 ≤ most → (is_settled t ≡ true → n + m + 1 ≡ most)
    → RunsOn first most t new
runs-on first mid between new n m most t before passes turns within all = record {
  steps = n + m;
  between = between;
  passes = passes-more first mid between n m before passes;
  last = turns;
  within = omega (arith, within);
  all = λ settled. let last = all (ap is_settled settled) in omega (arith, last);
}

-- ---- from a step in hand

-- one turn answers
pub one-turn : (old new : View) (most : ℕ) (t : Turn) → Turns old t new → 1 ≤ most → (is_settled t ≡ true → 1 ≡ most) → RunsOn old most t new
one-turn old new most t turns some all = record {
  steps = 0;
  between = old;
  passes = none;
  last = turns;
  within = omega (arith, some);
  all = λ settled. all (ap is_settled settled);
}

-- the step in hand is settled by one turn, and then it goes on
pub first-more : (old mid new : View) (most : ℕ) (t : Turn) → Settles old mid → RunsOn mid (most - 1) t new → 1 ≤ most → RunsOn old most t new
first-more old mid new most t first runs some =
    let within = runs.within in
    record {
      steps = 1 + runs.steps;
      between = runs.between;
      passes = passes-more old mid runs.between 1 runs.steps (more 0 old mid none first) runs.passes;
      last = runs.last;
      within = omega (arith, within);
      all = λ settled. let last = runs.all settled in omega (arith, last, some);
    }

-- and then so many more and a turn
pub ends-on : (old new : View) (n most : ℕ) (t : Turn) → EndsBehind old n t new → n + 2 ≤ most → (is_settled t ≡ true → n + 2 ≡ most) → RunsOn old most t new
ends-on old new n most t is within all =
    runs-on old is.first is.behind.between new 1 n most t (more 0 old is.first none is.ends) is.behind.passes is.behind.last (omega (arith, within))
    (λ settled. let last = all settled in omega (arith, last))

-- and several more
pub ends-more : (old mid new : View) (n most : ℕ) (t : Turn) → EndsBehind old n Settled mid → RunsOn mid (most - (n + 2)) t new → n + 2 ≤ most → RunsOn old most t new
ends-more old mid new n most t is runs within =
    let behind = is.behind in
    let upto = passes-more old is.first behind.between 1 n (more 0 old is.first none is.ends) behind.passes in
    let last = more (1 + n) behind.between mid upto behind.last in
    let inner = runs.within in
    record {
      steps = suc (1 + n) + runs.steps;
      between = runs.between;
      passes = passes-more old mid runs.between (suc (1 + n)) runs.steps last runs.passes;
      last = runs.last;
      within = omega (arith, inner, within);
      all = λ settled. let all = runs.all settled in omega (arith, all, within);
    }

pub ends-clock : (old new : View) (n : ℕ) → EndsBehind old n Settled new → new.clock ≤ old.clock + (n + 2)
ends-clock old new n is =
    let first = settles-clock old is.first is.ends in
    let between = passes-clock is.first is.behind.between n is.behind.passes in
    let last = settles-clock is.behind.between new is.behind.last in
    omega (arith, first, between, last)
