-- No turn of a machine changes its program or its input, and none of a whole machine says that it was broken.
use Rattle.std.proofs.Common.{◌≡◌, ◌≢◌, ℕ, Bool, true, false, ◌&&◌, if◌then◌else◌, refl, sym, ap, subst, ◌∙◌}
use Rattle.jvm_machine.specs.declared.turn.Turn.{Turn}
use Rattle.jvm_machine.specs.declared.turn.Turn.TheVariants.{Settled, Loaded, Probe, Ended, Broken, NoMemory}
use Rattle.jvm_machine.specs.Several.{Passes, RunsOn, none, more}
use Rattle.jvm_machine.specs.Turns.{Refuses, Turns, after_last}
use Rattle.jvm_machine.specs.View.{View, clock_advanced, step_begun, has_ended, is_resting, step_rested, world}

begun-world : (v : View) → world (step_begun v) ≡ world v
begun-world v = by (is_resting v) where
  by : (b : Bool) → world (let y : View = if b then clock_advanced v else v in y) ≡ world v
  by true = refl
  by false = refl

last-world : (v : View) → world (after_last v) ≡ world v
last-world v = by (is_resting v && has_ended v) where
  by : (b : Bool) → world (let y : View = if b then v else step_rested (step_begun v) in y) ≡ world v
  by true = refl
  by false = begun-world v

pub turn-world : (old new : View) (turn : Turn) → Turns old turn new → world new ≡ world old
turn-world old new Settled t = ap world t.stepped ∙ begun-world old
turn-world old new (Loaded classes) t = ap world t.stepped ∙ begun-world old
turn-world old new (Probe event) t = ap world t.stepped ∙ begun-world old
turn-world old new Ended t = ap world t.stepped ∙ last-world old
turn-world old new Broken t = ap world t.same
turn-world old new NoMemory t = ap world t.stepped ∙ begun-world old

passes-world : (old : View) (n : ℕ) (new : View) → Passes old n new → world new ≡ world old
passes-world old _ _ none = refl
passes-world old _ _ (more n mid new before t) = ap world t.stepped ∙ (begun-world mid ∙ passes-world old n mid before)

pub run-world : (old new : View) (most : ℕ) (turn : Turn) → RunsOn old most turn new → world new ≡ world old
run-world old new most turn r = turn-world r.between new turn r.last ∙ passes-world old r.steps r.between r.passes

-- ---- it was whole

begun-broken : (v : View) → (step_begun v).broken ≡ v.broken
begun-broken v = by (is_resting v) where
  by : (b : Bool) → (let y : View = if b then clock_advanced v else v in y).broken ≡ v.broken
  by true = refl
  by false = refl

passes-whole : (old : View) (n : ℕ) (new : View) → old.broken ≡ false → Passes old n new → new.broken ≡ false
passes-whole old _ _ whole none = whole
passes-whole old _ _ whole (more n mid new before t) = ap (λ (v : View). v.broken) t.stepped ∙ (begun-broken mid ∙ t.whole)

pub turn-whole : (old new : View) (turn : Turn) → old.broken ≡ false → Turns old turn new → turn ≢ Broken
turn-whole old new turn whole t = λ is.
    let r : Refuses old new = subst (λ turn. Turns old turn new) is t in
    let h : true ≡ false = sym r.broken ∙ whole in
    absurd cc

pub run-whole : (old new : View) (most : ℕ) (turn : Turn) → old.broken ≡ false → RunsOn old most turn new → turn ≢ Broken
run-whole old new most turn whole r = turn-whole r.between new turn (passes-whole old r.steps r.between whole r.passes) r.last
