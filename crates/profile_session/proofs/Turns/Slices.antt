-- Steps that tell nothing, slices, and as many steps as are asked for.
use Rattle.std.proofs.Common.{◌≡◌, ℕ, suc, ◌+◌, ◌-◌, ◌<◌, ◌≤◌, Bool, true, false, ◌&&◌, if◌then◌else◌, refl, sym, ap, subst, ◌∙◌, arith}
use Rattle.std.proofs.Math.Bool.{and-false}
use Rattle.jvm_model.specs.Profiling.Revealed.{marks_of}
use Rattle.jvm_model.specs.Soundness.Whole.{IsWhole}
use Rattle.jvm_machine.specs.declared.turn.Turn.{Turn}
use Rattle.jvm_machine.specs.declared.turn.Turn.TheVariants.{Settled}
use Rattle.jvm_machine.specs.Several.{Passes, RunsOn, none, more}
use Rattle.jvm_machine.specs.Turns.{Turns}
use Rattle.jvm_machine.specs.View.{View, IsGoingOn, clock_advanced, step_begun, has_ended, is_resting, world}
use Rattle.profile_session.specs.declared.parts.Parts.{Parts}
use Rattle.profile_session.specs.Advances.{After, Makes, Ran, Sliced, Stays}
use Rattle.profile_session.specs.Parts.{Hears, IsBusy, IsHearable, Rests, kept_in, revealed_in}
use Rattle.profile_session.specs.Standing.{AtRest, next_step, rests, within}
use Rattle.profile_session.specs.Turned.{is_telling}
use Rattle.profile_session.proofs.Turns.Advancing.{after, clock-rises, fits, hearable, same-world, still-of}
use Rattle.profile_session.proofs.Turns.Passing.{passes}
use Rattle.profile_session.proofs.Turns.Turning.{begun-busy, begun-is, turn-went}

-- ---- a turn of the step in hand

pub busy-going : (x : Parts) → IsBusy x → IsGoingOn x.vm
busy-going x busy = ap (λ b. b && has_ended x.vm) busy.busy

pub rest-going : (x : Parts) → has_ended x.vm ≡ false → IsGoingOn x.vm
rest-going x e = ap (λ b. is_resting x.vm && b) e ∙ and-false (is_resting x.vm)

pub busy-clock : (x : Parts) → IsBusy x → (step_begun x.vm).clock ≡ x.vm.clock
busy-clock x busy = ap (λ (v : View). v.clock) (begun-busy x.vm busy.busy)

pub rest-clock : (x : Parts) → Rests x → (step_begun x.vm).clock ≡ next_step x.vm
rest-clock x r = ap (λ (v : View). v.clock) (begun-is x.vm r.stands.resting)

pub turn-hearable : (x : Parts) (v : View) (turn : Turn) → IsBusy x → Turns x.vm turn v → is_telling turn ≡ true → x.vm.clock < 9223372036854775808 → IsHearable (record x { vm = v }) turn
turn-hearable x v turn b t tells below =
    let on = busy-going x b in
    let clock : v.clock ≡ x.vm.clock = (turn-went x.vm v turn on t tells).clock ∙ busy-clock x b in
    hearable x b.delivered v turn b.is b.are (within b.busy b.stands) on t tells (omega (arith, clock, below))

pub turn-after : (x new : Parts) (v : View) (turn : Turn) → IsBusy x → Turns x.vm turn v → is_telling turn ≡ true → Hears (record x { vm = v }) turn new → After x turn new
turn-after x new v turn b t tells h = after x new b.delivered v turn b.is b.are (within b.busy b.stands) (busy-going x b) t tells h

-- ---- steps that tell nothing

pub record Passed (x : Parts) (n : ℕ) (v : View) : Type 0 where
  pub rests : Rests (record x { vm = v })
  pub world_is : world v ≡ world x.vm
  pub next : next_step v ≡ next_step x.vm + n
  pub going : IsGoingOn v

pub passed : (x : Parts) (n : ℕ) (v : View) → Rests x → IsGoingOn x.vm → Passes x.vm n v → Passed x n v
passed x _ _ r on none = record { rests = r; world_is = refl; next = (let e : next_step x.vm ≡ next_step x.vm + 0 = omega arith in e); going = on }
passed x _ _ r on (more n mid v before t) =
    let b = passed x n mid r on before in
    let went = turn-went mid v Settled t.went_on t refl in
    let y : Parts = record x { vm = mid } in
    let same = same-world mid v went in
    let es = b.rests.delivered in
    let up = clock-rises y es v (rests b.rests.stands) went in
    let stands : AtRest x.acts (world mid) es (kept_in x) v = passes (world mid) b.rests.is.whole x.acts b.rests.is.from es (kept_in x) mid v b.rests.stands t in
    let begun_mid : step_begun mid ≡ clock_advanced mid = begun-is mid b.rests.stands.resting in
    let clock : v.clock ≡ next_step mid = went.clock ∙ ap (λ (y : View). y.clock) begun_mid in
    let started : v.started ≡ true = went.started ∙ ap (λ (y : View). y.started) begun_mid in
    let after_next : next_step v ≡ v.clock + 1 = ap (λ b. if b then v.clock + 1 else 0) started in
    record {
      rests = record {
        is = record {
          fit = fits y v b.rests.is.fit went up;
          shown = b.rests.is.shown ∙ ap (λ p. marks_of p (revealed_in x)) (sym went.program);
          whole = subst IsWhole (sym went.program) b.rests.is.whole;
          from = b.rests.is.from;
        };
        delivered = es;
        are = still-of y (record x { vm = v }) es b.rests.is.fit b.rests.are up refl refl;
        stands = subst (λ w. AtRest x.acts w es (kept_in x) v) (sym same) stands;
      };
      world_is = same ∙ b.world_is;
      next = (let up = b.next in let e : next_step v ≡ next_step x.vm + suc n = omega (arith, after_next, clock, up) in e);
      going = ap (λ b. is_resting v && b) t.goes_on ∙ and-false (is_resting v);
    }

pub next-clock : (x : Parts) → next_step x.vm ≤ x.vm.clock + 1
next-clock x = by x.vm.started where
  by : (b : Bool) → (let n : ℕ = if b then x.vm.clock + 1 else 0 in n) ≤ x.vm.clock + 1
  by true = omega arith
  by false = omega arith

-- the step that comes next is none before the clock's
pub clock-next : (x : Parts) → Rests x → x.vm.clock ≤ next_step x.vm
clock-next x r = by x.vm.started r.stands.before_the_run where
  by : (b : Bool) → (b ≡ false → x.vm.clock ≡ 0) → x.vm.clock ≤ (let n : ℕ = if b then x.vm.clock + 1 else 0 in n)
  by true before_the_run = omega arith
  by false before_the_run = let e = before_the_run refl in omega (arith, e)

pub ran-hearable : (x : Parts) (most : ℕ) (turn : Turn) (v : View) → Rests x → IsGoingOn x.vm → RunsOn x.vm most turn v → is_telling turn ≡ true → x.vm.clock + most < 9223372036854775808
    → IsHearable (record x { vm = v }) turn
ran-hearable x most turn v r on runs tells below =
    let b = passed x runs.steps runs.between r on runs.passes in
    let y : Parts = record x { vm = runs.between } in
    let clock : v.clock ≡ next_step runs.between = (turn-went runs.between v turn b.going runs.last tells).clock ∙ rest-clock y b.rests in
    let next = b.next in
    let most_is = runs.within in
    let first = next-clock x in
    hearable y b.rests.delivered v turn b.rests.is b.rests.are (rests b.rests.stands) b.going runs.last tells (omega (arith, clock, next, most_is, first, below))

pub ran : (x new : Parts) (most : ℕ) (turn : Turn) (v : View) → Rests x → IsGoingOn x.vm → RunsOn x.vm most turn v → is_telling turn ≡ true → Hears (record x { vm = v }) turn new → Ran x most turn new
ran x new most turn v r on runs tells h =
    let b = passed x runs.steps runs.between r on runs.passes in
    let y : Parts = record x { vm = runs.between } in
    let next = b.next in
    let most_is = runs.within in
    record {
      between = y;
      rests = b.rests;
      stays = record { world_is = b.world_is; acts = refl };
      low = omega (arith, next);
      high = omega (arith, next, most_is);
      last = after y new b.rests.delivered v turn b.rests.is b.rests.are (rests b.rests.stands) b.going runs.last tells h;
    }

-- ---- from turn to turn

pub then-stays : (a b c : Parts) → Stays a b → Stays b c → Stays a c
then-stays a b c s t = record { world_is = t.world_is ∙ s.world_is; acts = t.acts ∙ s.acts }

-- ---- many slices

pub record Making (first : Parts) (steps last next : ℕ) (x : Parts) : Type 0 where
  pub rests : Rests x
  pub world_is : world x.vm ≡ world first.vm
  pub acts : x.acts ≡ first.acts
  pub going : has_ended x.vm ≡ false
  pub next_is : next ≡ next_step x.vm
  pub later : first.vm.clock ≤ next
  pub last_is : last ≡ first.vm.clock + steps
  pub low : next ≤ last + 1

pub making-first : (x : Parts) (steps last next : ℕ) → Rests x → has_ended x.vm ≡ false → last ≡ x.vm.clock + steps → next ≡ next_step x.vm → Making x steps last next x
making-first x steps last next r going last_is at =
    let up = next-clock x in
    let from = clock-next x r in
    record {
      rests = r;
      world_is = refl;
      acts = refl;
      going = going;
      next_is = at;
      later = omega (arith, at, from);
      last_is = last_is;
      low = omega (arith, at, up, last_is);
    }

pub making-next : (first x new : Parts) (steps last next : ℕ) → Making first steps last next x → next ≤ last → Sliced x (last + 1 - next) false new → Making first steps last (new.vm.clock + 1) new
making-next first x new steps last next m le s =
    let at = m.next_is in
    let high = s.high in
    record {
      rests = s.rests;
      world_is = s.stays.world_is ∙ m.world_is;
      acts = s.stays.acts ∙ m.acts;
      going = s.ended_is;
      next_is = sym (ap (λ b. if b then new.vm.clock + 1 else 0) s.started);
      later = (let l = m.later in let low = s.low in omega (arith, at, l, low));
      last_is = m.last_is;
      low = omega (arith, at, high, le);
    }

pub making-down : (first x new : Parts) (steps last next : ℕ) → Making first steps last next x → next ≤ last → Sliced x (last + 1 - next) false new → last + 1 - (new.vm.clock + 1) < last + 1 - next
making-down first x new steps last next m le s = let at = m.next_is in let low = s.low in omega (arith, at, low, le)

pub making-ends : (first x new : Parts) (steps last next : ℕ) → Making first steps last next x → next ≤ last → Sliced x (last + 1 - next) true new → Makes first steps true new
making-ends first x new steps last next m le s =
    let at = m.next_is in
    let high = s.high in
    let last_is = m.last_is in
    record {
      rests = s.rests;
      world_is = s.stays.world_is ∙ m.world_is;
      acts = s.stays.acts ∙ m.acts;
      ended_is = s.ended_is;
      started = s.started;
      clock = λ no. absurd (let h : true ≡ false = no in cc);
      later = (let l = m.later in let low = s.low in omega (arith, at, l, low));
      within = omega (arith, at, high, last_is, le);
    }

pub making-done : (first x : Parts) (steps last next : ℕ) → Making first steps last next x → last < next → Makes first steps false x
making-done first x steps last next m over = record {
  rests = m.rests;
  world_is = m.world_is;
  acts = m.acts;
  ended_is = m.going;
  started = started x.vm.started refl;
  clock = λ no. clock;
  later = (let c = clock in omega (arith, c));
  within = (let c = clock in omega (arith, c));
} where
  started : (b : Bool) → x.vm.started ≡ b → x.vm.started ≡ true
  started true e = e
  started false e =
      let at : next ≡ 0 = m.next_is ∙ ap (λ b. if b then x.vm.clock + 1 else 0) e in absurd (omega (arith, at, over))

  clock : x.vm.clock ≡ first.vm.clock + steps
  clock =
      let at : next ≡ x.vm.clock + 1 = m.next_is ∙ ap (λ b. if b then x.vm.clock + 1 else 0) (started x.vm.started refl) in
      let last_is = m.last_is in
      let low = m.low in
      omega (arith, at, last_is, low, over)

pub making-below : (first x : Parts) (steps last next : ℕ) → Making first steps last next x → first.vm.clock + steps < 4611686018427387904 → last < 4611686018427387904
making-below first x steps last next m below = let last_is = m.last_is in omega (arith, last_is, below)
