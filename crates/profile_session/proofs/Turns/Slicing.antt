-- A slice: several steps, and what is left to be told of them.
use Rattle.std.proofs.Common.{◌≡◌, ℕ, zero, suc, ◌+◌, ◌-◌, ◌<◌, ◌≤◌, Bool, true, false, length, Some, None, Result, Ok, Err, refl, sym, ap, subst, ◌∙◌, arith}
use Rattle.std.specs.Prelude.{MatchResult}
use Rattle.std.specs.Result.{IsErr}
use Rattle.jvm_model.specs.Basis.Data.{World}
use Rattle.jvm_machine.specs.declared.turn.Turn.{Turn}
use Rattle.jvm_machine.specs.declared.turn.Turn.TheVariants.{Settled, Loaded, Probe, Ended, Broken, NoMemory}
use Rattle.jvm_machine.specs.Several.{RunsOn}
use Rattle.jvm_machine.specs.View.{View, IsGoingOn, events_left, is_resting, step_begun, world}
use Rattle.profile_session.specs.declared.parts.Parts.{Parts}
use Rattle.profile_session.specs.Advances.{After, Finished, Goes, GoesBusily, IsReady, Ran, RanFrom, RanOn, Sliced, Stays, at_once, at_rest, ended_by, from_rest, from_step, in_step, later}
use Rattle.profile_session.specs.Keeping.{is_idle}
use Rattle.profile_session.specs.Parts.{Hears, IsBusy, IsHearable, Rests, kept_in}
use Rattle.profile_session.specs.Standing.{next_step}
use Rattle.profile_session.specs.Turned.{is_telling}
use Rattle.profile_session.proofs.Turns.Busy.{busy-hearable, busy-ran, changes_of, left-falls, left-later, left-short, left_in, left_of, mid-clock}
use Rattle.profile_session.proofs.Turns.Slices.{busy-clock, clock-next, ran, ran-hearable, rest-clock, then-stays}
use Rattle.profile_session.proofs.Turns.Turning.{begun-busy}

-- ---- several steps, and one turn more

pub ready-whole : (x : Parts) → IsReady x → x.vm.broken ≡ false
ready-whole x (at_rest r on) = r.is.fit.whole
ready-whole x (in_step busy profiles) = busy.is.fit.whole

pub ready-hearable : (x : Parts) (most : ℕ) (t : Turn) (v : View) → IsReady x → is_telling t ≡ true → x.vm.clock + most < 9223372036854775808 → RunsOn x.vm most t v
    → IsHearable (record x { vm = v }) t
ready-hearable x most t v (at_rest r on) tells below runs = ran-hearable x most t v r on runs tells below
ready-hearable x most t v (in_step busy profiles) tells below runs = busy-hearable x most t v busy profiles tells below runs

pub ready-ran : (x new : Parts) (most : ℕ) (t : Turn) (v : View) → IsReady x → is_telling t ≡ true → x.vm.clock + most < 9223372036854775808 → RunsOn x.vm most t v
    → Hears (record x { vm = v }) t new → RanFrom x most t new
ready-ran x new most t v (at_rest r on) tells below runs h = from_rest r (ran x new most t v r on runs tells h)
ready-ran x new most t v (in_step busy profiles) tells below runs h = from_step busy (busy-ran x most t v busy profiles tells below new runs h)

-- ---- how much is left of a slice

-- where no step is in hand, that of the step which comes next, and of those behind it
abbrev pub left_by : Bool → ℕ → View → ℕ
left_by true last v = suc (changes_of (world v) (next_step v)) + left_of (world v) (next_step v) (last - next_step v)
left_by false last v = left_in last v

left-further : (w : World) (n m last : ℕ) → n ≤ m → m ≤ last
    → suc (changes_of w m) + left_of w m (last - m) ≤ suc (changes_of w n) + left_of w n (last - n)
left-further w n m last low high = by (m - n) (omega (arith, low)) where
  by : (gap : ℕ) → n + gap ≡ m → suc (changes_of w m) + left_of w m (last - m) ≤ suc (changes_of w n) + left_of w n (last - n)
  by zero same = subst (λ k. suc (changes_of w m) + left_of w m (last - m) ≤ suc (changes_of w k) + left_of w k (last - k)) (let e : m ≡ n = omega (arith, same) in e) (omega arith)
  by (suc d) same =
      let k : ℕ = last - m in
      let at : n + 1 + d ≡ m = omega (arith, same) in
      let all : suc (d + k) ≡ last - n = omega (arith, same, high) in
      let bound = left-later w n d k in
      let there : suc (changes_of w m) + left_of w m k ≤ left_of w n (last - n) =
      subst (λ c. suc (changes_of w c) + left_of w c k ≤ left_of w n (last - n)) at
      (subst (λ j. suc (changes_of w (n + 1 + d)) + left_of w (n + 1 + d) k ≤ left_of w n j) all bound) in
      omega (arith, there)

-- ---- from turn to turn

-- within a step of the slice
pub record Along (first : Parts) (last : ℕ) (x : Parts) : Type 0 where
  pub busy : IsBusy x
  pub stays : Stays first x
  pub low : next_step first.vm ≤ x.vm.clock
  pub high : x.vm.clock ≤ last

-- no step of it is in hand
pub record Starts (first : Parts) (last most : ℕ) (x : Parts) : Type 0 where
  pub rests : Rests x
  pub going : IsGoingOn x.vm
  pub stays : Stays first x
  pub next : next_step x.vm ≡ next_step first.vm
  pub all : next_step x.vm + most ≡ last + 1
  pub some : 0 < most

pub data Slicing (first : Parts) (last most : ℕ) (x : Parts) : Type 0 where
  starts : Starts first last most x → Slicing first last most x
  goes_on : Along first last x → is_idle (kept_in x).seen ≡ false → x.vm.clock + most ≡ last + 1 → Slicing first last most x

pub slicing-first : (x : Parts) (next last : ℕ) → Rests x → IsGoingOn x.vm → next ≡ next_step x.vm → next ≤ last → Slicing x last (last + 1 - next) x
slicing-first x next last r on at some = starts (record {
  rests = r;
  going = on;
  stays = record { world_is = refl; acts = refl };
  next = refl;
  all = omega (arith, at, some);
  some = omega (arith, some);
})

pub slicing-ready : (first x : Parts) (last most : ℕ) → Slicing first last most x → IsReady x
slicing-ready first x last most (starts s) = at_rest s.rests s.going
slicing-ready first x last most (goes_on a profiles all) = in_step a.busy profiles

pub slicing-world : (first x : Parts) (last most : ℕ) → Slicing first last most x → world x.vm ≡ world first.vm
slicing-world first x last most (starts s) = s.stays.world_is
slicing-world first x last most (goes_on a profiles all) = a.stays.world_is

pub slicing-some : (first x : Parts) (last most : ℕ) → Slicing first last most x → 0 < most
slicing-some first x last most (starts s) = s.some
slicing-some first x last most (goes_on a profiles all) = let high = a.high in omega (arith, all, high)

pub slicing-below : (first x : Parts) (last most : ℕ) → Slicing first last most x → last < 4611686018427387904 → x.vm.clock + most < 9223372036854775808
slicing-below first x last most (starts s) below =
    let up = clock-next x s.rests in
    let all = s.all in
    omega (arith, up, all, below)
slicing-below first x last most (goes_on a profiles all) below = omega (arith, all, below)

-- ---- the last turn of several steps

finished-in : (y new : Parts) (t : Turn) (ended : Bool) → ended_by t ≡ Some ended → After y t new → Finished y ended new
finished-in y new Settled ended e f = let is : false ≡ ended = cc in subst (λ b. Finished y b new) is f
finished-in y new Ended ended e f = let is : true ≡ ended = cc in subst (λ b. Finished y b new) is f
finished-in y new (Loaded classes) ended e f = absurd cc
finished-in y new (Probe event) ended e f = absurd cc
finished-in y new Broken ended e f = absurd cc
finished-in y new NoMemory ended e f = absurd cc

goes-in : (y new : Parts) (t : Turn) → ended_by t ≡ None → After y t new → Goes y new
goes-in y new Settled e f = absurd cc
goes-in y new Ended e f = absurd cc
goes-in y new (Loaded classes) e f = f.goes
goes-in y new (Probe event) e f = f.goes
goes-in y new Broken e impossible = absurd impossible
goes-in y new NoMemory e impossible = absurd impossible

-- one event less is left of the step in hand
fewer-left : (x new : Parts) (t : Turn) → IsBusy x → ended_by t ≡ None → After x t new → length (events_left new.vm) < length (events_left x.vm)
fewer-left x new Settled busy e f = absurd cc
fewer-left x new Ended busy e f = absurd cc
fewer-left x new (Loaded classes) busy e f = absurd (let h : true ≡ false = sym f.first ∙ busy.busy in cc)
fewer-left x new (Probe event) busy e f =
    let fewer : suc (length (events_left new.vm)) ≡ length (events_left x.vm) = f.fewer ∙ ap (λ (v : View). length (events_left v)) (begun-busy x.vm busy.busy) in omega (arith, fewer)
fewer-left x new Broken busy e impossible = absurd impossible
fewer-left x new NoMemory busy e impossible = absurd impossible

-- the step in hand goes on, and less of it is left
left-fewer : (x new : Parts) (last : ℕ) → IsBusy x → Goes x new → length (events_left new.vm) < length (events_left x.vm) → left_in last new.vm < left_in last x.vm
left-fewer x new last busy g fewer =
    let at : new.vm.clock ≡ x.vm.clock = g.clock ∙ busy-clock x busy in
    let rest : left_of (world new.vm) new.vm.clock (last - new.vm.clock) ≡ left_of (world x.vm) x.vm.clock (last - x.vm.clock) =
    ap (λ w. left_of w new.vm.clock (last - new.vm.clock)) g.stays.world_is ∙ ap (λ c. left_of (world x.vm) c (last - c)) at in
    omega (arith, fewer, rest)

-- the state in which it is made, and that less is left where the run goes on within a step
record LastTurn (first : Parts) (last : ℕ) (x : Parts) (t : Turn) (new : Parts) : Type 0 where
  at : Parts
  stays : Stays first at
  low : next_step first.vm ≤ (step_begun at.vm).clock
  high : (step_begun at.vm).clock ≤ last
  after : After at t new
  down : Goes at new → ended_by t ≡ None → left_in last new.vm < left_by (is_resting x.vm) last x.vm

pub record Onward (first : Parts) (last : ℕ) (x new : Parts) : Type 0 where
  pub along : Along first last new
  pub down : left_in last new.vm < left_by (is_resting x.vm) last x.vm

module _ (first : Parts) (last most : ℕ) (x new : Parts) (t : Turn) where
  rest-falls : Starts first last most x → (r : Ran x most t new) → Goes r.between new → left_in last new.vm < left_by true last x.vm
  rest-falls s r g =
      let at : new.vm.clock ≡ next_step r.between.vm = g.clock ∙ rest-clock r.between r.rests in
      let same : world new.vm ≡ world x.vm = g.stays.world_is ∙ r.stays.world_is in
      let low = r.low in
      let high = r.high in
      let all = s.all in
      let bound = left-further (world x.vm) (next_step x.vm) new.vm.clock last (omega (arith, at, low)) (omega (arith, at, high, all)) in
      let short : length (events_left new.vm) ≤ changes_of (world x.vm) new.vm.clock = subst (λ w. length (events_left new.vm) ≤ changes_of w new.vm.clock) same (left-short new.vm) in
      let rest : left_of (world new.vm) new.vm.clock (last - new.vm.clock) ≡ left_of (world x.vm) new.vm.clock (last - new.vm.clock) =
      ap (λ w. left_of w new.vm.clock (last - new.vm.clock)) same in
      omega (arith, bound, short, rest)

  turn-from-rest : Starts first last most x → Ran x most t new → LastTurn first last x t new
  turn-from-rest s r =
      let at : (step_begun r.between.vm).clock ≡ next_step r.between.vm = rest-clock r.between r.rests in
      let low = r.low in
      let high = r.high in
      let next = s.next in
      let all = s.all in
      record {
        at = r.between;
        stays = then-stays first x r.between s.stays r.stays;
        low = omega (arith, at, low, next);
        high = omega (arith, at, high, all);
        after = r.last;
        down = λ g none. subst (λ b. left_in last new.vm < left_by b last x.vm) (sym s.rests.stands.resting) (rest-falls s r g);
      }

  turn-from-step : Along first last x → x.vm.clock + most ≡ last + 1 → RanOn x most t new → LastTurn first last x t new
  turn-from-step a all (at_once f) =
      let at : (step_begun x.vm).clock ≡ x.vm.clock = busy-clock x a.busy in
      let low = a.low in
      let high = a.high in
      record {
        at = x;
        stays = a.stays;
        low = omega (arith, at, low);
        high = omega (arith, at, high);
        after = f;
        down = λ g none. subst (λ b. left_in last new.vm < left_by b last x.vm) (sym a.busy.busy) (left-fewer x new last a.busy g (fewer-left x new t a.busy none f));
      }
  turn-from-step a all (later mid f r) =
      let at : (step_begun r.between.vm).clock ≡ next_step r.between.vm = rest-clock r.between r.rests in
      let next = (mid-clock x mid a.busy f).1 in
      let from = a.low in
      let to = a.high in
      let low = r.low in
      let high = r.high in
      record {
        at = r.between;
        stays = then-stays first mid r.between (then-stays first x mid a.stays f.stays) r.stays;
        low = omega (arith, at, next, from, low);
        high = omega (arith, at, next, high, all, to);
        after = r.last;
        down = λ g none. subst (λ b. left_in last new.vm < left_by b last x.vm) (sym a.busy.busy) (
            let there : new.vm.clock ≡ next_step r.between.vm = g.clock ∙ at in
            left-falls x.vm new.vm last (g.stays.world_is ∙ (r.stays.world_is ∙ f.stays.world_is)) (omega (arith, there, next, low)) (omega (arith, there, next, high, all, to)));
      }

  last-turn : Slicing first last most x → RanFrom x most t new → LastTurn first last x t new
  last-turn (starts s) (from_rest r ran) = turn-from-rest s ran
  last-turn (starts s) (from_step busy ran) = absurd (let h : true ≡ false = sym s.rests.stands.resting ∙ busy.busy in cc)
  last-turn (goes_on a profiles all) (from_rest r ran) = absurd (let h : true ≡ false = sym r.stands.resting ∙ a.busy.busy in cc)
  last-turn (goes_on a profiles all) (from_step busy ran) = turn-from-step a all ran

  pub slicing-done : (next : ℕ) → next ≡ next_step first.vm → next ≤ last → Slicing first last most x → RanFrom x most t new → (ended : Bool) → ended_by t ≡ Some ended
      → Sliced first (last + 1 - next) ended new
  slicing-done next is some s ran ended e =
      let l = last-turn s ran in
      let f = finished-in l.at new t ended e l.after in
      let clock = f.clock in
      let low = l.low in
      let high = l.high in
      record {
        stays = then-stays first l.at new l.stays f.stays;
        rests = f.rests;
        ended_is = f.ended_is;
        started = f.started;
        low = omega (arith, clock, low);
        high = omega (arith, clock, high, is, some);
      }

  pub slicing-on : Slicing first last most x → RanFrom x most t new → ended_by t ≡ None → Onward first last x new
  slicing-on s ran e =
      let l = last-turn s ran in
      let g = goes-in l.at new t e l.after in
      let clock = g.clock in
      let low = l.low in
      let high = l.high in
      record {
        along = record { busy = g.busy; stays = then-stays first l.at new l.stays g.stays; low = omega (arith, clock, low); high = omega (arith, clock, high) };
        down = l.down g e;
      }

-- what an error says, where it is handed on
pub err-matches : {A E : Type 0} (r : Result A E) (P : A → Type 0) (Q : Type 0) → IsErr r → Q → MatchResult r P (λ e. Q)
err-matches (Ok x) P Q is h = absurd (let no : false ≡ true = is in cc)
err-matches (Err e) P Q is h = h

-- ---- behind a turn where nothing was selected

pub along-done : (first x new : Parts) (next last : ℕ) (ended : Bool) → next ≡ next_step first.vm → next ≤ last → Along first last x → Finished x ended new → Sliced first (last + 1 - next) ended new
along-done first x new next last ended is some a f =
    let at : new.vm.clock ≡ x.vm.clock = f.clock ∙ busy-clock x a.busy in
    let low = a.low in
    let high = a.high in
    record {
      stays = then-stays first x new a.stays f.stays;
      rests = f.rests;
      ended_is = f.ended_is;
      started = f.started;
      low = omega (arith, at, low);
      high = omega (arith, at, high, is, some);
    }

pub onward-busily : (first x mid new : Parts) (last : ℕ) → Onward first last x mid → GoesBusily mid new → Onward first last x new
onward-busily first x mid new last o b =
    let g = b.goes in
    let at : new.vm.clock ≡ mid.vm.clock = g.clock ∙ busy-clock mid o.along.busy in
    let low = o.along.low in
    let high = o.along.high in
    let fewer = b.left in
    let down = o.down in
    let rest : left_of (world new.vm) new.vm.clock (last - new.vm.clock) ≡ left_of (world mid.vm) mid.vm.clock (last - mid.vm.clock) =
    ap (λ w. left_of w new.vm.clock (last - new.vm.clock)) g.stays.world_is ∙ ap (λ c. left_of (world mid.vm) c (last - c)) at in
    record {
      along = record { busy = g.busy; stays = then-stays first mid new o.along.stays g.stays; low = omega (arith, at, low); high = omega (arith, at, high) };
      down = omega (arith, fewer, rest, down);
    }

-- the slice goes on
pub slicing-next : (first x mid new : Parts) (last now : ℕ) → Onward first last x mid → GoesBusily mid new → now ≡ new.vm.clock → Slicing first last (last + 1 - now) new
slicing-next first x mid new last now o b at =
    let a = (onward-busily first x mid new last o b).along in
    let high = a.high in
    goes_on a b.profiles (omega (arith, at, high))

pub slicing-down : (first x mid new : Parts) (last : ℕ) → Onward first last x mid → GoesBusily mid new → left_by (is_resting new.vm) last new.vm < left_by (is_resting x.vm) last x.vm
slicing-down first x mid new last o b =
    let on = onward-busily first x mid new last o b in subst (λ b. left_by b last new.vm < left_by (is_resting x.vm) last x.vm) (sym on.along.busy.busy) on.down

-- ---- turns of a step in hand

pub record Turning (first x : Parts) : Type 0 where
  pub busy : IsBusy x
  pub stays : Stays first x
  pub clock : x.vm.clock ≡ (step_begun first.vm).clock
  pub left : length (events_left x.vm) ≤ length (events_left first.vm)

pub turning-first : (x : Parts) → IsBusy x → Turning x x
turning-first x busy = record { busy = busy; stays = record { world_is = refl; acts = refl }; clock = sym (busy-clock x busy); left = omega arith }

pub turning-busily : (first x : Parts) → Turning first x → is_idle (kept_in x).seen ≡ false → GoesBusily first x
turning-busily first x d profiles = record { goes = record { stays = d.stays; busy = d.busy; clock = d.clock }; profiles = profiles; left = d.left }

pub turning-done : (first x new : Parts) (t : Turn) (ended : Bool) → Turning first x → ended_by t ≡ Some ended → After x t new → Finished first ended new
turning-done first x new t ended d e after =
    let f = finished-in x new t ended e after in
    record {
      stays = then-stays first x new d.stays f.stays;
      rests = f.rests;
      ended_is = f.ended_is;
      clock = f.clock ∙ (busy-clock x d.busy ∙ d.clock);
      started = f.started;
    }

pub turning-fewer : (first x new : Parts) (t : Turn) → Turning first x → ended_by t ≡ None → After x t new → length (events_left new.vm) < length (events_left x.vm)
turning-fewer first x new t d e after = fewer-left x new t d.busy e after

pub turning-next : (first x new : Parts) (t : Turn) → Turning first x → ended_by t ≡ None → After x t new → Turning first new
turning-next first x new t d e after =
    let g = goes-in x new t e after in
    let fewer = fewer-left x new t d.busy e after in
    let left = d.left in
    record {
      busy = g.busy;
      stays = then-stays first x new d.stays g.stays;
      clock = g.clock ∙ (busy-clock x d.busy ∙ d.clock);
      left = omega (arith, fewer, left);
    }
