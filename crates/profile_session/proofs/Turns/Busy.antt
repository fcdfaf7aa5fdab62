-- Steps from a step in hand, and how much is left to be told of them.
use Rattle.std.proofs.Common.{◌≡◌, ℕ, zero, suc, ◌+◌, ◌-◌, ◌<◌, ◌≤◌, Bool, true, false, List, [], ◌∷◌, length, if◌then◌else◌, refl, ap, subst, ◌∙◌, length-append, arith}
use Rattle.std.proofs.lemmas.List.{length-drop}
use Rattle.jvm_model.specs.declared.event.EventKind.{EventKind}
use Rattle.jvm_model.specs.declared.event.EventKind.TheVariants as kind
use Rattle.jvm_model.specs.declared.event.Mark.{Mark}
use Rattle.jvm_model.specs.declared.event.Mark.TheVariants.{Off, Plain, Root}
use Rattle.jvm_model.specs.Basis.Data.{Change, Loads, Began, Left, Unwound, World}
use Rattle.jvm_model.specs.Profiling.EventLists.{begin_events, end_events}
use Rattle.jvm_model.specs.Rewriting.StandsFor.{mark_at}
use Rattle.jvm_model.specs.Running.Run.{turn}
use Rattle.jvm_model.specs.Turns.Pauses.{told_from}
use Rattle.jvm_model.specs.Turns.Told.{Held, change_told, changes_told, end_told, held_after}
use Rattle.jvm_machine.specs.declared.turn.Turn.{Turn}
use Rattle.jvm_machine.specs.declared.turn.Turn.TheVariants.{Settled}
use Rattle.jvm_machine.specs.Several.{Passes, RunsOn, none, more}
use Rattle.jvm_machine.specs.Turns.{Settles, Turns}
use Rattle.jvm_machine.specs.View.{View, events_left, to_come, world}
use Rattle.profile_session.specs.declared.parts.Parts.{Parts}
use Rattle.profile_session.specs.Advances.{Finished, RanOn, at_once, later}
use Rattle.profile_session.specs.Keeping.{is_idle}
use Rattle.profile_session.specs.Parts.{Hears, IsBusy, IsHearable, kept_in}
use Rattle.profile_session.specs.Standing.{next_step}
use Rattle.profile_session.specs.Turned.{is_telling}
use Rattle.profile_session.proofs.Turns.Hearing.{hears-still}
use Rattle.profile_session.proofs.Turns.Slices.{busy-clock, ran, ran-hearable, rest-going, turn-after, turn-hearable}

-- ---- the first of several steps

record First (old : View) (n : ℕ) (new : View) : Type 0 where
  mid : View
  first : Settles old mid
  rest : Passes mid n new

first-of : (old new : View) (n : ℕ) → Passes old (suc n) new → First old n new
first-of old _ _ (more zero mid new none s) = record { mid = new; first = s; rest = none }
first-of old _ _ (more (suc n) mid new before s) =
    let f = first-of old mid n before in record { mid = f.mid; first = f.first; rest = more n mid new f.rest s }

-- where something is selected or a path is open, the session does nothing behind the end of a step
settled-still : (x : Parts) (v : View) → IsBusy x → is_idle (kept_in x).seen ≡ false → Settles x.vm v → x.vm.clock < 9223372036854775808 → Finished x false (record x { vm = v })
settled-still x v busy profiles s below =
    let h = turn-hearable x v Settled busy s refl below in
    turn-after x (record x { vm = v }) v Settled busy s refl (hears-still (record x { vm = v }) h.fit h.shown profiles)

-- the run goes on from there, by so many turns less
runs-from : (old new : View) (most n : ℕ) (between : View) (t : Turn) → Passes old n between → Turns between t new → suc (suc n) ≤ most → (t ≡ Settled → suc (suc n) ≡ most)
    → RunsOn old (most - 1) t new
runs-from old new most n between t passes turns within all = record {
  steps = n;
  between = between;
  passes = passes;
  last = turns;
  within = omega (arith, within);
  all = λ settled. let e = all settled in omega (arith, e);
}

pub mid-clock : (x mid : Parts) → IsBusy x → Finished x false mid → (mid.vm.clock ≡ x.vm.clock) × (next_step mid.vm ≡ x.vm.clock + 1)
mid-clock x mid busy f =
    let same : mid.vm.clock ≡ x.vm.clock = f.clock ∙ busy-clock x busy in (same, ap (λ b. if b then mid.vm.clock + 1 else 0) f.started ∙ ap (λ n. n + 1) same)

module _ (x : Parts) (most : ℕ) (t : Turn) (v : View) (busy : IsBusy x) (profiles : is_idle (kept_in x).seen ≡ false) (tells : is_telling t ≡ true)
    (below : x.vm.clock + most < 9223372036854775808) where
  below-now : 1 ≤ most → x.vm.clock < 9223372036854775808
  below-now some = omega (arith, below, some)

  heard-by : (n : ℕ) (between : View) → Passes x.vm n between → Turns between t v → suc n ≤ most → (t ≡ Settled → suc n ≡ most) → IsHearable (record x { vm = v }) t
  heard-by zero _ none turns within all = turn-hearable x v t busy turns tells (below-now within)
  heard-by (suc n) between passes turns within all =
      let f = first-of x.vm between n passes in
      let y : Parts = record x { vm = f.mid } in
      let done = settled-still x f.mid busy profiles f.first (below-now (omega (arith, within))) in
      let clock = (mid-clock x y busy done).0 in
      ran-hearable y (most - 1) t v done.rests (rest-going y done.ended_is) (runs-from f.mid v most n between t f.rest turns within all) tells (omega (arith, clock, below, within))

  ran-by : (new : Parts) → Hears (record x { vm = v }) t new → (n : ℕ) (between : View) → Passes x.vm n between → Turns between t v → suc n ≤ most → (t ≡ Settled → suc n ≡ most) → RanOn x most t new
  ran-by new h zero _ none turns within all = at_once (turn-after x new v t busy turns tells h)
  ran-by new h (suc n) between passes turns within all =
      let f = first-of x.vm between n passes in
      let y : Parts = record x { vm = f.mid } in
      let done = settled-still x f.mid busy profiles f.first (below-now (omega (arith, within))) in
      later y done (ran y new (most - 1) t v done.rests (rest-going y done.ended_is) (runs-from f.mid v most n between t f.rest turns within all) tells h)

  pub busy-hearable : RunsOn x.vm most t v → IsHearable (record x { vm = v }) t
  busy-hearable r = heard-by r.steps r.between r.passes r.last r.within r.all

  pub busy-ran : (new : Parts) → RunsOn x.vm most t v → Hears (record x { vm = v }) t new → RanOn x most t new
  busy-ran new r h = ran-by new h r.steps r.between r.passes r.last r.within r.all

-- ---- how much is left to be told

begin-short : (step m : ℕ) (k : Mark) → length (begin_events step m k) ≤ 1
begin-short step m Off = omega arith
begin-short step m Plain = omega arith
begin-short step m Root = omega arith

end-mark : (k : EventKind) (step m : ℕ) (mark : Mark) → length (end_events k step m mark) ≤ 1
end-mark k step m Off = omega arith
end-mark k step m Plain = omega arith
end-mark k step m Root = omega arith

end-short : (k : EventKind) (step : ℕ) (live : List Held) → length (end_told k step live) ≤ 1
end-short k step [] = omega arith
end-short k step (h ∷ others) = end-mark k step h.method h.mark

change-short : (marks : ℕ → Mark) (step : ℕ) (live : List Held) (c : Change) → length (change_told marks step live c) ≤ 1
change-short marks step live (Loads classes) = omega arith
change-short marks step live (Began m) = begin-short step m (marks m)
change-short marks step live Left = end-short kind.Leave step live
change-short marks step live Unwound = end-short kind.Unwind step live

changes-short : (marks : ℕ → Mark) (step : ℕ) (live : List Held) (cs : List Change) → length (changes_told marks step live cs) ≤ length cs
changes-short marks step live [] = omega arith
changes-short marks step live (c ∷ others) =
    let sum = length-append (change_told marks step live c) (changes_told marks step (held_after marks live c) others) in
    let one = change-short marks step live c in
    let rest = changes-short marks step (held_after marks live c) others in
    let whole : length (c ∷ others) ≡ length others + 1 = omega arith in
    omega (arith, sum, one, rest, whole)

from-short : (marks : ℕ → Mark) (step : ℕ) (delivered : Bool) (live : List Held) (cs : List Change) → length (told_from marks step delivered live cs) ≤ length cs
from-short marks step false live cs = changes-short marks step live cs
from-short marks step true live [] = omega arith
from-short marks step true live (c ∷ others) =
    let rest = changes-short marks step (held_after marks live c) others in
    let whole : length (c ∷ others) ≡ length others + 1 = omega arith in
    omega (arith, rest, whole)

abbrev pub changes_of : World → ℕ → ℕ
changes_of w n = length (turn w n).changes

pub left-short : (v : View) → length (events_left v) ≤ changes_of (world v) v.clock
left-short v =
    let told = from-short (mark_at v.marks) v.clock v.delivered v.live (to_come v) in
    let some = length-drop v.passed (turn (world v) v.clock).changes in
    omega (arith, told, some)

-- of so many steps behind this one, at most
abbrev pub left_of : World → ℕ → ℕ → ℕ
left_of w n zero = 0
left_of w n (suc k) = suc (changes_of w (n + 1)) + left_of w (n + 1) k

pub left-later : (w : World) (n d k : ℕ) → suc (changes_of w (n + 1 + d)) + left_of w (n + 1 + d) k ≤ left_of w n (suc (d + k))
left-later w n zero k =
    let same : n + 1 ≡ n + 1 + 0 = omega arith in
    subst (λ m. suc (changes_of w m) + left_of w m k ≤ left_of w n (suc (0 + k))) same (subst (λ j. suc (changes_of w (n + 1)) + left_of w (n + 1) k ≤ left_of w n (suc j)) (let e : k ≡ 0 + k = omega arith in e) (omega arith))
left-later w n (suc d) k =
    let same : n + 1 + 1 + d ≡ n + 1 + suc d = omega arith in
    let rest = left-later w (n + 1) d k in
    let sum : suc (d + k) ≡ suc d + k = omega arith in
    let there : suc (changes_of w (n + 1 + suc d)) + left_of w (n + 1 + suc d) k ≤ left_of w (n + 1) (suc d + k) =
    subst (λ m. suc (changes_of w m) + left_of w m k ≤ left_of w (n + 1) (suc d + k)) same (subst (λ j. suc (changes_of w (n + 1 + 1 + d)) + left_of w (n + 1 + 1 + d) k ≤ left_of w (n + 1) j) sum rest) in
    omega (arith, there)

-- of the step in hand, and of those behind it up to the last one
abbrev pub left_in : ℕ → View → ℕ
left_in last v = length (events_left v) + left_of (world v) v.clock (last - v.clock)

-- a later step is in hand
pub left-falls : (old new : View) (last : ℕ) → world new ≡ world old → old.clock < new.clock → new.clock ≤ last → left_in last new < left_in last old
left-falls old new last same up high =
    let d : ℕ = new.clock - (old.clock + 1) in
    let k : ℕ = last - new.clock in
    let at : old.clock + 1 + d ≡ new.clock = omega (arith, up) in
    let all : suc (d + k) ≡ last - old.clock = omega (arith, up, high) in
    let bound = left-later (world old) old.clock d k in
    let there : suc (changes_of (world old) new.clock) + left_of (world old) new.clock k ≤ left_of (world old) old.clock (last - old.clock) =
    subst (λ m. suc (changes_of (world old) m) + left_of (world old) m k ≤ left_of (world old) old.clock (last - old.clock)) at
    (subst (λ j. suc (changes_of (world old) (old.clock + 1 + d)) + left_of (world old) (old.clock + 1 + d) k ≤ left_of (world old) old.clock j) all bound) in
    let short : length (events_left new) ≤ changes_of (world old) new.clock = subst (λ w. length (events_left new) ≤ changes_of w new.clock) same (left-short new) in
    let rest : left_of (world new) new.clock k ≡ left_of (world old) new.clock k = ap (λ w. left_of w new.clock k) same in
    omega (arith, there, short, rest)
