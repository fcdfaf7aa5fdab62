-- A turn from the stop that a call has come to.
use Rattle.std.proofs.Common.{◌≡◌, ℕ, suc, Bool, true, false, List, [], ◌∷◌, Option, Some, None, if◌then◌else◌, refl, sym, ap, ap₂, ◌∙◌}
use Rattle.jvm_model.specs.declared.due.Due.{Due}
use Rattle.jvm_model.specs.declared.due.Due.TheVariants.{Nothing, Ends, Begins}
use Rattle.jvm_model.specs.declared.event.Event.{Event}
use Rattle.jvm_model.specs.declared.event.EventKind.{EventKind}
use Rattle.jvm_model.specs.declared.event.EventKind.TheVariants as kind
use Rattle.jvm_model.specs.declared.event.Mark.{Mark}
use Rattle.jvm_model.specs.declared.event.Mark.TheVariants.{Off, Plain, Root}
use Rattle.jvm_model.specs.Basis.Data.{Change, Loads, Began, Left, Unwound}
use Rattle.jvm_model.specs.Rewriting.StandsFor.{mark_at}
use Rattle.jvm_model.specs.Turns.Told.{Held, held_after}
use Rattle.jvm_model.specs.Turns.Pauses.{begin_kind, unless_off, end_due, Stop, stop_by, stop_in, stop_from, told_at}
use Rattle.jvm_machine.specs.View.{View, has_ended, is_resting, step_begun, to_come, next_stop, next_event, step_rested, step_stopped, IsGoingOn}
use Rattle.jvm_machine.specs.declared.turn.Turn.TheVariants.{Ended, Settled}
use Rattle.jvm_machine.specs.Advances.{Stops, told_in}
use Rattle.jvm_machine.specs.declared.advancing.Telling.TheVariants as telling
use Rattle.jvm_machine.specs.Probes.{IfLeaves}
use Rattle.jvm_machine.specs.Turns.{Turns, turn_by}
use Rattle.jvm_machine.proofs.Probes.ToldProbes.{from-probe}

-- ---- at a stop something is told, unless nothing is due

abbrev Told : Stop → Type 0
Told s = (step : ℕ) → told_at s.due step s.live ≡ None → s.due ≡ Nothing

some-none : (e : Event) → Some e ≡ None → ⊥
some-none e h = cc

one-told : (d : Due) (before after : List Held) (h : Held) (rest : List Held) (n : ℕ) (later : Stop) → before ≡ h ∷ rest → after ≡ h ∷ rest → Told later → Told (stop_by before after n d later)
one-told Nothing before after h rest n later e f is = is
one-told (Ends k) before after h rest n later e f is = λ step none. absurd (some-none _ (sym (ap (told_at (Ends k) step) e) ∙ none))
one-told Begins before after h rest n later e f is = λ step none. absurd (some-none _ (sym (ap (told_at Begins step) f) ∙ none))

end-told : (k : EventKind) (live after : List Held) (n : ℕ) (later : Stop) → Told later → Told (stop_by live after n (end_due k live) later)
end-told k [] after n later is = is
end-told k (h ∷ more) after n later is = by h.mark where
  by : (m : Mark) → Told (stop_by (h ∷ more) after n (unless_off m (Ends k)) later)
  by Off = is
  by Plain = λ step none. absurd (some-none (record { kind = k; method = h.method; clock = step }) none)
  by Root = λ step none. absurd (some-none (record { kind = k; method = h.method; clock = step }) none)

begin-told : (marks : ℕ → Mark) (live : List Held) (m : ℕ) (n : ℕ) (later : Stop) → Told later → Told (stop_by live (held_after marks live (Began m)) n (unless_off (marks m) Begins) later)
begin-told marks live m n later is = by (marks m) where
  by : (k : Mark) → Told (stop_by live (held_after marks live (Began m)) n (unless_off k Begins) later)
  by Off = is
  by Plain = λ step none. absurd (some-none (record { kind = begin_kind (marks m); method = m; clock = step }) none)
  by Root = λ step none. absurd (some-none (record { kind = begin_kind (marks m); method = m; clock = step }) none)

in-told : (marks : ℕ → Mark) (n : ℕ) (live : List Held) (cs : List Change) → Told (stop_in marks n live cs)
in-told marks n live [] = λ step none. refl
in-told marks n live (Loads classes ∷ more) = in-told marks (suc n) live more
in-told marks n live (Began m ∷ more) = begin-told marks live m n (stop_in marks (suc n) (held_after marks live (Began m)) more) (in-told marks (suc n) (held_after marks live (Began m)) more)
in-told marks n live (Left ∷ more) = end-told kind.Leave live (held_after marks live Left) n (stop_in marks (suc n) (held_after marks live Left) more) (in-told marks (suc n) (held_after marks live Left) more)
in-told marks n live (Unwound ∷ more) = end-told kind.Unwind live (held_after marks live Unwound) n (stop_in marks (suc n) (held_after marks live Unwound) more) (in-told marks (suc n) (held_after marks live Unwound) more)

from-told : (marks : ℕ → Mark) (delivered : Bool) (n : ℕ) (live : List Held) (cs : List Change) → Told (stop_from marks delivered n live cs)
from-told marks false n live cs = in-told marks n live cs
from-told marks true n live [] = in-told marks n live []
from-told marks true n live (c ∷ more) = in-told marks (suc n) (held_after marks live c) more

-- ---- turns

-- what is told of the machine that was left is the next event
told-next : (old new : View) (due : Due) → Stops old due new → told_at due new.clock new.live ≡ next_event (step_begun old)
told-next old new due is = by due is.stepped is.due_is where
  by : (d : Due) → new ≡ told_in (step_begun old) d → (next_stop (step_begun old)).due ≡ d → told_at d new.clock new.live ≡ next_event (step_begun old)
  by Nothing e f = ap₂ (λ (v : View) d. told_at d v.clock v.live) e (sym f)
  by (Ends k) e f = ap₂ (λ (v : View) d. told_at d v.clock v.live) e (sym f)
  by Begins e f = ap₂ (λ (v : View) d. told_at d v.clock v.live) e (sym f)

pub nothing-due : (old new : View) (due : Due) → Stops old due new → told_at due new.clock new.live ≡ None → due ≡ Nothing
nothing-due old new due is none =
    let v : View = step_begun old in
    sym is.due_is ∙ from-told (mark_at v.marks) v.delivered v.passed v.live (to_come v) v.clock (sym (told-next old new due is) ∙ none)

pub rests-then : (old new : View) (due : Due) → Stops old due new → told_at due new.clock new.live ≡ None → is_resting new ≡ true
rests-then old new due is none =
    let nothing = nothing-due old new due is none in
    ap is_resting (is.stepped ∙ ap (told_in (step_begun old)) nothing)

pub turned : (old new : View) (due : Due) → old.broken ≡ false → IsGoingOn old → Stops old due new → IfLeaves (telling.Due due) new → Turns old (turn_by (told_at due new.clock new.live) (has_ended new)) new
turned old new due whole going is leaves = by (told_at due new.clock new.live) refl where
  ended : (b : Bool) → has_ended new ≡ b → due ≡ Nothing → Turns old (if b then Ended else Settled) new
  ended true e nothing = record {
    whole = whole;
    loads = λ going. is.loads;
    all = λ going. is.due_is ∙ nothing;
    stepped = is.stepped ∙ (ap (told_in (step_begun old)) nothing ∙ ap (λ b. if b then old else step_rested (step_begun old)) (sym going));
    ended = e;
  }
  ended false e nothing =
      let same : new ≡ step_rested (step_begun old) = is.stepped ∙ ap (told_in (step_begun old)) nothing in
      record {
        whole = whole;
        went_on = going;
        loads = is.loads;
        all = is.due_is ∙ nothing;
        stepped = same;
        goes_on = e;
      }

  stopped-by : (d : Due) → due ≡ d → (event : Event) → told_at due new.clock new.live ≡ Some event → new ≡ step_stopped (step_begun old)
  stopped-by Nothing e event delivered = absurd (let h : None ≡ Some event = sym (ap (λ d. told_at d new.clock new.live) e) ∙ delivered in cc)
  stopped-by (Ends k) e event delivered = is.stepped ∙ ap (told_in (step_begun old)) e
  stopped-by Begins e event delivered = is.stepped ∙ ap (told_in (step_begun old)) e

  by : (o : Option Event) → told_at due new.clock new.live ≡ o → Turns old (turn_by o (has_ended new)) new
  by None e = ended (has_ended new) refl (nothing-due old new due is e)
  by (Some event) e = record {
    whole = whole;
    went_on = going;
    loads = is.loads;
    next = sym (told-next old new due is) ∙ e;
    stepped = stopped-by due refl event e;
    probe = from-probe old new due is leaves event e;
  }
