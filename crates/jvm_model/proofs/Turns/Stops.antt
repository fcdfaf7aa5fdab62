-- At a stop one event is told, the next one; and where nothing is told none is left.
use Rattle.std.proofs.Common.{◌≡◌, ℕ, suc, Bool, true, false, List, [], ◌∷◌, ◌++◌, refl, sym, ap, ◌∙◌}
use Rattle.jvm_model.specs.declared.event.EventKind.{EventKind}
use Rattle.jvm_model.specs.declared.event.EventKind.TheVariants as kind
use Rattle.jvm_model.specs.declared.event.Mark.{Mark}
use Rattle.jvm_model.specs.declared.event.Mark.TheVariants.{Off, Plain, Root}
use Rattle.jvm_model.specs.Basis.Data.{Change, Loads, Began, Left, Unwound}
use Rattle.jvm_model.specs.Profiling.EventLists.{begin_events, end_events}
use Rattle.jvm_model.specs.Turns.Told.{Held, held_after, change_told, changes_told}
use Rattle.jvm_model.specs.Turns.Pauses.{begin_kind, unless_off, Nothing, Ends, Begins, change_due, Stop, stop_by, stop_in, stop_from, IsStop}

module _ (marks : ℕ → Mark) (step : ℕ) where
  abbrev IsAt : ℕ → List Held → List Change → Stop → Type 0
  IsAt n live changes s = IsStop marks step n false live changes s

  stop-on : (n : ℕ) (live : List Held) (c : Change) (more : List Change) (later : Stop) → change_told marks step live c ≡ []
      → IsAt (suc n) (held_after marks live c) more later → IsAt n live (c ∷ more) later
  stop-on n live c more later silent is = record {
    passed = c ∷ is.passed;
    more = is.more;
    all = ap (λ cs. c ∷ cs) is.all;
    count = is.count;
    tells = ap (λ es. es ++ changes_told marks step (held_after marks live c) more) silent ∙ is.tells;
    lives = is.lives;
    ends = is.ends;
  }

  stop-end : (k : EventKind) (n : ℕ) (h : Held) (rest : List Held) (c : Change) (more : List Change)
      → change_told marks step (h ∷ rest) c ≡ record { kind = k; method = h.method; clock = step } ∷ []
      → IsAt n (h ∷ rest) (c ∷ more) (record { live = h ∷ rest; passed = n; due = Ends k })
  stop-end k n h rest c more tells = record {
    passed = [];
    more = c ∷ more;
    all = refl;
    count = refl;
    tells = ap (λ es. es ++ changes_told marks step (held_after marks (h ∷ rest) c) more) tells;
    lives = refl;
    ends = λ nothing. (let e : Ends k ≡ Nothing = nothing in cc);
  }

  by-end : (k : EventKind) (n : ℕ) (h : Held) (rest : List Held) (c : Change) (more : List Change) (later : Stop) (mark : Mark)
      → change_told marks step (h ∷ rest) c ≡ end_events k step h.method mark
      → IsAt (suc n) (held_after marks (h ∷ rest) c) more later
      → IsAt n (h ∷ rest) (c ∷ more) (stop_by (h ∷ rest) (held_after marks (h ∷ rest) c) n (unless_off mark (Ends k)) later)
  by-end k n h rest c more later Off tells is = stop-on n (h ∷ rest) c more later tells is
  by-end k n h rest c more later Plain tells is = stop-end k n h rest c more tells
  by-end k n h rest c more later Root tells is = stop-end k n h rest c more tells

  stop-begin : (n : ℕ) (live : List Held) (m : ℕ) (more : List Change) → begin_events step m (marks m) ≡ record { kind = begin_kind (marks m); method = m; clock = step } ∷ []
      → IsAt n live (Began m ∷ more) (record { live = record { method = m; mark = marks m } ∷ live; passed = suc n; due = Begins })
  stop-begin n live m more tells = record {
    passed = Began m ∷ [];
    more = more;
    all = refl;
    count = refl;
    tells = ap (λ es. es ++ changes_told marks step (record { method = m; mark = marks m } ∷ live) more) tells;
    lives = refl;
    ends = λ nothing. (let e : Begins ≡ Nothing = nothing in cc);
  }

  by-begin : (n : ℕ) (live : List Held) (m : ℕ) (more : List Change) (later : Stop) (mark : Mark) → marks m ≡ mark
      → IsAt (suc n) (record { method = m; mark = marks m } ∷ live) more later
      → IsAt n live (Began m ∷ more) (stop_by live (record { method = m; mark = marks m } ∷ live) n (unless_off mark Begins) later)
  by-begin n live m more later Off e is = stop-on n live (Began m) more later (ap (begin_events step m) e) is
  by-begin n live m more later Plain e is = stop-begin n live m more (ap (begin_events step m) e ∙ ap (λ k. record { kind = begin_kind k; method = m; clock = step } ∷ []) (sym e))
  by-begin n live m more later Root e is = stop-begin n live m more (ap (begin_events step m) e ∙ ap (λ k. record { kind = begin_kind k; method = m; clock = step } ∷ []) (sym e))

  stop-change : (n : ℕ) (live : List Held) (c : Change) (more : List Change) (later : Stop) → IsAt (suc n) (held_after marks live c) more later
      → IsAt n live (c ∷ more) (stop_by live (held_after marks live c) n (change_due marks live c) later)
  stop-change n live (Loads classes) more later is = stop-on n live (Loads classes) more later refl is
  stop-change n live (Began m) more later is = by-begin n live m more later (marks m) refl is
  stop-change n [] Left more later is = stop-on n [] Left more later refl is
  stop-change n (h ∷ rest) Left more later is = by-end kind.Leave n h rest Left more later h.mark refl is
  stop-change n [] Unwound more later is = stop-on n [] Unwound more later refl is
  stop-change n (h ∷ rest) Unwound more later is = by-end kind.Unwind n h rest Unwound more later h.mark refl is

  pub stop_in-is : (n : ℕ) (live : List Held) (changes : List Change) → IsStop marks step n false live changes (stop_in marks n live changes)
  stop_in-is n live [] = record {
    passed = [];
    more = [];
    all = refl;
    count = refl;
    tells = refl;
    lives = refl;
    ends = λ nothing. refl;
  }
  stop_in-is n live (c ∷ more) = stop-change n live c more (stop_in marks (suc n) (held_after marks live c) more) (stop_in-is (suc n) (held_after marks live c) more)

  -- behind the end of which a probe has told
  stop-behind : (n : ℕ) (live : List Held) (c : Change) (more : List Change) (s : Stop) → IsStop marks step (suc n) false (held_after marks live c) more s → IsStop marks step n true live (c ∷ more) s
  stop-behind n live c more s is = record {
    passed = c ∷ is.passed;
    more = is.more;
    all = ap (λ cs. c ∷ cs) is.all;
    count = is.count;
    tells = is.tells;
    lives = is.lives;
    ends = is.ends;
  }

  pub stop_from-is : (told : Bool) (n : ℕ) (live : List Held) (changes : List Change) → IsStop marks step n told live changes (stop_from marks told n live changes)
  stop_from-is false n live changes = stop_in-is n live changes
  stop_from-is true n live [] = record {
    passed = [];
    more = [];
    all = refl;
    count = refl;
    tells = refl;
    lives = refl;
    ends = λ nothing. refl;
  }
  stop_from-is true n live (c ∷ more) = stop-behind n live c more (stop_in marks (suc n) (held_after marks live c) more) (stop_in-is (suc n) (held_after marks live c) more)
