-- What a loop of moves needs that stops where something is told: a silent move keeps the pause, and makes `left` less;
-- else the pause is reached.
use Rattle.std.proofs.Common.{inl, inr, ◌≡◌, ℕ, zero, suc, ◌≤◌, ◌<◌, [], ◌∷◌, Option, Some, None, refl, sym, ap, subst, ◌∙◌, arith}
use Rattle.std.specs.Option.{IfSome, option_map_or}
use Rattle.jvm_model.specs.declared.event.Mark.{Mark}
use Rattle.jvm_model.specs.Basis.Data.{State, Began, Turn, Listing, World}
use Rattle.jvm_model.specs.Running.Moves.{move, moves_left}
use Rattle.jvm_model.specs.Turns.Told.{helds, mark_now}
use Rattle.jvm_model.specs.Turns.Pauses.{Nothing, changes_due, Pause, pause_by, pauses, step_paused, passed_by}
use Rattle.jvm_model.specs.Running.Changes.{OnlyEnd}
use Rattle.jvm_model.proofs.Events.Order.{GoesWell, moves-well}
use Rattle.jvm_model.proofs.Running.Settles.{move-less}

module _ (w : World) (t : Listing) (v : ℕ → Mark) where
  -- the pause behind one move
  abbrev one : ℕ → State → (ℕ → State → Pause) → Option Turn → Pause
  one n s later found =
      option_map_or (λ (next : Turn). pause_by s next.after n next.changes (changes_due (mark_now v t) (helds v s.stack) next.changes) (later (passed_by n next.changes) next.after)) found
      (record { state = s; passed = n; due = Nothing })

  none-more : (s : State) (found : Option Turn) → IfSome found (λ next. moves_left next.after < moves_left s) → moves_left s ≤ 0 → found ≡ None
  none-more s None less le = refl
  none-more s (Some next) less le = absurd (omega arith)

  at-none : (k n : ℕ) (s : State) → moves_left s ≤ 0 → pauses w t v k n s ≡ record { state = s; passed = n; due = Nothing }
  at-none zero n s le = refl
  at-none (suc k) n s le = ap (one n s (pauses w t v k)) (none-more s (move w t s) (move-less w t s) le)

  -- as many moves as are left are enough
  more-by : (j k n : ℕ) (s : State) → ((next : Turn) → moves_left next.after ≤ j → moves_left next.after ≤ k → pauses w t v j (passed_by n next.changes) next.after ≡ pauses w t v k (passed_by n next.changes) next.after)
      → (found : Option Turn) → IfSome found (λ next. moves_left next.after < moves_left s) → moves_left s ≤ suc j → moves_left s ≤ suc k
      → one n s (pauses w t v j) found ≡ one n s (pauses w t v k) found
  more-by j k n s later None less le le' = refl
  more-by j k n s later (Some next) less le le' =
      ap (pause_by s next.after n next.changes (changes_due (mark_now v t) (helds v s.stack) next.changes)) (later next (omega arith) (omega arith))

  enough : (j k n : ℕ) (s : State) → moves_left s ≤ j → moves_left s ≤ k → pauses w t v j n s ≡ pauses w t v k n s
  enough zero k n s le le' = sym (at-none k n s le)
  enough (suc j) zero n s le le' = at-none (suc j) n s le'
  enough (suc j) (suc k) n s le le' = more-by j k n s (λ next less less'. enough j k (passed_by n next.changes) next.after less less') (move w t s) (move-less w t s) le le'

  unfold-by : (k n : ℕ) (s : State) → moves_left s ≡ k → (found : Option Turn) → move w t s ≡ found → IfSome found (λ next. moves_left next.after < moves_left s)
      → pauses w t v k n s ≡ one n s (step_paused w t v) found
  unfold-by zero n s e None is less = refl
  unfold-by zero n s e (Some next) is less = absurd (omega arith)
  unfold-by (suc k) n s e found is less = ap (one n s (pauses w t v k)) is ∙ by found less where
    by : (found : Option Turn) → IfSome found (λ next. moves_left next.after < moves_left s) → one n s (pauses w t v k) found ≡ one n s (step_paused w t v) found
    by None less = refl
    by (Some next) less =
        ap (pause_by s next.after n next.changes (changes_due (mark_now v t) (helds v s.stack) next.changes))
        (enough k (moves_left next.after) (passed_by n next.changes) next.after (omega arith) (omega arith))

  -- The pause of a state is by its next move: none, a silent one and then the pause behind it, or one that is told.
  pub paused-move : (n : ℕ) (s : State) → step_paused w t v n s ≡ one n s (step_paused w t v) (move w t s)
  paused-move n s = unfold-by (moves_left s) n s refl (move w t s) refl (move-less w t s)

-- behind a move by which an activation begins none applies
well-stops : (w : World) (t : Listing) (a : Turn) (m : ℕ) → a.changes ≡ Began m ∷ [] → GoesWell w t a → move w t a.after ≡ None
well-stops w t a m e (inl only) = absurd (subst OnlyEnd e only)
well-stops w t a m e (inr both) = both.1

pub begun-stops : (w : World) (t : Listing) (s : State) (next : Turn) (m : ℕ) → move w t s ≡ Some next → next.changes ≡ Began m ∷ [] → move w t next.after ≡ None
begun-stops w t s next m e c = well-stops w t next m c (subst (λ o. IfSome o (GoesWell w t)) e (moves-well w t s s.ending s.thrown s.stack refl refl))
