-- What one move says of the pause that all moves come to.
use Rattle.std.proofs.Common.{◌≡◌, ℕ, suc, ◌<◌, List, [], ◌∷◌, Option, Some, None, is_some, refl, sym, ap, subst, ◌∙◌}
use Rattle.std.specs.Option.{IfSome, option_map_or}
use Rattle.jvm_model.specs.declared.due.Due.{Due}
use Rattle.jvm_model.specs.declared.due.Due.TheVariants.{Nothing, Ends, Begins}
use Rattle.jvm_model.specs.declared.event.EventKind.TheVariants as kind
use Rattle.jvm_model.specs.declared.event.Mark.{Mark}
use Rattle.jvm_model.specs.declared.event.Mark.TheVariants.{Off, Plain, Root}
use Rattle.jvm_model.specs.declared.state.State.{State}
use Rattle.jvm_model.specs.Basis.Data.{Change, Loads, Began, Left, Unwound, Turn}
use Rattle.jvm_model.specs.Running.Moves.{move, moves_left}
use Rattle.jvm_model.specs.Turns.Told.{Held, helds, mark_now}
use Rattle.jvm_model.specs.Turns.Pauses.{unless_off, end_due, pause_by, passed_by}
use Rattle.jvm_model.proofs.Running.Settles.{move-less}
use Rattle.jvm_model.proofs.Turns.Pausing.{OneAtMost, none, one, move-one}
use Rattle.jvm_model.proofs.Turns.LoopOfPauses.{paused-move, begun-stops}
use Rattle.activations.specs.declared.turning.Moved.{Moved}
use Rattle.activations.specs.declared.turning.Moved.TheVariants as moved
use Rattle.symbolic_references.specs.Runtimes.{RuntimeView}
use Rattle.prepared_code.specs.Originals.{OriginalsView, setup_in}
use Rattle.prepared_code.specs.Versions.{Setup, listing_of, mark_of}
use Rattle.activations.specs.Turning.{changes_of, due_by, moved_by, moved_if, moved_as, state_by, moved_to, paused_in}
use Rattle.instructions.proofs.Attempts.NamedAttempts.{same-setup}

abbrev pub Means : Setup → ℕ → State → State → Moved → Type 0
Means w n s after moved.Nothing = paused_in w n s ≡ record { state = after; passed = n; due = Nothing }
Means w n s after moved.On = (paused_in w n after ≡ paused_in w n s) × (moves_left after < moves_left s)
Means w n s after moved.Unwound = (paused_in w (suc n) after ≡ paused_in w n s) × (moves_left after < moves_left s)
Means w n s after moved.Unwinds = (paused_in w n s ≡ record { state = s; passed = n; due = Ends kind.Unwind }) × (after ≡ state_by s s (Ends kind.Unwind))
Means w n s after moved.Began = paused_in w n s ≡ record { state = after; passed = suc n; due = Nothing }
Means w n s after moved.Enters = paused_in w n s ≡ record { state = after; passed = suc n; due = Begins }

module _ (w : Setup) (n : ℕ) (s : State) where
  abbrev live : List Held
  live = helds (mark_of w.versions) s.stack

  abbrev marks : ℕ → Mark
  marks = mark_now (mark_of w.versions) (listing_of w.versions)

  by-move : (next : Turn) → move w.world (listing_of w.versions) s ≡ Some next
      → paused_in w n s ≡ pause_by s next.after n next.changes (due_by w s next.changes) (paused_in w (passed_by n next.changes) next.after)
  by-move next e =
      paused-move w.world (listing_of w.versions) (mark_of w.versions) n s
      ∙ ap (λ found. option_map_or (λ (next : Turn). pause_by s next.after n next.changes (due_by w s next.changes) (paused_in w (passed_by n next.changes) next.after)) found
      (record { state = s; passed = n; due = Nothing })) e

  -- where no move applies nothing is due
  pub rest-pauses : move w.world (listing_of w.versions) s ≡ None → paused_in w n s ≡ record { state = s; passed = n; due = Nothing }
  rest-pauses at_rest =
      paused-move w.world (listing_of w.versions) (mark_of w.versions) n s
      ∙ ap (λ found. option_map_or (λ (next : Turn). pause_by s next.after n next.changes (due_by w s next.changes) (paused_in w (passed_by n next.changes) next.after)) found
      (record { state = s; passed = n; due = Nothing })) at_rest

  -- by the one change, and what is due by it
  unwound-means : (after : State) (d : Due) → end_due kind.Unwind live ≡ d → move w.world (listing_of w.versions) s ≡ Some (record { after = after; changes = Unwound ∷ [] }) → moves_left after < moves_left s
      → Means w n s (state_by s after d) (moved_by (Unwound ∷ []) d)
  unwound-means after d due e less = by d due (ends live due) where
    there : paused_in w n s ≡ pause_by s after n (Unwound ∷ []) (end_due kind.Unwind live) (paused_in w (suc n) after)
    there = by-move (record { after = after; changes = Unwound ∷ [] }) e

    unless-ends : (m : Mark) → unless_off m (Ends kind.Unwind) ≡ d → (d ≡ Nothing → ⊥) → d ≡ Ends kind.Unwind
    unless-ends Off e other = absurd (other (sym e))
    unless-ends Plain e other = sym e
    unless-ends Root e other = sym e

    ends : (live : List Held) → end_due kind.Unwind live ≡ d → (d ≡ Nothing → ⊥) → d ≡ Ends kind.Unwind
    ends [] e other = absurd (other (sym e))
    ends (h ∷ more) e other = unless-ends h.mark e other

    by : (d : Due) → end_due kind.Unwind live ≡ d → ((d ≡ Nothing → ⊥) → d ≡ Ends kind.Unwind) → Means w n s (state_by s after d) (moved_by (Unwound ∷ []) d)
    by Nothing due is = (sym (there ∙ ap (λ d. pause_by s after n (Unwound ∷ []) d (paused_in w (suc n) after)) due), less)
    by (Ends k) due is =
        let same : Ends k ≡ Ends kind.Unwind = is (λ nothing. (let h : Ends k ≡ Nothing = nothing in cc)) in
        (there ∙ (ap (λ d. pause_by s after n (Unwound ∷ []) d (paused_in w (suc n) after)) due ∙ ap (λ d. record { state = s; passed = n; due = d }) same), refl)
    by Begins due is = absurd (let h : Begins ≡ Ends kind.Unwind = is (λ nothing. (let h : Begins ≡ Nothing = nothing in cc)) in cc)

  began-means : (after : State) (m : ℕ) (mark : Mark) → marks m ≡ mark → move w.world (listing_of w.versions) s ≡ Some (record { after = after; changes = Began m ∷ [] })
      → Means w n s (state_by s after (unless_off mark Begins)) (moved_by (Began m ∷ []) (unless_off mark Begins))
  began-means after m mark is e = by mark is where
    there : (d : Due) → unless_off (marks m) Begins ≡ d → paused_in w n s ≡ pause_by s after n (Began m ∷ []) d (paused_in w (suc n) after)
    there d due = by-move (record { after = after; changes = Began m ∷ [] }) e ∙ ap (λ d. pause_by s after n (Began m ∷ []) d (paused_in w (suc n) after)) due

    stays : paused_in w (suc n) after ≡ record { state = after; passed = suc n; due = Nothing }
    stays =
        paused-move w.world (listing_of w.versions) (mark_of w.versions) (suc n) after
        ∙ ap (λ found. option_map_or (λ (next : Turn). pause_by after next.after (suc n) next.changes (due_by w after next.changes) (paused_in w (passed_by (suc n) next.changes) next.after)) found
        (record { state = after; passed = suc n; due = Nothing })) (begun-stops w.world (listing_of w.versions) s (record { after = after; changes = Began m ∷ [] }) m e refl)

    by : (mark : Mark) → marks m ≡ mark → Means w n s (state_by s after (unless_off mark Begins)) (moved_by (Began m ∷ []) (unless_off mark Begins))
    by Off is = there Nothing (ap (λ k. unless_off k Begins) is) ∙ stays
    by Plain is = there Begins (ap (λ k. unless_off k Begins) is)
    by Root is = there Begins (ap (λ k. unless_off k Begins) is)

  change-means : (after : State) (changes : List Change) → OneAtMost changes → move w.world (listing_of w.versions) s ≡ Some (record { after = after; changes = changes }) → moves_left after < moves_left s
      → Means w n s (state_by s after (due_by w s changes)) (moved_by changes (due_by w s changes))
  change-means after _ none e less = (sym (by-move (record { after = after; changes = [] }) e), less)
  change-means after _ (one (Loads classes) other) e less = absurd other
  change-means after _ (one (Began m) other) e less = began-means after m (marks m) refl e
  change-means after _ (one Left other) e less = absurd other
  change-means after _ (one Unwound other) e less = unwound-means after (end_due kind.Unwind live) refl e less

  nothing-means : move w.world (listing_of w.versions) s ≡ None → paused_in w n s ≡ record { state = s; passed = n; due = Nothing }
  nothing-means e =
      paused-move w.world (listing_of w.versions) (mark_of w.versions) n s
      ∙ ap (λ found. option_map_or (λ (next : Turn). pause_by s next.after n next.changes (due_by w s next.changes) (paused_in w (passed_by n next.changes) next.after)) found
      (record { state = s; passed = n; due = Nothing })) e

  move-means : (found : Option Turn) → move w.world (listing_of w.versions) s ≡ found → IfSome found (λ next. moves_left next.after < moves_left s) → IfSome found (λ (next : Turn). OneAtMost next.changes)
      → Means w n s (state_by s (option_map_or (λ (turn : Turn). turn.after) found s) (due_by w s (changes_of found))) (moved_if (is_some found) (changes_of found) (due_by w s (changes_of found)))
  move-means None e less single = nothing-means e
  move-means (Some next) e less single = change-means next.after next.changes single e less

  pub means : Means w n s (moved_to w s) (moved_as w s)
  means = move-means (move w.world (listing_of w.versions) s) refl (move-less w.world (listing_of w.versions) s) (move-one w.world (listing_of w.versions) s)

-- of what a call has answered
pub means-of : (w : Setup) (n : ℕ) (s after : State) (m : Moved) → m ≡ moved_as w s → after ≡ moved_to w s → Means w n s after m
means-of w n s after m answer state = subst (λ a. Means w n s a m) (sym state) (subst (Means w n s (moved_to w s)) (sym answer) (means w n s))

-- where it is known what that is
means-as : (w : Setup) (n : ℕ) (s after : State) (m k : Moved) → m ≡ moved_as w s → after ≡ moved_to w s → m ≡ k → Means w n s after k
means-as w n s after m k answer state is = subst (Means w n s after) is (means-of w n s after m answer state)

-- in the world that stays
pub moves-as : (o : OriginalsView) (r there : RuntimeView) → there.world ≡ r.world → (n : ℕ) (s after : State) (m k : Moved) → m ≡ moved_as (setup_in there o) s
    → after ≡ moved_to (setup_in there o) s → m ≡ k → Means (setup_in r o) n s after k
moves-as o r there world n s after m k answer state is =
    let same = same-setup r there o o world refl in
    means-as (setup_in r o) n s after m k (answer ∙ ap (λ (w : Setup). moved_as w s) same) (state ∙ ap (λ (w : Setup). moved_to w s) same) is
