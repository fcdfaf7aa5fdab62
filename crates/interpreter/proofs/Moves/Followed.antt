-- What an attempt has changed, by the frames; and the pause behind it.
use Rattle.std.proofs.Common.{◌≡◌, ◌≤◌, ◌<◌, ℕ, suc, Bool, true, false, List, [], ◌∷◌, ◌++◌, length, map, nat_lt, Some, None, refl, sym, ap, subst, ◌∙◌, arith}
use Rattle.std.specs.Prelude.{not, IfOk, Result}
use Rattle.std.proofs.lemmas.Bool.{false≢true, le-ltb, lt-ltb, ltb-false}
use Rattle.std.proofs.lemmas.Option.{same_Some}
use Rattle.frame_stack.specs.FrameLists.{PlacedFrame, top_of}
use Rattle.jvm_model.specs.declared.due.Due.{Due}
use Rattle.jvm_model.specs.declared.due.Due.TheVariants.{Nothing, Ends, Begins}
use Rattle.jvm_model.specs.declared.event.Mark.{Mark}
use Rattle.jvm_model.specs.declared.event.Mark.TheVariants.{Off, Plain, Root}
use Rattle.jvm_model.specs.declared.state.Entry.{Entry}
use Rattle.jvm_model.specs.declared.state.State.{State}
use Rattle.jvm_model.specs.Running.Applies.{still}
use Rattle.jvm_model.specs.Running.Between.{changes_between, depths_compared, attempt_followed, top_method}
use Rattle.jvm_model.specs.Basis.Data.{Change, Listing}
use Rattle.jvm_model.specs.Rewriting.Images.{is_off}
use Rattle.jvm_model.specs.Turns.Told.{mark_now}
use Rattle.jvm_model.specs.Turns.Pauses.{Pause, changes_due, passed_by, step_paused, unless_off}
use Rattle.jvm_model.specs.Turns.StepPauses.{pause_behind}
use Rattle.jvm_model.proofs.Turns.Pausing.{paused-is}
use Rattle.prepared_code.specs.declared.initializations.Initialization.{Initialization}
use Rattle.prepared_code.specs.declared.parts.Parts.{Parts}
use Rattle.prepared_code.specs.Initializations.{above, beneath, initializing_entry, stack_of, state_of}
use Rattle.prepared_code.specs.States.{active}
use Rattle.activations.specs.Turning.{pause_at, paused_in}
use Rattle.interpreter.specs.Moves.Trying.{changes_since, enters_by, is_begins, pause_behind_attempt, top_frame_method}
use Rattle.prepared_code.specs.Tables.{Versions}
use Rattle.prepared_code.specs.Versions.{Setup, current_of, listing_of, mark_of}
use Rattle.activations.proofs.InitializerFrames.{live-of}
use Rattle.jvm_model.proofs.Loading.LoadedMoves.{settled-loaded}

-- ---- by the frames

top-behind : (ms : List Initialization) (es : List Entry) → top_method (map initializing_entry ms ++ es) ≡ top_method es
top-behind [] es = refl
top-behind (m ∷ ms) es = top-behind ms es

top-initializing : (ms : List Initialization) → top_method (map initializing_entry ms) ≡ 0
top-initializing [] = refl
top-initializing (m ∷ ms) = top-initializing ms

top-of : (fs : List PlacedFrame) (ms : List Initialization) → top_method (stack_of (map active fs) ms) ≡ top_frame_method fs
unfolding stack_of
top-of [] ms = top-initializing ms
top-of (f ∷ fs) ms = top-behind (above (suc (length (map active fs))) ms) (active f ∷ stack_of (map active fs) (beneath (suc (length (map active fs))) ms))

-- the initializations are none of them
pub since-between : (live : ℕ) (ms : List Initialization) (p : Parts) → changes_since live p.frames.frames ≡ changes_between live (state_of ms p).stack
since-between live ms p =
    ap (λ m. depths_compared (nat_lt (length p.frames.frames) live) (nat_lt live (length p.frames.frames)) m) (sym (top-of p.frames.frames ms))
    ∙ ap (λ n. depths_compared (nat_lt n live) (nat_lt live n) (top_method (state_of ms p).stack)) (sym (live-of ms p))

-- ---- whether what has begun is told

begins-unless : (m : Mark) → not (is_off m) ≡ is_begins (unless_off m Begins)
begins-unless Off = refl
begins-unless Plain = refl
begins-unless Root = refl

-- no activation more
pub enters_none : (v : Versions) (live : ℕ) (fs : List PlacedFrame) → length fs ≤ live → false ≡ enters_by v (changes_since live fs)
enters_none v live fs few = by (nat_lt (length fs) live) ∙ ap (λ b. enters_by v (depths_compared (nat_lt (length fs) live) b (top_frame_method fs))) (sym (le-ltb live (length fs) few)) where
  by : (b : Bool) → false ≡ enters_by v (depths_compared b false (top_frame_method fs))
  by true = refl
  by false = refl

-- one more
enters-one : (v : Versions) (live : ℕ) (f : PlacedFrame) (fs : List PlacedFrame) → live < length (f ∷ fs)
    → not (is_off (mark_of v (current_of v f.method))) ≡ enters_by v (changes_since live (f ∷ fs))
enters-one v live f fs more =
    begins-unless (mark_of v (current_of v f.method))
    ∙ (ap (λ b. enters_by v (depths_compared false b f.method)) (sym (lt-ltb live (length (f ∷ fs)) more))
    ∙ ap (λ b. enters_by v (depths_compared b (nat_lt live (length (f ∷ fs))) f.method)) (sym (le-ltb (length (f ∷ fs)) live (omega arith))))

pub enters_top : (v : Versions) (live : ℕ) (fs : List PlacedFrame) (version method : ℕ) → top_of fs ≡ Some (version, method) → live < length fs
    → not (is_off (mark_of v (current_of v method))) ≡ enters_by v (changes_since live fs)
enters_top v live [] version method top more = absurd (omega arith)
enters_top v live (f ∷ fs) version method top more =
    let same : f.method ≡ method = ap (λ (x : ℕ × ℕ). x.1) (same_Some _ _ top) in
    ap (λ m. not (is_off (mark_of v (current_of v m)))) (sym same) ∙ enters-one v live f fs more

pub enters_nothing : (v : Versions) (live : ℕ) (fs : List PlacedFrame) → top_of fs ≡ None → live < length fs → false ≡ enters_by v (changes_since live fs)
enters_nothing v live [] top more = absurd (omega arith)
enters_nothing v live (f ∷ fs) top more = absurd cc

-- ---- how many changes are behind it

-- as many frames
pub counts_none : (n live : ℕ) (fs : List PlacedFrame) → length fs ≡ live → n ≡ passed_by n (changes_since live fs)
counts_none n live fs is = by (nat_lt (length fs) live) (nat_lt live (length fs)) (le-ltb (length fs) live (omega arith)) (le-ltb live (length fs) (omega arith)) where
  by : (a b : Bool) → a ≡ false → b ≡ false → n ≡ passed_by n (depths_compared a b (top_frame_method fs))
  by false false ea eb = refl
  by true b ea eb = absurd (false≢true (sym ea))
  by false true ea eb = absurd (false≢true (sym eb))

-- more or fewer
pub counts_one : (n live : ℕ) (fs : List PlacedFrame) → (length fs ≡ live → ⊥) → suc n ≡ passed_by n (changes_since live fs)
counts_one n live fs isnt = by (nat_lt (length fs) live) (nat_lt live (length fs)) refl refl where
  by : (a b : Bool) → nat_lt (length fs) live ≡ a → nat_lt live (length fs) ≡ b → suc n ≡ passed_by n (depths_compared a b (top_frame_method fs))
  by true b ea eb = refl
  by false true ea eb = refl
  by false false ea eb =
      let upper : live ≤ length fs = ltb-false (length fs) live ea in
      let lower : length fs ≤ live = ltb-false live (length fs) eb in
      absurd (isnt (omega arith))

-- ---- the pause behind it

pub begins-pause : (d : Due) (begun later : Pause) → is_begins d ≡ true → pause_behind d begun later ≡ begun
begins-pause Begins begun later is = refl
begins-pause Nothing begun later is = absurd (false≢true is)
begins-pause (Ends k) begun later is = absurd (false≢true is)

pub goes-pause : (d : Due) (begun later : Pause) → is_begins d ≡ false → pause_behind d begun later ≡ later
goes-pause Begins begun later isnt = absurd (false≢true (sym isnt))
goes-pause Nothing begun later isnt = refl
goes-pause (Ends k) begun later isnt = refl

module _ (w : Setup) (live n : ℕ) (ms : List Initialization) (p : Parts) where
  abbrev s : State
  s = state_of ms p

  abbrev cs : List Change
  cs = changes_since live p.frames.frames

  abbrev followed_by : List Change → Pause
  followed_by changes = attempt_followed w.world (listing_of w.versions) (mark_of w.versions) n changes s

  same-followed : followed_by cs ≡ pause_behind_attempt w live n s
  same-followed = ap followed_by (since-between live ms p)

  -- a method has begun, which is told
  pub follows-told : (passed : ℕ) → passed ≡ passed_by n cs → enters_by w.versions cs ≡ true → pause_at s passed Begins ≡ pause_behind_attempt w live n s
  follows-told passed counted is =
      ap (λ k. pause_at s k Begins) counted
      ∙ (sym (begins-pause (changes_due (mark_now (mark_of w.versions) (listing_of w.versions)) [] cs) (record { state = s; passed = passed_by n cs; due = Begins })
      (step_paused w.world (listing_of w.versions) (mark_of w.versions) (passed_by n cs) s) is)
      ∙ same-followed)

  -- the moves follow
  pub follows-on : (passed : ℕ) → passed ≡ passed_by n cs → enters_by w.versions cs ≡ false → paused_in w passed s ≡ pause_behind_attempt w live n s
  follows-on passed counted isnt =
      ap (λ k. paused_in w k s) counted
      ∙ (sym (goes-pause (changes_due (mark_now (mark_of w.versions) (listing_of w.versions)) [] cs) (record { state = s; passed = passed_by n cs; due = Begins })
      (step_paused w.world (listing_of w.versions) (mark_of w.versions) (passed_by n cs) s) isnt)
      ∙ same-followed)

-- ---- moves load nothing

module _ (w : Setup) (t : Listing) (v : ℕ → Mark) (n : ℕ) (s : State) where
  pub paused-loaded : (step_paused w.world t v n s).state.shared.loaded ≡ s.shared.loaded
  paused-loaded =
      let p : Pause = step_paused w.world t v n s in
      let same = (paused-is w.world t v n s).part.same in
      sym (settled-loaded w.world t (still p.state)) ∙ (ap (λ (x : State). x.shared.loaded) (sym same) ∙ settled-loaded w.world t (still s))

  behind-loaded : (d : Due) (begun later : Pause) → begun.state.shared.loaded ≡ s.shared.loaded → later.state.shared.loaded ≡ s.shared.loaded
      → (pause_behind d begun later).state.shared.loaded ≡ s.shared.loaded
  behind-loaded Begins begun later one other = one
  behind-loaded Nothing begun later one other = other
  behind-loaded (Ends k) begun later one other = other

pub followed-loaded : (w : Setup) (t : Listing) (v : ℕ → Mark) (n : ℕ) (changes : List Change) (s : State) → (attempt_followed w.world t v n changes s).state.shared.loaded ≡ s.shared.loaded
followed-loaded w t v n changes s =
    behind-loaded w t v n s (changes_due (mark_now v t) [] changes) (record { state = s; passed = passed_by n changes; due = Begins })
    (step_paused w.world t v (passed_by n changes) s) refl (paused-loaded w t v (passed_by n changes) s)

-- ---- in the world that stays

pub follows-in : {E : Type 0} (r : Result Due E) (w v : Setup) (live n passed : ℕ) (mid done new : State) → v ≡ w → mid ≡ done
    → IfOk r (λ due. pause_at new passed due ≡ pause_behind_attempt v live n mid) → IfOk r (λ due. pause_at new passed due ≡ pause_behind_attempt w live n done)
follows-in r w v live n passed mid done new same made reached =
    subst (λ x. IfOk r (λ due. pause_at new passed due ≡ pause_behind_attempt w live n x)) made
    (subst (λ u. IfOk r (λ due. pause_at new passed due ≡ pause_behind_attempt u live n mid)) same reached)
