-- A move of frames is the same beneath their initializations: what it changes, and what is due by it.
use Rattle.std.proofs.Common.{◌≡◌, ℕ, suc, Bool, List, [], ◌∷◌, ◌++◌, length, map, Option, Some, None, refl, sym, ap, ap₂, subst, ◌∙◌}
use Rattle.std.specs.Prelude.{drop, is_some, IfOk, Result}
use Rattle.frame_stack.specs.FrameLists.{FramesView, PlacedFrame, rest_of, without_frame}
use Rattle.jvm_model.specs.declared.ending.Ending.{Ending}
use Rattle.jvm_model.specs.declared.event.Mark.{Mark}
use Rattle.jvm_model.specs.declared.due.Due.{Due}
use Rattle.jvm_model.specs.declared.due.Due.TheVariants.{Nothing, Ends, Begins}
use Rattle.jvm_model.specs.declared.state.Entry.{Entry}
use Rattle.jvm_model.specs.declared.state.Entry.TheVariants.{Active, Initializing}
use Rattle.jvm_model.specs.declared.state.Frame.{Frame}
use Rattle.jvm_model.specs.declared.state.Shared.{Shared}
use Rattle.jvm_model.specs.declared.state.State.{State}
use Rattle.jvm_model.specs.Basis.Data.{Listing}
use Rattle.jvm_model.specs.Turns.InHand.{frame_popped}
use Rattle.jvm_model.specs.Running.Moves.{throw_caught, handler_for, moves}
use Rattle.jvm_model.specs.Basis.SharedState.{class_of}
use Rattle.jvm_model.specs.Turns.Told.{Held, frame_held, helds, mark_now}
use Rattle.jvm_model.specs.Turns.Pauses.{changes_due}
use Rattle.prepared_code.specs.declared.initializations.Initialization.{Initialization}
use Rattle.prepared_code.specs.declared.parts.Parts.{Parts}
use Rattle.prepared_code.specs.Initializations.{initializing_entry, initialization_on, above, beneath, stack_of, state_of, with_initializations}
use Rattle.activations.specs.Settling.{after_move}
use Rattle.activations.specs.declared.turning.Moved.{Moved}
use Rattle.prepared_code.specs.States.{active, frame_in, state_in}
use Rattle.activations.specs.Turning.{changes_of, due_by, found_move, moved_as, moved_if, moved_to, state_by}
use Rattle.prepared_code.specs.Versions.{Setup, listing_of, mark_of}
use Rattle.activations.proofs.MovesCarried.{IsCarried, move-carried}
use Rattle.prepared_code.proofs.Initializing.InitializingStacks.{length-active}
use Rattle.prepared_code.proofs.Initializing.InitializingStacks.{none-left, stack-empty, stack-frame}

pub top-frame : (ms : List Initialization) (f : PlacedFrame) (fs : List PlacedFrame) → initialization_on (length (f ∷ fs)) ms ≡ None
    → stack_of (map active (f ∷ fs)) ms ≡ active f ∷ stack_of (map active fs) ms
top-frame ms f fs none = stack-frame (active f) (map active fs) ms (ap (λ n. initialization_on (suc n) ms) (length-active fs) ∙ none)

-- ---- the live activations do not see the initializations

module _ (v : ℕ → Mark) where
  held-behind : (ms : List Initialization) (es : List Entry) → helds v (map initializing_entry ms ++ es) ≡ helds v es
  held-behind [] es = refl
  held-behind (m ∷ ms) es = held-behind ms es

  held-initializing : (ms : List Initialization) → helds v (map initializing_entry ms) ≡ []
  held-initializing [] = refl
  held-initializing (m ∷ ms) = held-initializing ms

  pub held-stack : (es : List Entry) (ms : List Initialization) → helds v (stack_of es ms) ≡ helds v es
  unfolding stack_of above beneath
  held-stack [] ms = held-initializing ms
  held-stack (Active f ∷ es) ms =
      held-behind (above (suc (length es)) ms) (Active f ∷ stack_of es (beneath (suc (length es)) ms))
      ∙ ap (λ more. let all : List Held = frame_held v f ∷ more in all) (held-stack es (beneath (suc (length es)) ms))
  held-stack (Initializing c part ∷ es) ms =
      held-behind (above (suc (length es)) ms) (Initializing c part ∷ stack_of es (beneath (suc (length es)) ms))
      ∙ held-stack es (beneath (suc (length es)) ms)

-- ---- what a move changes

module _ (ms : List Initialization) (w : Setup) (begun : Bool) (shared : Shared) (output : List ℕ) where
  abbrev t : Listing
  t = listing_of w.versions

  abbrev at : List Entry → Option ℕ → Option Ending → State
  at es thrown ending = record { stack = es; thrown = thrown; begun = begun; shared = shared; output = output; ending = ending }

  abbrev AreSame : List Entry → List Entry → Option ℕ → Option Ending → Type 0
  AreSame es all thrown ending =
      changes_of (moves w.world t (at es thrown ending) ending thrown es) ≡ changes_of (moves w.world t (at all thrown ending) ending thrown all)

  caught-changes : (x y : State) (r : ℕ) (f : Frame) (h : Option ℕ) → (throw_caught w.world t x r f h).changes ≡ (throw_caught w.world t y r f h).changes
  caught-changes x y r f None = refl
  caught-changes x y r f (Some target) = refl

  changes-carried : (fs : List PlacedFrame) (thrown : Option ℕ) (ending : Option Ending) → initialization_on (length (map active fs)) ms ≡ None
      → AreSame (map active fs) (stack_of (map active fs) ms) thrown ending
  changes-carried fs thrown (Some e) none = refl
  changes-carried [] (Some r) None none =
      subst (λ all. AreSame [] all (Some r) None) (sym (stack-empty ms ∙ ap (map initializing_entry) (none-left ms none))) refl
  changes-carried (f ∷ fs) (Some r) None none =
      subst (λ all. AreSame (map active (f ∷ fs)) all (Some r) None) (sym (stack-frame (active f) (map active fs) ms none))
      (caught-changes _ _ r (frame_in f) (handler_for w.world (class_of w.world.program shared r) f.place (t.handlers f.version)))
  changes-carried [] None None none =
      subst (λ all. AreSame [] all None None) (sym (stack-empty ms ∙ ap (map initializing_entry) (none-left ms none))) refl
  changes-carried (f ∷ fs) None None none =
      subst (λ all. AreSame (map active (f ∷ fs)) all None None) (sym (stack-frame (active f) (map active fs) ms none)) refl

-- ---- the move beneath the initializations

module _ (ms : List Initialization) (w : Setup) (p : Parts) (none : initialization_on (length p.frames.frames) ms ≡ None) where
  carried : IsCarried ms w (state_in p)
  carried = move-carried ms w p none

  same-changes : changes_of (found_move w (state_in p)) ≡ changes_of (found_move w (state_of ms p))
  same-changes = changes-carried ms w p.begun p.runtime.shared p.runtime.output p.frames.frames p.thrown p.ending (ap (λ n. initialization_on n ms) (length-active p.frames.frames) ∙ none)

  same-due : due_by w (state_in p) (changes_of (found_move w (state_in p))) ≡ due_by w (state_of ms p) (changes_of (found_move w (state_of ms p)))
  same-due =
      ap₂ (changes_due (mark_now (mark_of w.versions) (listing_of w.versions))) (sym (held-stack (mark_of w.versions) (map active p.frames.frames) ms)) same-changes

  pub moved-as-carried : moved_as w (state_in p) ≡ moved_as w (state_of ms p)
  moved-as-carried =
      ap (λ b. moved_if b (changes_of (found_move w (state_in p))) (due_by w (state_in p) (changes_of (found_move w (state_in p))))) carried.found
      ∙ (ap (λ cs. moved_if (is_some (found_move w (state_of ms p))) cs (due_by w (state_in p) (changes_of (found_move w (state_in p))))) same-changes
      ∙ ap (moved_if (is_some (found_move w (state_of ms p))) (changes_of (found_move w (state_of ms p)))) same-due)

  by-due : (x y : State) (d : Due) → with_initializations ms x ≡ y → with_initializations ms (state_by (state_in p) x d) ≡ state_by (state_of ms p) y d
  by-due x y Nothing e = e
  by-due x y (Ends k) e = refl
  by-due x y Begins e = e

  pub moved-to-carried : with_initializations ms (moved_to w (state_in p)) ≡ moved_to w (state_of ms p)
  moved-to-carried =
      by-due (after_move w (state_in p)) (after_move w (state_of ms p)) (due_by w (state_in p) (changes_of (found_move w (state_in p)))) carried.moved
      ∙ ap (state_by (state_of ms p) (after_move w (state_of ms p))) same-due

  -- of the parts that a move of the frames has left
  pub carried-to : (ns : List Initialization) (after : Parts) → ns ≡ ms → state_in after ≡ moved_to w (state_in p) → state_of ns after ≡ moved_to w (state_of ms p)
  carried-to ns after same e = ap (λ all. state_of all after) same ∙ (ap (with_initializations ms) e ∙ moved-to-carried)

  pub carried-as : {A : Type 0} (result : Result Moved A) → IfOk result (λ m. m ≡ moved_as w (state_in p)) → IfOk result (λ m. m ≡ moved_as w (state_of ms p))
  carried-as result e = subst (λ x. IfOk result (λ m. m ≡ x)) moved-as-carried e

-- ---- what stands on top is taken off

bare : (ms : List Initialization) → initialization_on 0 ms ≡ None → map initializing_entry ms ≡ drop 1 (map initializing_entry ms)
bare ms none = subst (λ all. map initializing_entry all ≡ drop 1 (map initializing_entry all)) (sym (none-left ms none)) refl

module _ (ms : List Initialization) (p : Parts) (new : FramesView) where
  popped-by : (fs : List PlacedFrame) (room : Option ℕ) → initialization_on (length fs) ms ≡ None
      → stack_of (map active (rest_of fs room).frames) ms ≡ drop 1 (stack_of (map active fs) ms)
  unfolding stack_of
  popped-by [] room none = bare ms none
  popped-by (f ∷ fs) room none = sym (ap (drop 1) (top-frame ms f fs none))

  pub popped-there : initialization_on (length p.frames.frames) ms ≡ None → new ≡ without_frame p.frames
      → state_of ms (record p { frames = new }) ≡ frame_popped (state_of ms p)
  popped-there none left =
      ap (λ (x : FramesView). state_of ms (record p { frames = x })) left
      ∙ ap (λ es. record (state_of ms p) { stack = es }) (popped-by p.frames.frames p.frames.room none)
