-- The frame of a static initializer begins on the current one, beneath no initialization; and how a static initializer
-- begins or can not.
use Rattle.std.proofs.Common.{◌≡◌, ℕ, suc, ◌+◌, Bool, true, false, cond, List, [], ◌∷◌, length, map, Option, Some, None, nat_le, nat_lt, refl, sym, ap, ◌∙◌, arith}
use Rattle.std.specs.Prelude.{◌&&◌}
use Rattle.std.proofs.lemmas.Bool.{le-leb}
use Rattle.heap_objects.specs.Changes.{changed_if}
use Rattle.frame_stack.specs.FrameLists.{PlacedFrame, FramesView, can_enter, top_operands, with_room}
use Rattle.jvm_model.specs.declared.state.Entry.{Entry}
use Rattle.jvm_model.specs.declared.state.Entry.TheVariants.{Active}
use Rattle.jvm_model.specs.declared.state.Part.TheVariants.{Finish}
use Rattle.jvm_model.specs.declared.state.State.{State}
use Rattle.jvm_model.specs.Running.Applies.{live_in, most_live, new_frame, still, with_frame}
use Rattle.jvm_model.specs.Basis.Data.{Began, Listing, Turn}
use Rattle.jvm_model.specs.Running.Moves.{at_part, raises, runs_initializer}
use Rattle.jvm_model.specs.Basis.Programs.{initializer_of, max_locals_of, max_stack_of}
use Rattle.jvm_model.specs.Basis.SharedState.{stack_overflow}
use Rattle.prepared_code.specs.declared.initializations.Initialization.{Initialization}
use Rattle.prepared_code.specs.declared.parts.Parts.{Parts}
use Rattle.prepared_code.specs.Initializations.{initialization_on, stack_of, state_of}
use Rattle.prepared_code.specs.States.{active, state_in}
use Rattle.activations.specs.Turning.{begun_in}
use Rattle.activations.proofs.Callees.{live-is}
use Rattle.prepared_code.proofs.Initializing.InitializingStacks.{length-active}
use Rattle.prepared_code.proofs.Initializing.InitializingStacks.{live-stack, stack-frame}
use Rattle.activations.specs.Arguments.{frame_begun as placed, with_version_frame}
use Rattle.prepared_code.specs.Versions.{Setup, listing_of}

-- a frame that takes nothing
begun-frames : (w : Setup) (m locals stack : ℕ) (fs : List PlacedFrame) (room : Option ℕ)
    → (with_version_frame w.versions m locals stack 0 (record { frames = fs; room = room })).frames ≡ placed w.versions m locals stack [] ∷ fs
begun-frames w m locals stack [] room = refl
begun-frames w m locals stack (f ∷ fs) room = refl

can-enter : (locals : ℕ) (fs : List PlacedFrame) → can_enter locals 0 fs ≡ true
can-enter locals fs =
    ap (λ b. b && nat_le 0 locals) (le-leb 0 (length (top_operands fs)) (omega arith)) ∙ le-leb 0 locals (omega arith)

frames-are : (w : Setup) (m locals stack : ℕ) (old mid new : FramesView) (entered : Bool) → mid ≡ with_room (locals + stack) old
    → entered ≡ can_enter locals 0 mid.frames → new ≡ changed_if entered (with_version_frame w.versions m locals stack 0) mid
    → new.frames ≡ placed w.versions m locals stack [] ∷ old.frames
frames-are w m locals stack old mid new entered roomy answer made =
    ap (λ (s : FramesView). s.frames) (made ∙ ap (λ b. changed_if b (with_version_frame w.versions m locals stack 0) mid) (answer ∙ can-enter locals mid.frames))
    ∙ (begun-frames w m locals stack mid.frames mid.room
    ∙ ap (λ (s : FramesView). let fs : List PlacedFrame = placed w.versions m locals stack [] ∷ s.frames in fs) roomy)

abbrev entry_of : Setup → ℕ → ℕ → ℕ → Entry
entry_of w m locals stack = active (placed w.versions m locals stack [])

entry-is : (w : Setup) (m locals stack : ℕ) → locals ≡ max_locals_of w.world m → stack ≡ max_stack_of w.world m
    → entry_of w m locals stack ≡ Active (new_frame w.world (listing_of w.versions) m [])
entry-is w m locals stack of_locals of_stack = ap (λ l. entry_of w m l stack) of_locals ∙ ap (entry_of w m (max_locals_of w.world m)) of_stack

pub begins-on : (w : Setup) (ms : List Initialization) (p : Parts) (m locals stack : ℕ) (mid new : FramesView) (entered : Bool)
    → locals ≡ max_locals_of w.world m → stack ≡ max_stack_of w.world m → mid ≡ with_room (locals + stack) p.frames
    → entered ≡ can_enter locals 0 mid.frames → new ≡ changed_if entered (with_version_frame w.versions m locals stack 0) mid
    → initialization_on (suc (length p.frames.frames)) ms ≡ None
    → state_of ms (record p { frames = new }) ≡ with_frame (state_of ms p) (new_frame w.world (listing_of w.versions) m [])
begins-on w ms p m locals stack mid new entered of_locals of_stack roomy answer made none =
    ap (λ es. record (state_in p) { stack = es })
    (ap (λ fs. stack_of (map active fs) ms) (frames-are w m locals stack p.frames mid new entered roomy answer made)
    ∙ (stack-frame (entry_of w m locals stack) (map active p.frames.frames) ms (ap (λ n. initialization_on (suc n) ms) (length-active p.frames.frames) ∙ none)
    ∙ ap (λ e. let all : List Entry = e ∷ stack_of (map active p.frames.frames) ms in all) (entry-is w m locals stack of_locals of_stack)))

-- ---- whether it begins

pub live-of : (ms : List Initialization) (p : Parts) → live_in (state_of ms p).stack ≡ length p.frames.frames
live-of ms p = live-stack (map active p.frames.frames) ms ∙ live-is p.frames.frames

module _ (w : Setup) (s : State) (c m : ℕ) (is : initializer_of w.world.program c ≡ Some m) where
  abbrev t : Listing
  t = listing_of w.versions

  abbrev chosen : Bool → Turn
  chosen b =
      cond b (record { after = with_frame (at_part s c Finish) (new_frame w.world t m []); changes = Began m ∷ [] }) (still (raises w.world (at_part s c Finish) stack_overflow None))

  runs-by : (b : Bool) → nat_lt (live_in s.stack) most_live ≡ b → (runs_initializer w.world t s c (initializer_of w.world.program c)).after ≡ (chosen b).after
  runs-by b few = ap (λ o. (runs_initializer w.world t s c o).after) is ∙ ap (λ x. (chosen x).after) few

  pub runs-begun : nat_lt (live_in s.stack) most_live ≡ true
      → (runs_initializer w.world t s c (initializer_of w.world.program c)).after ≡ with_frame (at_part s c Finish) (new_frame w.world t m [])
  runs-begun few = runs-by true few

  pub runs-over : nat_lt (live_in s.stack) most_live ≡ false
      → (runs_initializer w.world t s c (initializer_of w.world.program c)).after ≡ raises w.world (at_part s c Finish) stack_overflow None
  runs-over few = runs-by false few

  -- the method that has begun by that
  method-by : (b : Bool) → nat_lt (live_in s.stack) most_live ≡ b → begun_in (runs_initializer w.world t s c (initializer_of w.world.program c)).changes ≡ begun_in (chosen b).changes
  method-by b few = ap (λ o. begun_in (runs_initializer w.world t s c o).changes) is ∙ ap (λ x. begun_in (chosen x).changes) few

  pub method-begun : nat_lt (live_in s.stack) most_live ≡ true → Some m ≡ begun_in (runs_initializer w.world t s c (initializer_of w.world.program c)).changes
  method-begun few = sym (method-by true few)

  pub method-none : nat_lt (live_in s.stack) most_live ≡ false → None ≡ begun_in (runs_initializer w.world t s c (initializer_of w.world.program c)).changes
  method-none few = sym (method-by false few)
