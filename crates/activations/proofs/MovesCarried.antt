-- The moves of frames do beneath the initializations on other frames what they do to the frames alone.
use Rattle.std.proofs.Common.{◌≡◌, ℕ, suc, Bool, true, false, cond, List, [], ◌∷◌, length, map, Option, Some, None, nat_le, refl, sym, ap, subst, ◌∙◌}
use Rattle.std.specs.Prelude.{is_some}
use Rattle.std.specs.Option.{option_map_or}
use Rattle.heap_objects.specs.declared.Value.TheVariants.{Ref}
use Rattle.frame_stack.specs.Widths.{height_of}
use Rattle.frame_stack.specs.FrameLists.{PlacedFrame}
use Rattle.jvm_model.specs.declared.ending.Ending.{Ending}
use Rattle.jvm_model.specs.declared.ending.Ending.TheVariants.{Returned, Uncaught, Unverifiable}
use Rattle.jvm_model.specs.declared.state.Entry.{Entry}
use Rattle.jvm_model.specs.declared.state.Entry.TheVariants.{Active}
use Rattle.jvm_model.specs.declared.state.Frame.{Frame}
use Rattle.jvm_model.specs.declared.state.Shared.{Shared}
use Rattle.jvm_model.specs.declared.state.State.{State}
use Rattle.jvm_model.specs.Running.Applies.{still, with_frame, breaks, goes, new_frame, has_room}
use Rattle.jvm_model.specs.Basis.Data.{Locals, Operands, Listing, Began, Turn}
use Rattle.jvm_model.specs.Running.Moves.{argument_array, throw_caught, handler_for, main_or_end, move, moves, own_at}
use Rattle.jvm_model.specs.Basis.SharedState.{class_of}
use Rattle.prepared_code.specs.declared.initializations.Initialization.{Initialization}
use Rattle.prepared_code.specs.declared.parts.Parts.{Parts}
use Rattle.prepared_code.specs.Initializations.{initializing_entry, initialization_on, stack_of, with_initializations}
use Rattle.activations.specs.Settling.{after_move}
use Rattle.prepared_code.specs.States.{active, frame_in, state_in}
use Rattle.prepared_code.proofs.Initializing.InitializingStacks.{length-active, none-left, stack-empty, stack-plain, stack-frame}
use Rattle.prepared_code.specs.Versions.{Setup, listing_of}

-- no initialization stands above the frame that is taken off
abbrev pub IsFree : List Initialization → State → Type 0
IsFree ms s = initialization_on (suc (length s.stack)) ms ≡ None

module _ (ms : List Initialization) where
  -- ---- a frame is put back

  pub framed : (s : State) (f : Frame) → IsFree ms s → stack_of (Active f ∷ s.stack) ms ≡ Active f ∷ stack_of s.stack ms
  framed s f free = stack-frame (Active f) s.stack ms free

  pub breaks-carried : (s : State) (f : Frame) (own : ℕ) → IsFree ms s → with_initializations ms (breaks s f own) ≡ breaks (with_initializations ms s) f own
  breaks-carried s f own free = ap (λ es. record s { stack = es; ending = Some (Unverifiable f.method own) }) (framed s f free)

  pub goes-carried : (s : State) (f : Frame) (own : ℕ) (l : Locals) (o : Operands) (place : Option ℕ) → IsFree ms s
      → with_initializations ms (goes s f own l o place) ≡ goes (with_initializations ms s) f own l o place
  goes-carried s f own l o None free = breaks-carried s f own free
  goes-carried s f own l o (Some place) free = by (nat_le (height_of o) f.max_stack) where
    g : Frame
    g = record f { place = place; locals = l; operands = o }

    by : (b : Bool) → with_initializations ms (cond b (with_frame s g) (breaks s f own)) ≡ cond b (with_frame (with_initializations ms s) g) (breaks (with_initializations ms s) f own)
    by true = ap (λ es. record s { stack = es }) (framed s g free)
    by false = breaks-carried s f own free

  -- ---- the moves of frames, where no initialization stands on the current one

  abbrev after_of : State → Option Turn → State
  after_of s o = option_map_or (λ (turn : Turn). turn.after) o s

  pub record IsCarried (w : Setup) (s : State) : Type 0 where
    pub moved : with_initializations ms (after_move w s) ≡ after_move w (with_initializations ms s)
    pub found : is_some (move w.world (listing_of w.versions) s) ≡ is_some (move w.world (listing_of w.versions) (with_initializations ms s))

  module _ (w : Setup) (begun : Bool) (shared : Shared) (output : List ℕ) where
    abbrev t : Listing
    t = listing_of w.versions

    abbrev at : List Entry → Option ℕ → Option Ending → State
    at es thrown ending = record { stack = es; thrown = thrown; begun = begun; shared = shared; output = output; ending = ending }

    -- the moves of the frames and of the whole stack, by what they are made of
    abbrev AreCarried : List Entry → List Entry → Option ℕ → Option Ending → Type 0
    AreCarried es all thrown ending =
        (with_initializations ms (after_of (at es thrown ending) (moves w.world t (at es thrown ending) ending thrown es)) ≡ after_of (at all thrown ending) (moves w.world t (at all thrown ending) ending thrown all))
        × (is_some (moves w.world t (at es thrown ending) ending thrown es) ≡ is_some (moves w.world t (at all thrown ending) ending thrown all))

    caught-carried : (es : List Entry) (r : ℕ) (f : Frame) (h : Option ℕ) → initialization_on (suc (length es)) ms ≡ None
        → with_initializations ms (throw_caught w.world t (at es (Some r) None) r f h).after ≡ (throw_caught w.world t (at (stack_of es ms) (Some r) None) r f h).after
    caught-carried es r f None none = refl
    caught-carried es r f (Some target) none = goes-carried (at es None None) f (own_at t f) f.locals (Ref r ∷ []) (Some target) none

    main-carried : (b : Bool) → initialization_on 0 ms ≡ None → with_initializations ms (main_or_end w.world t (at [] None None) b).after ≡ (main_or_end w.world t (at [] None None) b).after
    main-carried true none = ap (λ es. at es None (Some Returned)) (stack-empty ms ∙ ap (map initializing_entry) (none-left ms none))
    main-carried false none = by (has_room w.world w.world.program.main argument_array) where
      begun_main : State
      begun_main = record (at [] None None) { begun = true; stack = Active (new_frame w.world t w.world.program.main argument_array) ∷ [] }

      chosen : Bool → Turn
      chosen b = cond b (record { after = begun_main; changes = Began w.world.program.main ∷ [] }) (still (at [] None (Some (Unverifiable w.world.program.main 0))))

      by : (b : Bool) → with_initializations ms (chosen b).after ≡ (chosen b).after
      by true =
          ap (λ es. record begun_main { stack = es })
          (ap (stack_of (Active (new_frame w.world t w.world.program.main argument_array) ∷ [])) (none-left ms none) ∙ stack-plain (Active (new_frame w.world t w.world.program.main argument_array) ∷ []))
      by false = ap (λ es. at es None (Some (Unverifiable w.world.program.main 0))) (stack-empty ms ∙ ap (map initializing_entry) (none-left ms none))

    moves-carried : (fs : List PlacedFrame) (thrown : Option ℕ) (ending : Option Ending) → initialization_on (length (map active fs)) ms ≡ None
        → AreCarried (map active fs) (stack_of (map active fs) ms) thrown ending
    moves-carried fs thrown (Some e) none = (refl, refl)
    moves-carried [] (Some r) None none =
        let nothing : stack_of [] ms ≡ [] = stack-empty ms ∙ ap (map initializing_entry) (none-left ms none) in
        subst (λ all. AreCarried [] all (Some r) None) (sym nothing) (ap (λ es. at es (Some r) (Some (Uncaught (class_of w.world.program shared r)))) nothing, refl)
    moves-carried (f ∷ fs) (Some r) None none =
        subst (λ all. AreCarried (map active (f ∷ fs)) all (Some r) None) (sym (stack-frame (active f) (map active fs) ms none))
        (caught-carried (map active fs) r (frame_in f) (handler_for w.world (class_of w.world.program shared r) f.place (t.handlers f.version)) none, refl)
    moves-carried [] None None none =
        let nothing : stack_of [] ms ≡ [] = stack-empty ms ∙ ap (map initializing_entry) (none-left ms none) in
        subst (λ all. AreCarried [] all None None) (sym nothing) (main-carried begun none, refl)
    moves-carried (f ∷ fs) None None none =
        subst (λ all. AreCarried (map active (f ∷ fs)) all None None) (sym (stack-frame (active f) (map active fs) ms none))
        (ap (λ es. at es None None) (stack-frame (active f) (map active fs) ms none), refl)

  pub move-carried : (w : Setup) (p : Parts) → initialization_on (length p.frames.frames) ms ≡ None → IsCarried w (state_in p)
  move-carried w p none =
      let both = moves-carried w p.begun p.runtime.shared p.runtime.output p.frames.frames p.thrown p.ending (ap (λ n. initialization_on n ms) (length-active p.frames.frames) ∙ none) in
      record { moved = both.0; found = both.1 }
