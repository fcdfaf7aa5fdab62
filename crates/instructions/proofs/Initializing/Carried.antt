-- What a line does to the frames alone it does beneath the initializations on them.
use Rattle.std.proofs.Common.{◌≡◌, ℕ, suc, Bool, true, false, cond, List, [], ◌∷◌, length, map, Option, Some, None, nat_lt, refl, sym, ap, ◌∙◌}
use Rattle.std.specs.Option.{option_map}
use Rattle.std.proofs.lemmas.Bool.{false≢true}
use Rattle.heap_objects.specs.declared.datum.Datum.{Datum}
use Rattle.heap_objects.specs.declared.Value.TheVariants.{Addr}
use Rattle.const_pool.specs.declared.descriptor.Kind.{Kind}
use Rattle.frame_stack.specs.FrameLists.{PlacedFrame}
use Rattle.jvm_model.specs.declared.ending.Ending.TheVariants.{Exited}
use Rattle.jvm_model.specs.declared.state.Entry.{Entry}
use Rattle.jvm_model.specs.declared.state.Entry.TheVariants.{Active, Initializing}
use Rattle.jvm_model.specs.declared.state.Frame.{Frame}
use Rattle.jvm_model.specs.declared.state.State.{State}
use Rattle.jvm_model.specs.declared.instruction.Operation.{Operation}
use Rattle.jvm_model.specs.declared.instruction.Operation.TheVariants as operation
use Rattle.jvm_model.specs.Running.Applies.{still, breaks, place_of, enters_subroutine, new_frame, throws_at, has_room, begins, invocation_turn, most_live, live_in, applies}
use Rattle.jvm_model.specs.Instructions.ConstantRules.{pushes_string}
use Rattle.jvm_model.specs.Basis.Data.{Operands, Listing, Instruction, Outcome, GoesOn, Subroutine, Invokes, Returns, Throws, Raises, Initializes, Exits, Breaks, Turn}
use Rattle.jvm_model.specs.Instructions.LocalRules.{arithmetic_exception, by_zero, returns}
use Rattle.jvm_model.specs.Instructions.ObjectRules.{loads_element, makes, measures, array_element_of as element_of, stores_element, storing_of, throws, watches}
use Rattle.jvm_model.specs.Basis.SharedState.{Allocated, exception_raised, stack_overflow}
use Rattle.jvm_model.specs.Basis.Values.{as_value, int_of, ref_of, with_value}
use Rattle.jvm_basic.specs.Outcomes.{Outcome as Comes, GoesOn as Goes, Raises as Divides, Breaks as Fails, Leaves}
use Rattle.jvm_basic.specs.Rules.{rule_of}
use Rattle.prepared_lines.specs.declared.line.LocalAction.{LocalAction}
use Rattle.prepared_lines.specs.declared.line.LocalAction.TheVariants as local_action
use Rattle.prepared_lines.specs.declared.line.Line.{Line}
use Rattle.prepared_code.specs.declared.initializations.Initialization.{Initialization}
use Rattle.activations.specs.Applied.{placed_line, resumes_line, gives_back_line, returns_or_ends, acts_return, acts_end, ends_initializer}
use Rattle.instructions.specs.Acts.{comes_to, acts_by, acts, is_named}
use Rattle.prepared_code.specs.Initializations.{initializing_entry, initialization_on, stack_of, with_initializations}
use Rattle.prepared_code.specs.States.{active}
use Rattle.activations.proofs.ConcludedOutcomes.{stays}
use Rattle.instructions.proofs.Attempts.LineActs.{throws-stays, watches-stays, measures-stays, loads-stays, makes-silent, stores-silent, string-silent}
use Rattle.prepared_code.proofs.Initializing.InitializingStacks.{none-more, none-left, stack-empty, stack-frame, live-stack}
use Rattle.prepared_code.specs.Tables.{Versions}
use Rattle.prepared_code.specs.Versions.{Setup, listing_of, line_at, next_in}
use Rattle.activations.proofs.MovesCarried.{IsFree, framed, breaks-carried, goes-carried}

-- a line with this action does not end the activation
abbrev pub goes_within : Operation LocalAction → Bool
goes_within (operation.Within (local_action.Return k)) = false
goes_within _ = true

module _ (ms : List Initialization) where
  throws-carried : (s : State) (f : Frame) (a : Allocated) → IsFree ms s → with_initializations ms (throws_at s f a) ≡ throws_at (with_initializations ms s) f a
  throws-carried s f a free = ap (λ es. record s { stack = es; shared = a.shared; thrown = Some a.reference }) (framed ms s f free)

  -- ---- an outcome after which the activation stays

  subroutine-carried : (i : Instruction) (s : State) (f : Frame) (next : Option ℕ) → IsFree ms s
      → with_initializations ms (enters_subroutine s f i next) ≡ enters_subroutine (with_initializations ms s) f i next
  subroutine-carried i s f None free = breaks-carried ms s f i.own free
  subroutine-carried i s f (Some next) free = goes-carried ms s f i.own f.locals (Addr next ∷ f.operands) _ free

  begins-carried : (w : Setup) (t : Listing) (s : State) (f : Frame) (m : ℕ) (args : List Datum) (rest : Operands) → IsFree ms s
      → with_initializations ms (begins w.world t s f m args rest).after ≡ (begins w.world t (with_initializations ms s) f m args rest).after
  begins-carried w t s f m args rest free =
      ap (λ es. record s { stack = es })
      (stack-frame (Active (new_frame w.world t m args)) (Active (record f { operands = rest }) ∷ s.stack) ms (none-more (suc (length s.stack)) ms free)
      ∙ ap (λ es. let all : List Entry = Active (new_frame w.world t m args) ∷ es in all) (framed ms s (record f { operands = rest }) free))

  invokes-carried : (w : Setup) (t : Listing) (i : Instruction) (s : State) (f : Frame) (m : ℕ) (args : List Datum) (rest : Operands) → IsFree ms s
      → with_initializations ms (invocation_turn w.world t i s f m args rest).after ≡ (invocation_turn w.world t i (with_initializations ms s) f m args rest).after
  invokes-carried w t i s f m args rest free =
      by (has_room w.world m args) (nat_lt (suc (live_in s.stack)) most_live)
      ∙ ap (λ n. (delivered (has_room w.world m args) (nat_lt (suc n) most_live)).after) (sym (live-stack s.stack ms))
    where
      over : State → Turn
      over x = still (throws_at x f (exception_raised w.world x.shared stack_overflow None))

      delivered : Bool → Bool → Turn
      delivered b few = cond b (cond few (begins w.world t (with_initializations ms s) f m args rest) (over (with_initializations ms s))) (still (breaks (with_initializations ms s) f i.own))

      by : (b few : Bool) → with_initializations ms (cond b (cond few (begins w.world t s f m args rest) (over s)) (still (breaks s f i.own))).after ≡ (delivered b few).after
      by true true = begins-carried w t s f m args rest free
      by true false = throws-carried s f (exception_raised w.world s.shared stack_overflow None) free
      by false few = breaks-carried ms s f i.own free

  pub applies-carried : (w : Setup) (t : Listing) (i : Instruction) (q : Outcome) → stays q ≡ true → (s : State) (f : Frame) → IsFree ms s
      → with_initializations ms (applies w.world t i q s f).after ≡ (applies w.world t i q (with_initializations ms s) f).after
  applies-carried w t i (GoesOn l o to) kept s f free = goes-carried ms s f i.own l o (place_of i to) free
  applies-carried w t i Subroutine kept s f free = subroutine-carried i s f i.next free
  applies-carried w t i (Invokes m args rest) kept s f free = invokes-carried w t i s f m args rest free
  applies-carried w t i (Throws r) kept s f free = throws-carried s f (record { shared = s.shared; reference = r }) free
  applies-carried w t i (Raises name message) kept s f free = throws-carried s f (exception_raised w.world s.shared name message) free
  applies-carried w t i (Exits n) kept s f free = ap (λ es. record s { stack = es; ending = Some (Exited n) }) (framed ms s f free)
  applies-carried w t i (Breaks false) kept s f free = breaks-carried ms s f i.own free
  applies-carried w t i (Breaks true) kept s f free = absurd (false≢true kept)
  applies-carried w t i (Returns d) kept s f free = absurd (false≢true kept)
  applies-carried w t i (Initializes c) kept s f free = absurd (false≢true kept)

  -- ---- a line

  pub comes-carried : (w : Setup) (line : Line) (s : State) (f : Frame) (x : Comes) → IsFree ms s → with_initializations ms (comes_to w line s f x) ≡ comes_to w line (with_initializations ms s) f x
  comes-carried w line s f (Goes l o place) free = goes-carried ms s f line.instr.at l o (Some place) free
  comes-carried w line s f (Divides class) free = throws-carried s f (exception_raised w.world s.shared arithmetic_exception (Some by_zero)) free
  comes-carried w line s f Fails free = breaks-carried ms s f line.instr.at free
  comes-carried w line s f Leaves free = breaks-carried ms s f line.instr.at free

  operation-carried : (w : Setup) (line : Line) (s : State) (f : Frame) (a : Operation LocalAction) → IsFree ms s → is_named a ≡ false → goes_within a ≡ true
      → with_initializations ms (acts_by w line s f a) ≡ acts_by w line (with_initializations ms s) f a
  operation-carried w line s f (operation.Named n) free none within = absurd (false≢true (sym none))
  operation-carried w line s f (operation.Within local_action.Basic) free none within = comes-carried w line s f (rule_of line.instr line.constant line.next f.locals f.operands) free
  operation-carried w line s f (operation.Within (local_action.Return k)) free none within = absurd (false≢true within)
  operation-carried w line s f operation.Athrow free none within =
      applies-carried w (listing_of w.versions) (placed_line line) (throws w.world s.shared (ref_of f.operands)) (throws-stays w s.shared (ref_of f.operands)) s f free
  operation-carried w line s f operation.Monitor free none within =
      applies-carried w (listing_of w.versions) (placed_line line) (watches (ref_of f.operands) f.locals f.operands) (watches-stays (ref_of f.operands) f.locals f.operands) s f free
  operation-carried w line s f operation.Arraylength free none within =
      applies-carried w (listing_of w.versions) (placed_line line) (measures (ref_of f.operands) s.shared f.locals f.operands)
      (measures-stays (ref_of f.operands) s.shared f.locals f.operands) s f free
  operation-carried w line s f (operation.Newarray kind) free none within =
      let d = makes kind (int_of f.operands) s.shared f.locals f.operands in
      applies-carried w (listing_of w.versions) (placed_line line) d.outcome (makes-silent kind (int_of f.operands) s.shared f.locals f.operands).kept
      (record s { shared = d.shared }) f free
  operation-carried w line s f (operation.LoadElement k) free none within =
      applies-carried w (listing_of w.versions) (placed_line line) (loads_element k (element_of f.operands) s.shared f.locals f.operands)
      (loads-stays k (element_of f.operands) s.shared f.locals f.operands) s f free
  operation-carried w line s f (operation.StoreElement k) free none within =
      let d = stores_element w.world.program k (storing_of k f.operands) s.shared f.locals f.operands in
      applies-carried w (listing_of w.versions) (placed_line line) d.outcome (stores-silent w.world.program k (storing_of k f.operands) s.shared f.locals f.operands).kept
      (record s { shared = d.shared }) f free
  operation-carried w line s f (operation.LdcString units) free none within =
      let d = pushes_string w.world.program units s.shared f.locals f.operands in
      applies-carried w (listing_of w.versions) (placed_line line) d.outcome (string-silent w.world.program units s.shared f.locals f.operands).kept
      (record s { shared = d.shared }) f free

  -- ---- a return

  resumes-carried : (s : State) (caller : Frame) (d : Option Datum) (lo : Option Line) → IsFree ms s
      → with_initializations ms (resumes_line s caller d lo) ≡ resumes_line (with_initializations ms s) caller d lo
  resumes-carried s caller d None free = breaks-carried ms s caller 0 free
  resumes-carried s caller d (Some line) free =
      goes-carried ms s caller line.instr.at caller.locals (with_value (option_map as_value d) caller.operands) (next_in line) free

  -- to a caller without an initialization on it
  back-carried : (v : Versions) (s : State) (d : Option Datum) (fs : List PlacedFrame) → initialization_on (length (map active fs)) ms ≡ None
      → with_initializations ms (gives_back_line v (record s { stack = map active fs }) d (map active fs))
      ≡ gives_back_line v (record s { stack = stack_of (map active fs) ms }) d (stack_of (map active fs) ms)
  back-carried v s d [] none =
      let nothing : stack_of [] ms ≡ [] = stack-empty ms ∙ ap (map initializing_entry) (none-left ms none) in
      sym (ap (λ es. gives_back_line v (record s { stack = stack_of [] ms }) d es) nothing)
  back-carried v s d (f ∷ fs) none =
      resumes-carried (record s { stack = map active fs }) _ d (line_at v f.version f.place) none
      ∙ sym (ap (λ es. gives_back_line v (record s { stack = es }) d es) (stack-frame (active f) (map active fs) ms none))

  return-carried : (w : Setup) (line : Line) (s : State) (f : Frame) (fs : List PlacedFrame) (q : Outcome) → initialization_on (length (map active fs)) ms ≡ None
      → with_initializations ms (returns_or_ends w line (record s { stack = map active fs }) f q)
      ≡ returns_or_ends w line (with_initializations ms (record s { stack = map active fs })) f q
  return-carried w line s f fs (Returns d) none = back-carried w.versions s d fs none
  return-carried w line s f fs (Breaks b) none = refl
  return-carried w line s f fs (GoesOn m o to) none = refl
  return-carried w line s f fs Subroutine none = refl
  return-carried w line s f fs (Raises name message) none = refl
  return-carried w line s f fs (Invokes m args rest) none = refl
  return-carried w line s f fs (Throws r) none = refl
  return-carried w line s f fs (Initializes c) none = refl
  return-carried w line s f fs (Exits n) none = refl

  -- every line, where no initialization stands beneath the frame at a return
  pub line-carried : (w : Setup) (line : Line) (s : State) (f : Frame) (fs : List PlacedFrame) → s.stack ≡ map active fs → IsFree ms s → is_named line.operation ≡ false
      → (goes_within line.operation ≡ false → initialization_on (length (map active fs)) ms ≡ None)
      → with_initializations ms (acts w line s f) ≡ acts w line (with_initializations ms s) f
  line-carried w line s f fs is free none beneath_it = by line.operation none beneath_it where
    by : (a : Operation LocalAction) → is_named a ≡ false → (goes_within a ≡ false → initialization_on (length (map active fs)) ms ≡ None)
        → with_initializations ms (acts_by w line s f a) ≡ acts_by w line (with_initializations ms s) f a
    by (operation.Within (local_action.Return k)) none below =
        ap (λ es. with_initializations ms (acts_return w line k (record s { stack = es }) f)) is
        ∙ (return-carried w line s f fs (returns k f.operands) (below refl)
        ∙ sym (ap (λ es. acts_return w line k (with_initializations ms (record s { stack = es })) f) is))
    by (operation.Within local_action.Basic) none below = operation-carried w line s f (operation.Within local_action.Basic) free none refl
    by (operation.Named n) none below = absurd (false≢true (sym none))
    by operation.Athrow none below = operation-carried w line s f operation.Athrow free none refl
    by operation.Monitor none below = operation-carried w line s f operation.Monitor free none refl
    by operation.Arraylength none below = operation-carried w line s f operation.Arraylength free none refl
    by (operation.Newarray kind) none below = operation-carried w line s f (operation.Newarray kind) free none refl
    by (operation.LoadElement k) none below = operation-carried w line s f (operation.LoadElement k) free none refl
    by (operation.StoreElement k) none below = operation-carried w line s f (operation.StoreElement k) free none refl
    by (operation.LdcString units) none below = operation-carried w line s f (operation.LdcString units) free none refl

  -- ---- a return of a static initializer

  ends-by : (w : Setup) (line : Line) (s : State) (f : Frame) (c : ℕ) (rest : List Entry) (part : _) (q : Outcome) → stack_of s.stack ms ≡ Initializing c part ∷ rest
      → with_initializations ms (ends_initializer line s f q) ≡ returns_or_ends w line (with_initializations ms s) f q
  ends-by w line s f c rest part (Returns d) is = sym (ap (gives_back_line w.versions (with_initializations ms s) d) is)
  ends-by w line s f c rest part (Breaks b) is = refl
  ends-by w line s f c rest part (GoesOn m o to) is = refl
  ends-by w line s f c rest part Subroutine is = refl
  ends-by w line s f c rest part (Raises name message) is = refl
  ends-by w line s f c rest part (Invokes m args down) is = refl
  ends-by w line s f c rest part (Throws r) is = refl
  ends-by w line s f c rest part (Initializes d) is = refl
  ends-by w line s f c rest part (Exits n) is = refl

  pub end-carried : (w : Setup) (line : Line) (k : Option Kind) (s : State) (f : Frame) (c : ℕ) (rest : List Entry) (part : _) → stack_of s.stack ms ≡ Initializing c part ∷ rest
      → with_initializations ms (acts_end line k s f) ≡ acts_return w line k (with_initializations ms s) f
  end-carried w line k s f c rest part is = ends-by w line s f c rest part (returns k f.operands) is
