-- A line that its frame does by itself is a step without changes: nothing begins, nothing ends, nothing is loaded.
use Rattle.std.proofs.Common.{◌≡◌, ℕ, Bool, true, false, cond, List, [], ◌∷◌, ◌++◌, length, map, Option, Some, None, refl, sym, ap, ap₂, subst, ◌∙◌}
use Rattle.std.specs.Prelude.{nat_le, slice_get}
use Rattle.std.specs.Option.{IfSome, option_map}
use Rattle.heap_objects.specs.declared.Value.TheVariants.{Addr}
use Rattle.frame_stack.specs.Widths.{height_of}
use Rattle.const_pool.specs.declared.descriptor.Kind.{Kind}
use Rattle.frame_stack.specs.FrameLists.{PlacedFrame}
use Rattle.jvm_model.specs.declared.state.Entry.{Entry}
use Rattle.jvm_model.specs.declared.state.Entry.TheVariants.{Active}
use Rattle.jvm_model.specs.declared.state.Frame.{Frame}
use Rattle.jvm_model.specs.declared.state.State.{State}
use Rattle.jvm_model.specs.Running.Applies.{applies, enters_subroutine, goes, place_of, still, with_frame}
use Rattle.jvm_model.specs.Basis.Data.{Breaks, Done, Exits, GoesOn, Initializes, Instruction, Invokes, Locals, Operands, Outcome, Raises, Returns, Subroutine, Listing, Throws, Turn, Where, Next as Following}
use Rattle.jvm_model.specs.declared.instruction.Local.{Local}
use Rattle.jvm_model.specs.declared.instruction.Operation.TheVariants.{Arraylength, LoadElement, StoreElement, Within}
use Rattle.jvm_model.specs.declared.instruction.Operation.{Operation}
use Rattle.jvm_model.specs.declared.instruction.Operation.TheVariants as operation
use Rattle.jvm_model.specs.Instructions.Does.{does, loads}
use Rattle.jvm_model.specs.Codes.Lines.{targets_of}
use Rattle.jvm_model.specs.Basis.Values.{ref_of}
use Rattle.jvm_model.specs.Instructions.LocalRules.{within}
use Rattle.jvm_model.specs.Running.Moves.{moves_left, move, moves, turn_settled}
use Rattle.jvm_model.specs.Instructions.ObjectRules.{done, loads_element, measures, array_element_of as element_of, stores_element, storing_of}
use Rattle.jvm_model.specs.Running.Run.{goes_again, loaded_turn, starts, step, steps_at, steps_by, steps_on, tries, with_classes_loaded}
use Rattle.jvm_model.proofs.Running.QuietSettles.{stops}
use Rattle.jvm_basic.specs.declared.effect.Effect.TheVariants.{Next}
use Rattle.jvm_basic.specs.Outcomes.{effect_in}
use Rattle.jvm_basic.specs.Rules.{outcome_placed, rule_of}
use Rattle.prepared_lines.specs.declared.line.LocalAction.TheVariants as local_action
use Rattle.prepared_lines.specs.declared.line.Line.{Line}
use Rattle.prepared_code.specs.declared.initializations.Initialization.{Initialization}
use Rattle.prepared_code.specs.declared.parts.Parts.{Parts}
use Rattle.prepared_code.specs.Initializations.{stack_of, with_initializations}
use Rattle.prepared_code.specs.Ready.{CanRun, IsOwnLine}
use Rattle.prepared_code.specs.Runs.{IsAtInstruction, IsPlainLine}
use Rattle.prepared_code.specs.States.{active, frame_in, state_with}
use Rattle.prepared_code.specs.Versions.{Setup, instruction_in, line_at, local_in, operation_as, operation_in, listing_of}
use Rattle.activations.proofs.TurnsCarried.{top-frame}

module _ (w : Setup) where
  abbrev t : Listing
  t = listing_of w.versions

  -- ---- nothing follows

  pub with-frame-rests : (s : State) (f : Frame) → s.ending ≡ None → s.thrown ≡ None → move w.world t (with_frame s f) ≡ None
  with-frame-rests s f at_instruction nothing = ap₂ (λ e r. moves w.world t (with_frame s f) e r (Active f ∷ s.stack)) at_instruction nothing

  pub goes-rests : (s : State) (f : Frame) (own : ℕ) (l : Locals) (o : Operands) (place : Option ℕ) → s.ending ≡ None → s.thrown ≡ None → move w.world t (goes s f own l o place) ≡ None
  goes-rests s f own l o None at_instruction nothing = refl
  goes-rests s f own l o (Some place) at_instruction nothing = by (nat_le (height_of o) f.max_stack) where
    by : (b : Bool) → move w.world t (cond b (with_frame s (record f { place = place; locals = l; operands = o })) (goes s f own l o None)) ≡ None
    by true = with-frame-rests s (record f { place = place; locals = l; operands = o }) at_instruction nothing
    by false = refl

  enters-rests : (s : State) (f : Frame) (i : Instruction) (next : Option ℕ) → s.ending ≡ None → s.thrown ≡ None → move w.world t (enters_subroutine s f i next) ≡ None
  enters-rests s f i None at_instruction nothing = refl
  enters-rests s f i (Some next) at_instruction nothing = goes-rests s f i.own f.locals (Addr next ∷ f.operands) (slice_get i.targets 0) at_instruction nothing

  settled-quiet : (s : State) → move w.world t s ≡ None → (turn_settled w.world t (still s)).changes ≡ []
  settled-quiet s none = ap (λ (a : Turn). a.changes) (stops w.world t (moves_left s) (still s) none)

  -- ---- the frame goes on

  pub record IsQuiet (i : Instruction) (q : Outcome) (s : State) (f : Frame) : Type 0 where
    pub alone : starts q ≡ None
    pub quiet : (turn_settled w.world t (applies w.world t i q s f)).changes ≡ []

  goes-quiet : (i : Instruction) (q : Outcome) (s : State) (f : Frame) (next : ℕ) (targets : List ℕ) (m : Locals) (o : Operands) (fs : List PlacedFrame) → effect_in (outcome_placed next targets m o q) fs ≡ Next
      → s.ending ≡ None → s.thrown ≡ None → IsQuiet i q s f
  goes-quiet i (GoesOn l o' to) s f next targets m o fs on at_instruction nothing =
      record { alone = refl; quiet = settled-quiet (goes s f i.own l o' (place_of i to)) (goes-rests s f i.own l o' (place_of i to) at_instruction nothing) }
  goes-quiet i Subroutine s f next targets m o fs on at_instruction nothing =
      record { alone = refl; quiet = settled-quiet (enters_subroutine s f i i.next) (enters-rests s f i i.next at_instruction nothing) }
  goes-quiet i (Raises c message) s f next targets m o fs on at_instruction nothing = absurd cc
  goes-quiet i (Breaks true) s f next targets m o fs on at_instruction nothing = absurd cc
  goes-quiet i (Breaks false) s f next targets m o fs on at_instruction nothing = absurd cc
  goes-quiet i (Invokes k args below) s f next targets m o fs on at_instruction nothing = absurd cc
  goes-quiet i (Returns d) s f next targets m o fs on at_instruction nothing = absurd cc
  goes-quiet i (Throws r) s f next targets m o fs on at_instruction nothing = absurd cc
  goes-quiet i (Initializes c) s f next targets m o fs on at_instruction nothing = absurd cc
  goes-quiet i (Exits n) s f next targets m o fs on at_instruction nothing = absurd cc

  -- ---- an instruction within its frame

  abbrev pub step_by : Instruction → Operation Local → State → Frame → Turn
  step_by i op s f =
      let classes = loads w.world op s.shared f.operands in
      let ready = with_classes_loaded classes s in
      loaded_turn classes (steps_by w.world t i ready f (does w.world op ready.shared f.locals f.operands))

  within-quiet : (i : Instruction) (l : Local) (s : State) (f : Frame) → IsQuiet i (within l f.locals f.operands) (record s { output = s.output ++ [] }) f → (step_by i (Within l) s f).changes ≡ []
  within-quiet i l s f is =
      let d : Done = done s.shared (within l f.locals f.operands) in
      ap (λ o. (goes_again w.world t i s f o (tries w.world t i s f d)).changes) is.alone ∙ is.quiet

  -- ---- an element

  pub goes-on-quiet : (i : Instruction) (q : Outcome) (l : Locals) (o : Operands) (to : Where) (s : State) (f : Frame) → q ≡ GoesOn l o to → s.ending ≡ None → s.thrown ≡ None → IsQuiet i q s f
  goes-on-quiet i q l o to s f is at_instruction nothing =
      subst (λ x. IsQuiet i x s f) (sym is)
      (record { alone = refl; quiet = settled-quiet (goes s f i.own l o (place_of i to)) (goes-rests s f i.own l o (place_of i to) at_instruction nothing) })

  load-quiet : (i : Instruction) (k : Kind) (s : State) (f : Frame) → IsQuiet i (loads_element k (element_of f.operands) s.shared f.locals f.operands) (record s { output = s.output ++ [] }) f
      → (step_by i (LoadElement k) s f).changes ≡ []
  load-quiet i k s f is =
      let d : Done = done s.shared (loads_element k (element_of f.operands) s.shared f.locals f.operands) in
      ap (λ o. (goes_again w.world t i s f o (tries w.world t i s f d)).changes) is.alone ∙ is.quiet

  abbrev stored : Kind → State → Frame → Done
  stored k s f = stores_element w.world.program k (storing_of k f.operands) s.shared f.locals f.operands

  store-quiet : (i : Instruction) (k : Kind) (s : State) (f : Frame) → (let d = stored k s f in IsQuiet i d.outcome (record s { shared = d.shared; output = s.output ++ d.wrote }) f)
      → (step_by i (StoreElement k) s f).changes ≡ []
  store-quiet i k s f is =
      ap (λ o. (goes_again w.world t i s f o (tries w.world t i s f (stored k s f))).changes) is.alone ∙ is.quiet

  pub line-load-quiet : (line : Line) (k : Kind) (s : State) (f : Frame) (l : Locals) (o : Operands) → line.operation ≡ operation.LoadElement k
      → loads_element k (element_of f.operands) s.shared f.locals f.operands ≡ GoesOn l o Following → s.ending ≡ None → s.thrown ≡ None
      → (steps_at w.world t s f (Some (instruction_in line))).changes ≡ []
  line-load-quiet line k s f l o loads is at_instruction nothing =
      subst (λ op. (step_by (instruction_in line) op s f).changes ≡ []) (sym (ap (operation_as line) loads))
      (load-quiet (instruction_in line) k s f
      (goes-on-quiet (instruction_in line) (loads_element k (element_of f.operands) s.shared f.locals f.operands) l o Following (record s { output = s.output ++ [] }) f is at_instruction nothing))

  pub line-store-quiet : (line : Line) (k : Kind) (s : State) (f : Frame) (l : Locals) (o : Operands) → line.operation ≡ operation.StoreElement k
      → (stored k s f).outcome ≡ GoesOn l o Following → s.ending ≡ None → s.thrown ≡ None
      → (steps_at w.world t s f (Some (instruction_in line))).changes ≡ []
  line-store-quiet line k s f l o stores is at_instruction nothing =
      let d : Done = stored k s f in
      subst (λ op. (step_by (instruction_in line) op s f).changes ≡ []) (sym (ap (operation_as line) stores))
      (store-quiet (instruction_in line) k s f
      (goes-on-quiet (instruction_in line) d.outcome l o Following (record s { shared = d.shared; output = s.output ++ d.wrote }) f is at_instruction nothing))

  -- ---- a length

  length-quiet : (i : Instruction) (s : State) (f : Frame) → IsQuiet i (measures (ref_of f.operands) s.shared f.locals f.operands) (record s { output = s.output ++ [] }) f
      → (step_by i Arraylength s f).changes ≡ []
  length-quiet i s f is =
      let d : Done = done s.shared (measures (ref_of f.operands) s.shared f.locals f.operands) in
      ap (λ o. (goes_again w.world t i s f o (tries w.world t i s f d)).changes) is.alone ∙ is.quiet

  pub line-length-quiet : (line : Line) (s : State) (f : Frame) (l : Locals) (o : Operands) → line.operation ≡ operation.Arraylength
      → measures (ref_of f.operands) s.shared f.locals f.operands ≡ GoesOn l o Following → s.ending ≡ None → s.thrown ≡ None
      → (steps_at w.world t s f (Some (instruction_in line))).changes ≡ []
  line-length-quiet line s f l o length is at_instruction nothing =
      subst (λ op. (step_by (instruction_in line) op s f).changes ≡ []) (sym (ap (operation_as line) length))
      (length-quiet (instruction_in line) s f
      (goes-on-quiet (instruction_in line) (measures (ref_of f.operands) s.shared f.locals f.operands) l o Following (record s { output = s.output ++ [] }) f is at_instruction nothing))

  line-quiet : (line : Line) (s : State) (f : Frame) (fs : List PlacedFrame) → line.operation ≡ operation.Within local_action.Basic → IsOwnLine line
      → effect_in (rule_of line.instr line.constant line.next f.locals f.operands) fs ≡ Next → s.ending ≡ None → s.thrown ≡ None
      → (steps_at w.world t s f (Some (instruction_in line))).changes ≡ []
  line-quiet line s f fs local own on at_instruction nothing =
      let l : Local = local_in line in
      let op : operation_in line ≡ Within l = ap (operation_as line) local in
      let q : Outcome = within l f.locals f.operands in
      subst (λ o. (step_by (instruction_in line) o s f).changes ≡ []) (sym op)
      (within-quiet (instruction_in line) l s f
      (goes-quiet (instruction_in line) q (record s { output = s.output ++ [] }) f line.next (targets_of line.instr.arg) f.locals f.operands fs
      (ap (λ x. effect_in x fs) (sym (own.alone l op f.locals f.operands)) ∙ on) at_instruction nothing))

-- ---- a step

own-line : (w : Setup) (run : CanRun w) (version place : ℕ) (line : Line) → line_at w.versions version place ≡ Some line → IsOwnLine line
own-line w run version place line there = subst (λ o. IfSome o IsOwnLine) there (run.lines version place)

pub quiet-step : (w : Setup) (run : CanRun w) (line : Line) (ms : List Initialization) (p : Parts) (f : PlacedFrame) (fs : List PlacedFrame) → IsAtInstruction (length (f ∷ fs)) ms p → IsPlainLine w (f ∷ fs) line
    → effect_in (rule_of line.instr line.constant line.next f.locals f.operands) (f ∷ fs) ≡ Next
    → (step w.world (listing_of w.versions) (with_initializations ms (state_with (f ∷ fs) p))).changes ≡ []
quiet-step w run line ms p f fs at_instruction stands on =
    let s : State = with_initializations ms (state_with (f ∷ fs) p) in
    let under : List Entry = stack_of (map active fs) ms in
    let u : State = record s { stack = under } in
    ap (λ e. (steps_on w.world (listing_of w.versions) s e s.stack).changes) at_instruction.ending
    ∙ (ap (λ es. (steps_on w.world (listing_of w.versions) s None es).changes) (top-frame ms f fs at_instruction.executing)
    ∙ (ap (λ x. (steps_at w.world (listing_of w.versions) u (frame_in f) (option_map instruction_in x)).changes) stands.0
    ∙ line-quiet w line u (frame_in f) (f ∷ fs) stands.1 (own-line w run f.version f.place line stands.0) on at_instruction.ending at_instruction.thrown))
