-- A load or a store of an element that raises nothing is a step of the run, as one of the current frame alone is:
-- nothing follows from it.
use Rattle.std.proofs.Common.{◌≡◌, ℕ, zero, suc, Bool, true, false, List, [], ◌∷◌, drop, length, map, Option, Some, None, refl, sym, ap, ◌∙◌, arith}
use Rattle.std.specs.Prelude.{if◌then◌else◌, is_none, is_some, pos, ◌==◌, ◌&&◌}
use Rattle.std.specs.Option.{option_map}
use Rattle.std.proofs.lemmas.Bool.{false≢true, ne_eqb}
use Rattle.std.proofs.lemmas.Option.{none-some}
use Rattle.jf_bytes.proofs.Tests.{either}
use Rattle.const_pool.specs.declared.descriptor.Kind.{Kind}
use Rattle.heap_objects.specs.declared.datum.Datum.{Datum}
use Rattle.heap_objects.specs.declared.datum.Datum.TheVariants as datum
use Rattle.heap_objects.specs.declared.Value.TheVariants.{Int}
use Rattle.heap_objects.specs.Heaps.{HeapView, with_slot_at}
use Rattle.frame_stack.specs.FrameLists.{PlacedFrame, FramesView, has_frame, top_operands}
use Rattle.jvm_model.specs.declared.state.Shared.{Shared}
use Rattle.jvm_model.specs.declared.state.State.{State}
use Rattle.jvm_model.specs.Basis.Data.{Done, GoesOn, Locals, Next as Following, Operands, Raises}
use Rattle.jvm_model.specs.declared.program.Program.{Program}
use Rattle.jvm_model.specs.declared.instruction.Operation.TheVariants as operation
use Rattle.jvm_model.specs.Instructions.ObjectRules.{done, Storing, access_to, array_length, fits_array, loads_element, measures, array_element_of, stores_at, stores_element, storing_of}
use Rattle.jvm_model.specs.Running.Run.{step, steps_at, steps_on}
use Rattle.jvm_model.specs.Instructions.LocalRules.{replaces as gives_way}
use Rattle.jvm_model.specs.Basis.SharedState.{array_store, null_pointer}
use Rattle.jvm_model.specs.Basis.Values.{as_value, ref_of}
use Rattle.jvm_basic.specs.declared.effect.Effect.TheVariants.{Next}
use Rattle.jvm_basic.specs.Outcomes.{GoesOn as Goes, Rule, after, outcome_asked, effect_of, frames_in}
use Rattle.jvm_basic.specs.Rules.{replaces, rule_of}
use Rattle.symbolic_references.specs.Runtimes.{with_shared}
use Rattle.prepared_lines.specs.declared.line.Line.{Line}
use Rattle.prepared_code.specs.declared.initializations.Initialization.{Initialization}
use Rattle.prepared_code.specs.declared.parts.Here.{Here}
use Rattle.prepared_code.specs.declared.parts.Parts.{Parts}
use Rattle.instructions.specs.Acts.{acts, acts_by, acts_done, attempts_on, is_named, named_in}
use Rattle.activations.specs.Applied.{acts_asked, on_parts, on_top}
use Rattle.instructions.specs.Elements.{IsLoaded, IsMeasured, IsStored, drops_three, is_number}
use Rattle.prepared_code.specs.Initializations.{initialization_on, stack_of, state_of, with_initializations}
use Rattle.prepared_code.specs.Ready.{CanRun}
use Rattle.prepared_code.specs.Runs.{IsAtInstruction, IsLineIn, IsPlainLine, LeadsAlone, RunsVersion, top_version}
use Rattle.prepared_code.specs.States.{active, frame_in, here_of, state_in, state_with}
use Rattle.prepared_code.specs.Tables.{Version}
use Rattle.prepared_code.specs.Versions.{Setup, instruction_in, line_at, line_in, listing_of}
use Rattle.instructions.proofs.Attempts.Alone.{next-is}
use Rattle.instructions.proofs.Initializing.Beneath.{awaits-unnamed, does-beneath, does-there, top-there}
use Rattle.instructions.proofs.Initializing.Carried.{goes_within}
use Rattle.instructions.proofs.Attempts.ElementActs.{loads-at}
use Rattle.instructions.proofs.Silent.Leading.{leads-one, quiet-one}
use Rattle.instructions.proofs.Moves.LineSteps.{going-on, rests, step-attempts}
use Rattle.activations.proofs.TurnsCarried.{top-frame}
use Rattle.instructions.proofs.Silent.PlainSteps.{at-rest, framed, goes, plain-one, same-version, still-framed, still-many}
use Rattle.instructions.proofs.Silent.QuietLines.{line-length-quiet, line-load-quiet, line-store-quiet}

-- ---- where the current frame stands

abbrev pub StandsAt : Setup → List PlacedFrame → Line → Type 0
StandsAt w [] line = ⊥
StandsAt w (f ∷ fs) line = line_at w.versions f.version f.place ≡ Some line

pub stands-there : (w : Setup) (x : Version) (fs : List PlacedFrame) (line : Line) → RunsVersion w x fs → IsLineIn x fs line → StandsAt w fs line
stands-there w x [] line runs is = absurd is
stands-there w x (f ∷ fs) line runs is = ap (λ (o : Option Version). by o) runs ∙ is where
  by : Option Version → Option Line
  by None = None
  by (Some x) = line_in f.place x

module _ (w : Setup) (run : CanRun w) (line : Line) where
  -- ---- a line that names nothing, behind which the frame goes on

  module _ (old new : Parts) (unnamed : is_named line.operation ≡ false) (within : goes_within line.operation ≡ true)
      (done : state_in new ≡ on_parts (acts w line) old) (ending : new.ending ≡ old.ending) (thrown : new.thrown ≡ old.thrown)
      (many : length new.frames.frames ≡ length old.frames.frames) (has : has_frame new.frames.frames ≡ true) (framed_before : has_frame old.frames.frames ≡ true)
      (here : Here) (stands : here_of old.frames.frames ≡ Some here) (found : line_at w.versions here.version here.place ≡ Some line)
      (ms : List Initialization) (at_instruction : IsAtInstruction (length old.frames.frames) ms old) where
    attempted : state_of ms new ≡ attempts_on w (state_of ms old) (state_of ms old).stack
    attempted =
        does-beneath w line ms old new here.method old.frames.frames (top-there w ms old here old.frames.frames stands) at_instruction.executing unnamed
        (λ ends. absurd (false≢true (sym ends ∙ within))) done
        ∙ does-there w ms old line here stands at_instruction.executing found

    pub is-step : state_of ms new ≡ (step w.world (listing_of w.versions) (state_of ms old)).after
    is-step =
        let going = going-on ms old (goes old.ending (has_frame old.frames.frames && is_none (initialization_on (length old.frames.frames) ms)) at_instruction.ending
        (framed (length old.frames.frames) ms old.frames.frames at_instruction.executing refl framed_before)) in
        step-attempts w run (state_of ms old) going
        (awaits-unnamed w ms old here stands at_instruction.executing (ap named_in found ∙ unnamed))
        (state_of ms new) (state_of ms new) attempted
        (rests w (listing_of w.versions) ms new
        (at-rest new.ending new.thrown (has_frame new.frames.frames && is_none (initialization_on (length new.frames.frames) ms)) (ending ∙ at_instruction.ending) (thrown ∙ at_instruction.thrown)
        (framed (length old.frames.frames) ms new.frames.frames at_instruction.executing many has)))

  -- ---- it has no change, where a rule goes on

  module _ (p : Parts) (ms : List Initialization) where
    abbrev under : List PlacedFrame → State
    under fs = record (with_initializations ms (state_with fs p)) { stack = stack_of (map active fs) ms }

    step-at : (f : PlacedFrame) (fs : List PlacedFrame) → IsAtInstruction (length (f ∷ fs)) ms p → StandsAt w (f ∷ fs) line
        → (steps_at w.world (listing_of w.versions) (under fs) (frame_in f) (Some (instruction_in line))).changes ≡ []
        → (step w.world (listing_of w.versions) (with_initializations ms (state_with (f ∷ fs) p))).changes ≡ []
    step-at f fs at_instruction stands quiet =
        let s : State = with_initializations ms (state_with (f ∷ fs) p) in
        ap (λ e. (steps_on w.world (listing_of w.versions) s e s.stack).changes) at_instruction.ending
        ∙ (ap (λ es. (steps_on w.world (listing_of w.versions) s None es).changes) (top-frame ms f fs at_instruction.executing)
        ∙ (ap (λ x. (steps_at w.world (listing_of w.versions) (record s { stack = stack_of (map active fs) ms }) (frame_in f) (option_map instruction_in x)).changes) stands
        ∙ quiet))

  -- ---- loads

  module _ (k : Kind) (loads : line.operation ≡ operation.LoadElement k) (old new : Parts) (is : IsLoaded line k old new) where
    abbrev rule : Rule
    rule = replaces 2 (Some (as_value is.datum)) line.next

    load-asks : (fs : List PlacedFrame) → array_element_of (top_operands fs) ≡ Some (is.array, is.index) → (l : Locals)
        → loads_element k (array_element_of (top_operands fs)) old.runtime.shared l (top_operands fs) ≡ GoesOn l (as_value is.datum ∷ drop 2 (top_operands fs)) Following
    load-asks fs at l =
        ap (λ x. loads_element k x old.runtime.shared l (top_operands fs)) at
        ∙ sym (loads-at (access_to k is.array is.index old.runtime.shared.heap) is.array is.index is.datum old.runtime.shared l (top_operands fs) (sym is.there))

    load-quiet : (fs : List PlacedFrame) (ms : List Initialization) → array_element_of (top_operands fs) ≡ Some (is.array, is.index) → IsAtInstruction (length fs) ms old → StandsAt w fs line
        → (step w.world (listing_of w.versions) (with_initializations ms (state_with fs old))).changes ≡ []
    load-quiet [] ms at at_instruction stands = absurd stands
    load-quiet (f ∷ fs) ms at at_instruction stands =
        step-at old ms f fs at_instruction stands
        (line-load-quiet w line k (under old ms fs) (frame_in f) f.locals (as_value is.datum ∷ drop 2 f.operands) loads (load-asks (f ∷ fs) at f.locals) at_instruction.ending at_instruction.thrown)

    load-done : (fs : List PlacedFrame) → StandsAt w fs line → array_element_of (top_operands fs) ≡ Some (is.array, is.index)
        → effect_of rule (record { frames = fs; room = old.frames.room }) ≡ Next
        → state_with (frames_in (outcome_asked rule fs) fs) old ≡ on_top (acts w line) old fs
    load-done [] stands at goes = absurd stands
    load-done (f ∷ fs) stands at goes =
        next-is w line old (Goes f.locals (as_value is.datum ∷ drop 2 f.operands) line.next) f fs goes
        ∙ (sym (ap (acts_asked w line (state_with fs old) (frame_in f)) (load-asks (f ∷ fs) at f.locals))
        ∙ sym (ap (acts_by w line (state_with fs old) (frame_in f)) loads))

  -- ---- lengths

  not-null : (array count : ℕ) (h : HeapView) → array_length array h ≡ Some count → (array == 0) ≡ false
  not-null zero count h long = absurd (none-some count long)
  not-null (suc n) count h long = ne_eqb (suc n) 0 (λ e. omega (arith, e))

  module _ (length_of : line.operation ≡ operation.Arraylength) (old new : Parts) (is : IsMeasured line old new) where
    abbrev own_rule : Rule
    own_rule = replaces 1 (Some (Int (pos is.count))) line.next

    length-asks : (fs : List PlacedFrame) → ref_of (top_operands fs) ≡ Some is.array → (l : Locals)
        → measures (ref_of (top_operands fs)) old.runtime.shared l (top_operands fs) ≡ GoesOn l (Int (pos is.count) ∷ drop 1 (top_operands fs)) Following
    length-asks fs at l =
        ap (λ x. measures x old.runtime.shared l (top_operands fs)) at
        ∙ (ap (λ b. if b then Raises null_pointer None else gives_way 1 (option_map (λ count. Int (pos count)) (array_length is.array old.runtime.shared.heap)) l (top_operands fs)) (not-null is.array is.count old.runtime.shared.heap is.long)
        ∙ ap (λ n. gives_way 1 (option_map (λ count. Int (pos count)) n) l (top_operands fs)) is.long)

    length-quiet : (fs : List PlacedFrame) (ms : List Initialization) → ref_of (top_operands fs) ≡ Some is.array → IsAtInstruction (length fs) ms old → StandsAt w fs line
        → (step w.world (listing_of w.versions) (with_initializations ms (state_with fs old))).changes ≡ []
    length-quiet [] ms at at_instruction stands = absurd stands
    length-quiet (f ∷ fs) ms at at_instruction stands =
        step-at old ms f fs at_instruction stands
        (line-length-quiet w line (under old ms fs) (frame_in f) f.locals (Int (pos is.count) ∷ drop 1 f.operands) length_of (length-asks (f ∷ fs) at f.locals) at_instruction.ending at_instruction.thrown)

    length-done : (fs : List PlacedFrame) → StandsAt w fs line → ref_of (top_operands fs) ≡ Some is.array
        → effect_of own_rule (record { frames = fs; room = old.frames.room }) ≡ Next
        → state_with (frames_in (outcome_asked own_rule fs) fs) old ≡ on_top (acts w line) old fs
    length-done [] stands at goes = absurd stands
    length-done (f ∷ fs) stands at goes =
        next-is w line old (Goes f.locals (Int (pos is.count) ∷ drop 1 f.operands) line.next) f fs goes
        ∙ (sym (ap (acts_asked w line (state_with fs old) (frame_in f)) (length-asks (f ∷ fs) at f.locals))
        ∙ sym (ap (acts_by w line (state_with fs old) (frame_in f)) length_of))

  -- ---- stores

  fits-number : (p : Program) (d : Datum) (r : ℕ) (h : HeapView) → is_number d ≡ true → fits_array p d r h ≡ true
  fits-number p (datum.Int n) r h is = refl
  fits-number p (datum.Long n) r h is = refl
  fits-number p (datum.Ref v) r h is = absurd (false≢true is)

  module _ (k : Kind) (stores : line.operation ≡ operation.StoreElement k) (old new : Parts) (is : IsStored line k old new) where
    abbrev x : Storing
    x = is.storing

    abbrev stored : Shared
    stored = record old.runtime.shared { heap = with_slot_at x.array is.slot x.datum old.runtime.shared.heap }

    stored-at : (l : Locals) (o : Operands) → stores_at w.world.program (access_to k x.array x.index old.runtime.shared.heap) x.array x.index x.datum old.runtime.shared l o
        ≡ record { shared = stored; wrote = []; outcome = GoesOn l (drop 3 o) Following }
    stored-at l o =
        ap (λ a. stores_at w.world.program a x.array x.index x.datum old.runtime.shared l o) is.there
        ∙ ap (λ b. if b then record { shared = stored; wrote = []; outcome = GoesOn l (drop 3 o) Following } else done old.runtime.shared (Raises array_store None))
        (fits-number w.world.program x.datum x.array old.runtime.shared.heap is.number)

    store-asks : (fs : List PlacedFrame) → storing_of k (top_operands fs) ≡ Some x → (l : Locals)
        → stores_element w.world.program k (storing_of k (top_operands fs)) old.runtime.shared l (top_operands fs)
        ≡ record { shared = stored; wrote = []; outcome = GoesOn l (drop 3 (top_operands fs)) Following }
    store-asks fs at l = ap (λ o. stores_element w.world.program k o old.runtime.shared l (top_operands fs)) at ∙ stored-at l (top_operands fs)

    store-quiet : (fs : List PlacedFrame) (ms : List Initialization) → storing_of k (top_operands fs) ≡ Some x → IsAtInstruction (length fs) ms old → StandsAt w fs line
        → (step w.world (listing_of w.versions) (with_initializations ms (state_with fs old))).changes ≡ []
    store-quiet [] ms at at_instruction stands = absurd stands
    store-quiet (f ∷ fs) ms at at_instruction stands =
        step-at old ms f fs at_instruction stands
        (line-store-quiet w line k (under old ms fs) (frame_in f) f.locals (drop 3 f.operands) stores
        (ap (λ (d : Done). d.outcome) (store-asks (f ∷ fs) at f.locals)) at_instruction.ending at_instruction.thrown)

    store-done : (fs : List PlacedFrame) → StandsAt w fs line → storing_of k (top_operands fs) ≡ Some x
        → effect_of (drops_three line.next) (record { frames = fs; room = old.frames.room }) ≡ Next
        → state_with (frames_in (outcome_asked (drops_three line.next) fs) fs) (record old { runtime = with_shared stored old.runtime }) ≡ on_top (acts w line) old fs
    store-done [] stands at goes = absurd stands
    store-done (f ∷ fs) stands at goes =
        next-is w line (record old { runtime = with_shared stored old.runtime }) (Goes f.locals (drop 3 f.operands) line.next) f fs goes
        ∙ (sym (ap (acts_done w line (state_with fs old) (frame_in f)) (store-asks (f ∷ fs) at f.locals))
        ∙ sym (ap (acts_by w line (state_with fs old) (frame_in f)) stores))

-- ---- any of them

-- what the current frame does by itself
pub plain-alone : (w : Setup) (run : CanRun w) (line : Line) (old : Parts) (frames : FramesView) → IsPlainLine w old.frames.frames line
    → effect_of (rule_of line.instr line.constant line.next) old.frames ≡ Next → frames ≡ after (rule_of line.instr line.constant line.next) old.frames
    → LeadsAlone w old 1 (record old { frames = frames })
plain-alone w run line old frames stands e made =
    let plain = plain-one w run line old.frames frames stands e made in
    record {
      many = plain.many;
      ending = refl;
      thrown = refl;
      loaded = refl;
      world = refl;
      leads = λ ms at_instruction. plain.leads ms old at_instruction;
      quiet = λ ms at_instruction. plain.quiet ms old at_instruction;
    }

abbrev here-there : (w : Setup) (fs : List PlacedFrame) (line : Line) → StandsAt w fs line → Here
here-there w [] line stands = absurd stands
here-there w (f ∷ fs) line stands = record { version = f.version; method = f.method; place = f.place }

here-stands : (w : Setup) (fs : List PlacedFrame) (line : Line) (stands : StandsAt w fs line) → here_of fs ≡ Some (here-there w fs line stands)
here-stands w [] line stands = absurd stands
here-stands w (f ∷ fs) line stands = refl

here-found : (w : Setup) (fs : List PlacedFrame) (line : Line) (stands : StandsAt w fs line)
    → (let h = here-there w fs line stands in line_at w.versions h.version h.place) ≡ Some line
here-found w [] line stands = absurd stands
here-found w (f ∷ fs) line stands = stands

has-there : (w : Setup) (fs : List PlacedFrame) (line : Line) → StandsAt w fs line → has_frame fs ≡ true
has-there w [] line stands = absurd stands
has-there w (f ∷ fs) line stands = refl

-- the frames that a rule leaves
still-has : (r : Rule) (fs : List PlacedFrame) → has_frame fs ≡ true → has_frame (frames_in (outcome_asked r fs) fs) ≡ true
still-has r [] has = absurd (false≢true has)
still-has r (f ∷ fs) has = still-framed (r f.locals f.operands) f fs

module _ (w : Setup) (run : CanRun w) (line : Line) (k : Kind) (old new : Parts) (stands : StandsAt w old.frames.frames line) where
  -- from what is changed, and what that is a step of
  alone-by : (rule : Rule) (shared : Shared) → new ≡ record old { frames = after rule old.frames; runtime = with_shared shared old.runtime } → shared.loaded ≡ old.runtime.shared.loaded
      → is_named line.operation ≡ false → goes_within line.operation ≡ true → state_in new ≡ on_parts (acts w line) old
      → ((ms : List Initialization) → IsAtInstruction (length old.frames.frames) ms old → (step w.world (listing_of w.versions) (state_of ms old)).changes ≡ [])
      → LeadsAlone w old 1 new
  alone-by rule shared changed kept unnamed within does quiet =
      let many = ap (λ (p : Parts). length p.frames.frames) changed ∙ still-many (outcome_asked rule old.frames.frames) old.frames.frames in
      let has = ap (λ (p : Parts). has_frame p.frames.frames) changed ∙ still-has rule old.frames.frames (has-there w old.frames.frames line stands) in
      let ending = ap (λ (p : Parts). p.ending) changed in
      let thrown = ap (λ (p : Parts). p.thrown) changed in
      record {
        many = many;
        ending = ending;
        thrown = thrown;
        loaded = ap (λ (p : Parts). p.runtime.shared.loaded) changed ∙ kept;
        world = ap (λ (p : Parts). p.runtime.world) changed;
        leads = λ ms at_instruction.
            leads-one w (state_of ms old) (state_of ms new) (ap is_some at_instruction.ending)
            (is-step w run line old new unnamed within does ending thrown many has (has-there w old.frames.frames line stands)
            (here-there w old.frames.frames line stands) (here-stands w old.frames.frames line stands) (here-found w old.frames.frames line stands) ms at_instruction);
        quiet = λ ms at_instruction. quiet-one w (state_of ms old) (quiet ms at_instruction);
      }

  pub load-alone : line.operation ≡ operation.LoadElement k → IsLoaded line k old new → LeadsAlone w old 1 new
  load-alone loads is =
      alone-by (replaces 2 (Some (as_value is.datum)) line.next) old.runtime.shared is.changed refl
      (ap is_named loads) (ap goes_within loads)
      (ap state_in is.changed ∙ load-done w run line k loads old new is old.frames.frames stands is.at is.goes)
      (λ ms at_instruction. load-quiet w run line k loads old new is old.frames.frames ms is.at at_instruction stands)

  pub store-alone : line.operation ≡ operation.StoreElement k → IsStored line k old new → LeadsAlone w old 1 new
  store-alone stores is =
      alone-by (drops_three line.next) (record old.runtime.shared { heap = with_slot_at is.storing.array is.slot is.storing.datum old.runtime.shared.heap }) is.changed refl
      (ap is_named stores) (ap goes_within stores)
      (ap state_in is.changed ∙ store-done w run line k stores old new is old.frames.frames stands is.at is.goes)
      (λ ms at_instruction. store-quiet w run line k stores old new is old.frames.frames ms is.at at_instruction stands)

  pub length-alone : line.operation ≡ operation.Arraylength → IsMeasured line old new → LeadsAlone w old 1 new
  length-alone length_of is =
      alone-by (replaces 1 (Some (Int (pos is.count))) line.next) old.runtime.shared is.changed refl
      (ap is_named length_of) (ap goes_within length_of)
      (ap state_in is.changed ∙ length-done w run line length_of old new is old.frames.frames stands is.at is.goes)
      (λ ms at_instruction. length-quiet w run line length_of old new is old.frames.frames ms is.at at_instruction stands)

-- ---- a frame stays in its version

module _ (line : Line) (k : Kind) (old new : Parts) (b : Bool) (kept : b ≡ false → new ≡ old) where
  unmoved : b ≡ false → top_version new.frames.frames ≡ top_version old.frames.frames
  unmoved off = ap (λ (p : Parts). top_version p.frames.frames) (kept off)

  after-rule : (rule : Rule) → new.frames ≡ after rule old.frames → top_version new.frames.frames ≡ top_version old.frames.frames
  after-rule rule is = ap (λ (s : FramesView). top_version s.frames) is ∙ same-version (outcome_asked rule old.frames.frames) old.frames.frames

  pub load-stays : (b ≡ true → IsLoaded line k old new) → top_version new.frames.frames ≡ top_version old.frames.frames
  load-stays gone = either b
      (λ on. let is = gone on in after-rule (replaces 2 (Some (as_value is.datum)) line.next) (ap (λ (p : Parts). p.frames) is.changed)) unmoved

  pub store-stays : (b ≡ true → IsStored line k old new) → top_version new.frames.frames ≡ top_version old.frames.frames
  store-stays gone = either b (λ on. after-rule (drops_three line.next) (ap (λ (p : Parts). p.frames) (gone on).changed)) unmoved
