-- A sound state is what an attempt of an instruction that names something asks for, and an attempt leaves one.
use Rattle.std.proofs.Common.{◌≡◌, ℕ, refl, List, [], ◌∷◌, ◌++◌, length, map, false, Option, Some, None, sym, ap, subst, ◌∙◌}
use Rattle.std.specs.List.{AllByRecursion}
use Rattle.std.specs.Option.{IfSome}
use Rattle.std.proofs.lemmas.Option.{none-some, same_Some}
use Rattle.frame_stack.specs.FrameLists.{PlacedFrame}
use Rattle.jvm_model.specs.declared.program.Program.{Program}
use Rattle.jvm_model.specs.declared.state.Entry.TheVariants.{Active}
use Rattle.jvm_model.specs.declared.state.Frame.{Frame}
use Rattle.jvm_model.specs.declared.state.State.{State}
use Rattle.jvm_model.specs.Basis.Data.{Instruction, Breaks, Done}
use Rattle.jvm_model.specs.declared.instruction.SymbolicReference.{SymbolicReference}
use Rattle.jvm_model.specs.declared.instruction.Local.{Local}
use Rattle.jvm_model.specs.declared.instruction.Operation.{Operation}
use Rattle.jvm_model.specs.declared.instruction.Operation.TheVariants.{Within, Named, Athrow, Monitor, Newarray, Arraylength, LoadElement, StoreElement, LdcString}
use Rattle.jvm_model.specs.Instructions.Does.{loads}
use Rattle.jvm_model.specs.Running.Run.{main_class}
use Rattle.jvm_model.specs.Soundness.Sound.{CanAttempt, IsFit, IsLoaded, IsSoundOutcome}
use Rattle.jvm_model.proofs.Soundness.SoundAttempts.{sound-does}
use Rattle.jvm_model.proofs.Soundness.SoundRuns.{loads-again}
use Rattle.jvm_model.proofs.Soundness.SoundListingRuns.{sound-loaded}
use Rattle.jvm_model.proofs.Soundness.SoundListingSteps.{entry-grows, sound-applied}
use Rattle.prepared_code.specs.Ready.{CanRun, IsSoundEntryIn, IsSoundIn, IsTied, RunsIn}
use Rattle.class_linker.specs.Linkers.{LinkerView}
use Rattle.jvm_model.specs.Soundness.Sound.{IsPrimitiveArray}
use Rattle.jvm_model.proofs.Loading.Among.{among-front}
use Rattle.member_selection.specs.Objects.{HasLoadedCaller}
use Rattle.prepared_lines.specs.declared.line.Line.{Line}
use Rattle.prepared_code.specs.declared.initializations.Initialization.{Initialization}
use Rattle.prepared_code.specs.declared.parts.Here.{Here}
use Rattle.prepared_code.specs.declared.parts.Parts.{Parts}
use Rattle.instructions.specs.Acts.{IfNewarray, acts, attempts_line, attempts_on, with_done}
use Rattle.prepared_code.specs.Lines.{IfNamed, IfNamedBy}
use Rattle.prepared_lines.specs.Lines.{operation_kept}
use Rattle.prepared_code.specs.Initializations.{initialization_on, stack_of, state_of}
use Rattle.prepared_code.specs.States.{active, here_of}
use Rattle.instructions.proofs.Attempts.LineActs.{readied, done_there, steps-as, with-loaded}
use Rattle.instructions.proofs.Moves.LineSteps.{IsGoing}
use Rattle.activations.proofs.TurnsCarried.{top-frame}
use Rattle.prepared_code.proofs.Lines.Tied.{Tie, tied-there}
use Rattle.prepared_code.specs.Versions.{Setup, listing_of, line_at, instruction_by}

-- ---- what the linker asks for

abbrev linker_of : Program → List ℕ → LinkerView
linker_of p loaded = record { program = p; loaded = loaded }

-- ---- the line where a frame stands

module _ (p : Program) (fit : IsFit p) (loaded : List ℕ) where
  can-name : (n : SymbolicReference) → CanAttempt p loaded (Named n) → HasLoadedCaller (linker_of p loaded) n
  can-name n can = can.0

  named-by : (line : Line) (op : Operation Local) → IsTied line op → CanAttempt p loaded op
      → IfNamedBy line.operation line.next (λ n next. HasLoadedCaller (linker_of p loaded) n)
  named-by line op tied can = subst (λ a. IfNamedBy a line.next (λ n next. HasLoadedCaller (linker_of p loaded) n)) tied.kept (by op can) where
    by : (o : Operation Local) → CanAttempt p loaded o → IfNamedBy (operation_kept o) line.next (λ n next. HasLoadedCaller (linker_of p loaded) n)
    by (Named n) can = can-name n can
    by (Within l) can = tt
    by Athrow can = tt
    by Monitor can = tt
    by (Newarray kind) can = tt
    by Arraylength can = tt
    by (LoadElement k) can = tt
    by (StoreElement k) can = tt
    by (LdcString units) can = tt

  tie-named : (lo : Option Line) (io : Option Instruction) → ((i : Instruction) → io ≡ Some i → CanAttempt p loaded i.operation) → Tie lo io
      → IfNamed lo (λ n next. HasLoadedCaller (linker_of p loaded) n)
  tie-named None io can tie = tt
  tie-named (Some line) None can tie = absurd tie
  tie-named (Some line) (Some i) can tie =
      named-by line tie.op tie.tied (subst (CanAttempt p loaded) (ap (λ (x : Instruction). x.operation) tie.is) (can i refl))

  -- a newarray is of a primitive type
  array-by : (line : Line) (op : Operation Local) → IsTied line op → CanAttempt p loaded op → IfNewarray line.operation IsPrimitiveArray
  array-by line op tied can = subst (λ a. IfNewarray a IsPrimitiveArray) tied.kept (by op can) where
    by : (o : Operation Local) → CanAttempt p loaded o → IfNewarray (operation_kept o) IsPrimitiveArray
    by (Named n) can = tt
    by (Within l) can = tt
    by Athrow can = tt
    by Monitor can = tt
    by (Newarray kind) can = can
    by Arraylength can = tt
    by (LoadElement k) can = tt
    by (StoreElement k) can = tt
    by (LdcString units) can = tt

  tie-array : (lo : Option Line) (io : Option Instruction) → ((i : Instruction) → io ≡ Some i → CanAttempt p loaded i.operation) → Tie lo io
      → IfSome lo (λ (line : Line). IfNewarray line.operation IsPrimitiveArray)
  tie-array None io can tie = tt
  tie-array (Some line) None can tie = absurd tie
  tie-array (Some line) (Some i) can tie =
      array-by line tie.op tie.tied (subst (CanAttempt p loaded) (ap (λ (x : Instruction). x.operation) tie.is) (can i refl))

-- what stands where a frame does can be attempted
can-stand : (w : Setup) → CanRun w → (loaded : List ℕ) (ms : List Initialization) (here : Here) (fs : List PlacedFrame) → here_of fs ≡ Some here
    → initialization_on (length fs) ms ≡ None → AllByRecursion (IsSoundEntryIn w loaded) (stack_of (map active fs) ms)
    → (i : Instruction) → (listing_of w.versions).at here.version here.place ≡ Some i → CanAttempt w.world.program loaded i.operation
can-stand w run loaded ms here [] is none each i at = absurd (none-some here is)
can-stand w run loaded ms here (f ∷ fs) is none each i at =
    let same : record { version = f.version; method = f.method; place = f.place } ≡ here = same_Some _ here is in
    let top : IsSoundEntryIn w loaded (active f) = (subst (AllByRecursion (IsSoundEntryIn w loaded)) (top-frame ms f fs none) each).0 in
    run.listing.attempts loaded f.version f.method f.place i top.1 top.0 (ap (λ (h : Here). (listing_of w.versions).at h.version h.place) same ∙ at)

-- the caller of an invokespecial that stands there
pub caller-is-loaded : (w : Setup) (ms : List Initialization) (parts : Parts) (here : Here) → CanRun w → IsSoundIn w (state_of ms parts)
    → here_of parts.frames.frames ≡ Some here → initialization_on (length parts.frames.frames) ms ≡ None
    → IfNamed (line_at w.versions here.version here.place) (λ n next. HasLoadedCaller (linker_of w.world.program parts.runtime.shared.loaded) n)
caller-is-loaded w ms parts here run is at none =
    let loaded = parts.runtime.shared.loaded in
    tie-named w.world.program run.fit loaded (line_at w.versions here.version here.place) ((listing_of w.versions).at here.version here.place)
    (can-stand w run loaded ms here parts.frames.frames at none is.stack) (tied-there w run here.version here.place)

-- the type of a newarray that does
pub array-primitive : (w : Setup) (ms : List Initialization) (parts : Parts) (here : Here) → CanRun w → IsSoundIn w (state_of ms parts)
    → here_of parts.frames.frames ≡ Some here → initialization_on (length parts.frames.frames) ms ≡ None
    → IfSome (line_at w.versions here.version here.place) (λ (line : Line). IfNewarray line.operation IsPrimitiveArray)
array-primitive w ms parts here run is at none =
    let loaded = parts.runtime.shared.loaded in
    tie-array w.world.program run.fit loaded (line_at w.versions here.version here.place) ((listing_of w.versions).at here.version here.place)
    (can-stand w run loaded ms here parts.frames.frames at none is.stack) (tied-there w run here.version here.place)

-- ---- an attempt leaves a sound state

module _ (w : Setup) (run : CanRun w) where
  acts-sound : (s : State) (f : Frame) (line : Line) (op : Operation Local) → IsSoundIn w s → IsSoundEntryIn w s.shared.loaded (Active f) → IsTied line op
      → (listing_of w.versions).at f.version f.place ≡ Some (instruction_by op line) → IsSoundIn w (acts w line s f)
  acts-sound s f line op is entry tied at =
      let classes : List ℕ = loads w.world op s.shared f.operands in
      let ready : State = readied w line op s f in
      let ready_sound : IsSoundIn w ready = sound-loaded (RunsIn w.versions) w.world op f.operands s is in
      let there : IsSoundEntryIn w ready.shared.loaded (Active f) =
      subst (λ loaded. IsSoundEntryIn w loaded (Active f)) (sym (ap (λ (x : State). x.shared.loaded) (with-loaded classes s)))
      (entry-grows (RunsIn w.versions) w.world.program s.shared.loaded (s.shared.loaded ++ classes) (λ class h. among-front class s.shared.loaded classes h) (Active f) entry) in
      let can : CanAttempt w.world.program ready.shared.loaded op =
      run.listing.attempts ready.shared.loaded f.version f.method f.place (instruction_by op line) there.1 there.0 at in
      let d : Done = done_there w line op s f in
      let does_so = sound-does w.world run.fit ready.shared ready_sound.shared op f.locals f.operands can (loads-again w.world op s f.operands) in
      let done_sound : IsSoundIn w (with_done d ready) = record {
        shared = does_so.shared;
        stack = subst (λ loaded. AllByRecursion (IsSoundEntryIn w loaded) ready.stack) (sym does_so.loaded_same) ready_sound.stack;
        main = λ on. subst (λ loaded. IsLoaded loaded (main_class w.world.program)) (sym does_so.loaded_same) (ready_sound.main on);
      } in
      subst (IsSoundIn w) (steps-as w line op s f tied).applied
      (sound-applied (RunsIn w.versions) w.world run.fit (listing_of w.versions) run.listing (instruction_by op line) d.outcome (with_done d ready) f done_sound
      (subst (λ loaded. IsSoundEntryIn w loaded (Active f)) (sym does_so.loaded_same) there)
      (subst (λ loaded. IsSoundOutcome w.world.program loaded d.outcome) (sym does_so.loaded_same) does_so.outcome))

  line-sound : (s : State) (f : Frame) (lo : Option Line) (io : Option Instruction) → IsSoundIn w s → IsSoundEntryIn w s.shared.loaded (Active f)
      → (listing_of w.versions).at f.version f.place ≡ io → Tie lo io → IsSoundIn w (attempts_line w s f lo)
  line-sound s f None io is entry at tie =
      sound-applied (RunsIn w.versions) w.world run.fit (listing_of w.versions) run.listing (record { operation = Athrow; own = 0; next = None; targets = [] }) (Breaks false) s f is entry tt
  line-sound s f (Some line) None is entry at tie = absurd tie
  line-sound s f (Some line) (Some i) is entry at tie =
      acts-sound s f line tie.op is entry tie.tied (at ∙ ap Some tie.is)

  -- of the frame that stands on top
  pub attempted-sound : (s : State) → IsGoing s → IsSoundIn w s → IsSoundIn w (attempts_on w s s.stack)
  attempted-sound s going is =
      let f : Frame = going.frame in
      let each = subst (AllByRecursion (IsSoundEntryIn w s.shared.loaded)) going.stack is.stack in
      let under : State = record s { stack = going.rest } in
      subst (IsSoundIn w) (sym (ap (attempts_on w s) going.stack))
      (line-sound under f (line_at w.versions f.version f.place) ((listing_of w.versions).at f.version f.place)
      (record { shared = is.shared; stack = each.1; main = is.main }) each.0 refl (tied-there w run f.version f.place))
