-- What begins in a run is called: every activation that has a parent is a target of the parent's method, over the
-- classes that are loaded by then.
use Rattle.std.proofs.Common.{◌≡◌, ℕ, zero, suc, Bool, true, false, List, [], ◌∷◌, ◌++◌, Option, Some, None, nat_le, nat_lt, if◌then◌else◌, refl, sym, ap, subst, ◌∙◌}
use Rattle.std.proofs.lemmas.Option.{IfSome_then}
use Rattle.std.proofs.lemmas.List.{append-nil}
use Rattle.std.specs.Prelude.{is_some}
use Rattle.std.specs.List.{AllByRecursion}
use Rattle.std.specs.Option.{IfSome, option_map_or}
use Rattle.std.proofs.lemmas.Bool.{false≢true}
use Rattle.heap_objects.specs.declared.Value.TheVariants.{Ref}
use Rattle.frame_stack.specs.Widths.{height_of}
use Rattle.jvm_model.specs.Basis.Data.{Ending, MethodPlace, Program, Frame, Entry, Active, Initializing, Part, Constants, Superclass, Initializer, Finish, Phase, Fresh, Running, Ready, Erroneous, Shared, State, Locals, Operands, Change, Loads, Began, Left, Unwound, Turn, Instruction, Listing, Local, Operation, Done, World}
use Rattle.jvm_model.specs.Basis.Data as operation
use Rattle.jvm_model.specs.Running.Applies.{still, with_frame, breaks, goes, new_frame, has_room, live_in, most_live, applies}
use Rattle.jvm_model.specs.Running.Changes.{methods, without_first, methods_after_changes, EndThenBegin, AreOrdered}
use Rattle.jvm_model.specs.Instructions.Does.{does, loads}
use Rattle.jvm_model.specs.Classes.Load.{Fault, error_of, is_among}
use Rattle.jvm_model.specs.Classes.Lookup.{supertypes}
use Rattle.jvm_model.specs.Running.Moves.{after_super, argument_array, at_part, throw_caught, handler_for, initializes, main_or_end, moves, move, own_at, runs_initializer, turn_settled, then_turn, with_super}
use Rattle.jvm_model.specs.Instructions.SymbolicReference.{message_of, newly_loaded}
use Rattle.jvm_model.specs.Codes.Originals.{original}
use Rattle.jvm_model.specs.Basis.Programs.{initializer_of, place_of_method, super_of}
use Rattle.jvm_model.specs.Running.Run.{arguments_made, attempt, before, has_no_changes, loaded_turn, loads_if, main_class, main_classes, main_loading, main_loads, run_opened, run, start, starts, starts_if, starts_unless, starts_with, step, steps_at, steps_by, steps_on, turn, turn_in-zero, turn_in-suc, with_classes_loaded}
use Rattle.jvm_model.specs.Basis.SharedState.{arguments_fit, class_of, null, phase_of}
use Rattle.jvm_model.specs.Soundness.Sound.{CanAttempt, HasClass, HasSupertypes, IsFit, IsLoaded, IsSoundOutcome}
use Rattle.jvm_model.specs.Soundness.SoundListings.{IsSound, IsSoundEntry, RunsOriginal}
use Rattle.jvm_model.proofs.Running.Attempts.{again-by, loaded-after, with_loaded-shared}
use Rattle.jvm_model.proofs.Events.Order.{run-ordered, started-begins}
use Rattle.jvm_model.proofs.Running.Settles.{settled-keeps}
use Rattle.jvm_model.proofs.Soundness.SoundAttempts.{sound-does}
use Rattle.jvm_model.proofs.Soundness.SoundClasses.{supertypes-loaded}
use Rattle.jvm_model.proofs.Soundness.SoundLines.{can-attempt}
use Rattle.jvm_model.proofs.Soundness.SoundObjects.{KeepsShared}
use Rattle.jvm_model.proofs.Soundness.SoundRuns.{loads-again, with-loaded-is}
use Rattle.jvm_model.proofs.Soundness.SoundListingRuns.{original-sound, at-goes, sound-loaded, sound-start, sound-step}
use Rattle.jvm_model.proofs.Soundness.SoundListingSteps.{GoesTo, applied-goes, entry-grows, moves-go}
use Rattle.jvm_model.proofs.Revealing.CalleePlaces.{initializer-place}
use Rattle.jvm_model.proofs.Revealing.Callees.{does-due}
use Rattle.jvm_model.proofs.Loading.LoadedMoves.{made-loaded, settled-loaded}
use Rattle.jvm_model.proofs.Revealing.Growing.{targets-grow}
use Rattle.jvm_model.proofs.Revealing.CalledSteps.{Has, has-targets, all-at, begins-more, Targeted, Placed, placed-append, loads-append, DueOn, AreDue, CallsOn, then-calls, applies-calls, moves-call}
use Rattle.jvm_model.proofs.Events.Methods.{run-tells, run-tells-first}
use Rattle.jvm_model.specs.Soundness.Calls.{AreCalled, loads_of, loaded_before, methods_before, IsTold}
use Rattle.jvm_model.specs.Soundness.Climbing.{Climbs, HasBareObject, Begins}
use Rattle.jvm_model.specs.Profiling.Points.{has_class}
use Rattle.jvm_model.specs.Profiling.Targets.{begun_by_operation, targets_in}
use Rattle.jvm_model.proofs.Loading.Among.{among-front}

if-both : {A : Type 0} (o : Option A) (P Q : A → Type 0) → IfSome o P → IfSome o Q → IfSome o (λ x. P x × Q x)
if-both None P Q first second = tt
if-both (Some x) P Q first second = (first, second)

module _ (w : World) (fit : IsFit w.program) (bare : HasBareObject w.program) (code : ℕ → List (Operation Local)) (main_is : is_some (place_of_method w.program w.program.main) ≡ true) where
  abbrev p : Program
  p = w.program

  abbrev t : Listing
  t = original w.program

  -- ---- an attempt

  abbrev Goes : List ℕ → List ℕ → Turn → Type 0
  Goes loaded ms a = GoesTo RunsOriginal p loaded a.after × CallsOn w code loaded ms a

  settled-both : (loaded ms : List ℕ) → Climbs p loaded → (a : Turn) → Goes loaded ms a → Goes loaded ms (turn_settled w t a)
  settled-both loaded ms climbs a is = settled-keeps w t (Goes loaded ms) one a is
    where
      one : (b : Turn) → Goes loaded ms b → IfSome (move w t b.after) (λ next. Goes loaded ms (then_turn b next))
      one b both =
          let goes = moves-go RunsOriginal w fit (original w.program) (original-sound w.program fit) b.after both.0.sound b.after.ending b.after.thrown b.after.stack refl both.0.sound.stack in
          let each : AllByRecursion (IsSoundEntry RunsOriginal p loaded) b.after.stack = subst (λ l. AllByRecursion (IsSoundEntry RunsOriginal p l) b.after.stack) both.0.same both.0.sound.stack in
          let calls = moves-call w code main_is loaded climbs b.after b.after.ending b.after.thrown b.after.stack refl each both.1.due in
          IfSome_then (move w t b.after)
          {P = λ next. GoesTo RunsOriginal p b.after.shared.loaded next.after × CallsOn w code loaded (methods b.after.stack) next}
          {Q = λ next. Goes loaded ms (then_turn b next)}
          (if-both (move w t b.after) (λ next. GoesTo RunsOriginal p b.after.shared.loaded next.after) (λ next. CallsOn w code loaded (methods b.after.stack) next) goes calls)
          (λ next two. (subst (λ l. GoesTo RunsOriginal p l next.after) both.0.same two.0, then-calls w code loaded ms b next both.1 two.1))

  -- what the rule gives, before it is applied
  done-goes : (s : State) (d : Done) → IsSound RunsOriginal p s → KeepsShared p s.shared d.shared → GoesTo RunsOriginal p s.shared.loaded (record s { shared = d.shared; output = s.output ++ d.wrote })
  done-goes s d is kept = record {
    sound = record {
      shared = kept.shared;
      stack = subst (λ loaded. AllByRecursion (IsSoundEntry RunsOriginal p loaded) s.stack) (sym kept.loaded) is.stack;
      main = λ on. subst (λ loaded. IsLoaded loaded (main_class p)) (sym kept.loaded) (is.main on);
    };
    same = kept.loaded;
  }

  attempt-both : (i : Instruction) (s : State) (f : Frame) → IsSound RunsOriginal p s → IsSoundEntry RunsOriginal p s.shared.loaded (Active f) → CanAttempt p s.shared.loaded i.operation
      → loads w i.operation s.shared f.operands ≡ [] → Climbs p s.shared.loaded → AreDue w code s.shared.loaded s.stack → Has (code f.method) i.operation
      → Goes s.shared.loaded (f.method ∷ methods s.stack) (attempt w t i s f)
  attempt-both i s f is entry can nothing climbs due has =
      let d : Done = does w i.operation s.shared f.locals f.operands in
      let after : State = record s { shared = d.shared; output = s.output ++ d.wrote } in
      let does_so = sound-does w fit s.shared is.shared i.operation f.locals f.operands can nothing in
      let goes = done-goes s d is (record { loaded = does_so.loaded_same; shared = does_so.shared }) in
      let applied : GoesTo RunsOriginal p s.shared.loaded (applies w t i d.outcome after f).after =
      subst (λ l. GoesTo RunsOriginal p l (applies w t i d.outcome after f).after) goes.same
      (applied-goes RunsOriginal w fit (original w.program) (original-sound w.program fit) i d.outcome after f goes.sound (subst (λ loaded. IsSoundEntry RunsOriginal p loaded (Active f)) (sym goes.same) entry)
      (subst (λ loaded. IsSoundOutcome p loaded d.outcome) (sym goes.same) does_so.outcome)) in
      let begins : Begins p s.shared.loaded (targets_in p s.shared.loaded (code f.method)) d.outcome =
      begins-more p s.shared.loaded (begun_by_operation p s.shared.loaded i.operation) (targets_in p s.shared.loaded (code f.method))
      (has-targets p s.shared.loaded (code f.method) i.operation has) d.outcome (does-due w fit s.shared is.shared climbs bare i.operation f.locals f.operands nothing) in
      settled-both s.shared.loaded (f.method ∷ methods s.stack) climbs (applies w t i d.outcome after f)
      (applied, applies-calls w code s.shared.loaded i d.outcome after f due begins)

  loads-same : (op : Operation Local) (a b : Shared) (o : Operands) → a.loaded ≡ b.loaded → loads w op a o ≡ loads w op b o
  loads-same op a b o e = by op
    where
      by : (op : Operation Local) → loads w op a o ≡ loads w op b o
      by (operation.Named n) = ap (λ loaded. newly_loaded p loaded n o) e
      by (operation.Within i) = refl
      by operation.Athrow = refl
      by operation.Monitor = refl
      by (operation.Newarray k) = refl
      by operation.Arraylength = refl
      by (operation.LoadElement k) = refl
      by (operation.StoreElement k) = refl
      by (operation.LdcString units) = refl

  quiet-same : (ms : List ℕ) (changes : List Change) → has_no_changes changes ≡ true → methods_after_changes ms changes ≡ ms
  quiet-same ms [] e = refl
  quiet-same ms (c ∷ more) e = absurd (false≢true e)

  by-both : (i : Instruction) (s : State) (f : Frame) → IsSound RunsOriginal p s → IsSoundEntry RunsOriginal p s.shared.loaded (Active f) → CanAttempt p s.shared.loaded i.operation
      → loads w i.operation s.shared f.operands ≡ [] → Climbs p s.shared.loaded → AreDue w code s.shared.loaded s.stack → Has (code f.method) i.operation
      → Goes s.shared.loaded (f.method ∷ methods s.stack) (steps_by w t i s f (does w i.operation s.shared f.locals f.operands))
  by-both i s f is entry can nothing climbs due has =
      let d : Done = does w i.operation s.shared f.locals f.operands in
      let ms = f.method ∷ methods s.stack in
      let a : Turn = attempt w t i s f in
      let first = attempt-both i s f is entry can nothing climbs due has in
      let again : State = record a.after { stack = s.stack } in
      let second : Goes s.shared.loaded ms (attempt w t i again f) =
      subst (λ l. Goes l ms (attempt w t i again f)) first.0.same
      (attempt-both i again f
      (record {
        shared = first.0.sound.shared;
        stack = subst (λ loaded. AllByRecursion (IsSoundEntry RunsOriginal p loaded) s.stack) (sym first.0.same) is.stack;
        main = first.0.sound.main;
      })
      (subst (λ loaded. IsSoundEntry RunsOriginal p loaded (Active f)) (sym first.0.same) entry)
      (subst (λ loaded. CanAttempt p loaded i.operation) (sym first.0.same) can)
      (loads-same i.operation a.after.shared s.shared f.operands first.0.same ∙ nothing)
      (subst (Climbs p) (sym first.0.same) climbs)
      (subst (λ l. AreDue w code l s.stack) (sym first.0.same) due) has) in
      again-by (Goes s.shared.loaded ms) w t i s f (starts d.outcome) a first
      (λ quiet on. (
        second.0,
        then-calls w code s.shared.loaded ms a (attempt w t i again f) first.1
            (subst (λ k. CallsOn w code s.shared.loaded k (attempt w t i again f)) (sym (first.1.tells ∙ quiet-same ms a.changes quiet)) second.1),
      ))

  -- ---- more classes are loaded

  due-grows : (loaded more : List ℕ) → HasSupertypes p loaded → (ms : List ℕ) (c : ℕ) → IsLoaded loaded c → DueOn w code loaded ms c → DueOn w code (loaded ++ more) ms c
  due-grows loaded more above [] c there due = tt
  due-grows loaded more above (caller ∷ rest) c there due =
      λ d m d_there sub e. targets-grow p loaded more (code caller) m
      (due d m (all-at (IsLoaded loaded) (supertypes p c) d (supertypes-loaded p loaded above c there) sub) sub e)

  all-grow : (loaded more : List ℕ) → HasSupertypes p loaded → (stack : List Entry) → AllByRecursion (IsSoundEntry RunsOriginal p loaded) stack → AreDue w code loaded stack
      → AreDue w code (loaded ++ more) stack
  all-grow loaded more above [] each due = tt
  all-grow loaded more above (Active f ∷ below) each due = all-grow loaded more above below each.1 due
  all-grow loaded more above (Initializing c part ∷ below) each due =
      (due-grows loaded more above (methods below) c each.0 due.0, all-grow loaded more above below each.1 due.1)

  -- ---- a step

  -- an instruction of the method's code stands where the frame is
  abbrev pub IsAt : Frame → Type 0
  IsAt f = (i : Instruction) → t.at f.version f.place ≡ Some i → Has (code f.method) i.operation

  abbrev pub StandsAt : List Entry → Type 0
  StandsAt [] = Unit {0}
  StandsAt (Active f ∷ below) = IsAt f
  StandsAt (Initializing c part ∷ below) = Unit {0}

  -- what a step is, from a state in which these methods are live
  pub record StepCalls (loaded ms : List ℕ) (a : Turn) : Type 0 where
    pub loads : a.after.shared.loaded ≡ loaded ++ loads_of a.changes
    pub due : AreDue w code a.after.shared.loaded a.after.stack
    pub targets : Targeted p code a.after.shared.loaded ms a.changes
    pub placed : Placed p a.changes

  still-step : (s x : State) → x.shared.loaded ≡ s.shared.loaded → AreDue w code x.shared.loaded x.stack → (ms : List ℕ) → StepCalls s.shared.loaded ms (still x)
  still-step s x same due ms = record { loads = same ∙ sym (append-nil s.shared.loaded); due = due; targets = tt; placed = tt }

  -- with classes that are loaded first
  loaded-step : (loaded classes ms : List ℕ) (a : Turn) → a.after.shared.loaded ≡ loaded ++ classes → CallsOn w code (loaded ++ classes) ms a
      → StepCalls loaded ms (loaded_turn classes a)
  loaded-step loaded [] ms a is calls = record {
    loads = is ∙ ap (λ l. loaded ++ l) (sym calls.loads);
    due = subst (λ l. AreDue w code l a.after.stack) (sym is) calls.due;
    targets = subst (λ l. Targeted p code l ms a.changes) (sym is) calls.targets;
    placed = calls.placed;
  }
  loaded-step loaded (c ∷ more) ms a is calls = record {
    loads = is ∙ ap (λ l. loaded ++ l) (sym (ap (λ l. (c ∷ more) ++ l) calls.loads ∙ append-nil (c ∷ more)));
    due = subst (λ l. AreDue w code l a.after.stack) (sym is) calls.due;
    targets = subst (λ l. Targeted p code l ms a.changes) (sym is) calls.targets;
    placed = calls.placed;
  }

  at-step : (s : State) (f : Frame) (found : Option Instruction) → IsSound RunsOriginal p s → IsSoundEntry RunsOriginal p s.shared.loaded (Active f) → t.at f.version f.place ≡ found → IsAt f
      → AreDue w code s.shared.loaded s.stack → Climbs p (steps_at w t s f found).after.shared.loaded → StepCalls s.shared.loaded (f.method ∷ methods s.stack) (steps_at w t s f found)
  at-step s f None is entry e at due climbs = still-step s (breaks s f 0) refl due (f.method ∷ methods s.stack)
  at-step s f (Some i) is entry e at due climbs =
      let classes = loads w i.operation s.shared f.operands in
      let ready : State = with_classes_loaded classes s in
      let turn : Turn = steps_by w t i ready f (does w i.operation ready.shared f.locals f.operands) in
      let whole : ready.shared.loaded ≡ s.shared.loaded ++ classes = with-loaded-is classes s in
      let stack_same : ready.stack ≡ s.stack = ap (λ (x : State). x.stack) (with_loaded-shared classes s) in
      let there : IsSoundEntry RunsOriginal p ready.shared.loaded (Active f) =
      subst (λ loaded. IsSoundEntry RunsOriginal p loaded (Active f)) (sym whole)
      (entry-grows RunsOriginal p s.shared.loaded (s.shared.loaded ++ classes) (λ class h. among-front class s.shared.loaded classes h) (Active f) entry) in
      let can : CanAttempt p ready.shared.loaded i.operation =
      can-attempt p fit ready.shared.loaded f.version f.place i (subst (λ m. HasClass p ready.shared.loaded m) (sym there.1) there.0) e in
      let goes = at-goes RunsOriginal w fit (original w.program) (original-sound w.program fit) s f i is entry e in
      let climbs_ready : Climbs p ready.shared.loaded = subst (Climbs p) (ap (λ (x : State). x.shared.loaded) (loaded-after classes turn) ∙ goes.same) climbs in
      let due_ready : AreDue w code ready.shared.loaded ready.stack =
      subst (λ l. AreDue w code l ready.stack) (sym whole)
      (subst (AreDue w code (s.shared.loaded ++ classes)) (sym stack_same) (all-grow s.shared.loaded classes is.shared.above s.stack is.stack due)) in
      let both = by-both i ready f (sound-loaded RunsOriginal w i.operation f.operands s is) there can (loads-again w i.operation s f.operands) climbs_ready due_ready (at i e) in
      loaded-step s.shared.loaded classes (f.method ∷ methods s.stack) turn (both.0.same ∙ whole)
      (subst (λ l. CallsOn w code l (f.method ∷ methods s.stack) turn) whole
      (subst (λ stack. CallsOn w code ready.shared.loaded (f.method ∷ methods stack) turn) stack_same both.1))

  on-step : (s : State) (ending : Option Ending) (stack : List Entry) → IsSound RunsOriginal p s → s.ending ≡ ending → s.stack ≡ stack → AllByRecursion (IsSoundEntry RunsOriginal p s.shared.loaded) stack
      → StandsAt stack → AreDue w code s.shared.loaded stack → AreDue w code s.shared.loaded s.stack
      → Climbs p (steps_on w t s ending stack).after.shared.loaded → StepCalls s.shared.loaded (methods stack) (steps_on w t s ending stack)
  on-step s (Some e) [] is on same each at due own climbs = still-step s s refl own []
  on-step s (Some e) (f ∷ below) is on same each at due own climbs = still-step s s refl own (methods (f ∷ below))
  on-step s None [] is on same each at due own climbs = still-step s s refl own []
  on-step s None (Initializing c part ∷ below) is on same each at due own climbs = still-step s s refl own (methods below)
  on-step s None (Active f ∷ below) is on same each at due own climbs =
      at-step (record s { stack = below }) f (t.at f.version f.place) (record { shared = is.shared; stack = each.1; main = is.main }) each.0 refl at due climbs

  step-calls : (s : State) → IsSound RunsOriginal p s → StandsAt s.stack → AreDue w code s.shared.loaded s.stack → Climbs p (step w t s).after.shared.loaded
      → StepCalls s.shared.loaded (methods s.stack) (step w t s)
  step-calls s is at due climbs = on-step s s.ending s.stack is refl refl is.stack at due due climbs

  -- ---- the start

  -- no frame is beneath an initialization
  abbrev AreAlone : List Entry → Type 0
  AreAlone [] = Unit {0}
  AreAlone (Active f ∷ below) = AreAlone below
  AreAlone (Initializing c part ∷ below) = (methods below ≡ []) × AreAlone below

  alone-due : (loaded : List ℕ) (stack : List Entry) → AreAlone stack → AreDue w code loaded stack
  alone-due loaded [] alone = tt
  alone-due loaded (Active f ∷ below) alone = alone-due loaded below alone
  alone-due loaded (Initializing c part ∷ below) alone = (subst (λ ms. DueOn w code loaded ms c) (sym alone.0) tt, alone-due loaded below alone.1)

  record IsFirst (a : Turn) : Type 0 where
    alone : AreAlone a.after.stack
    placed : Placed p a.changes
    loads : loads_of a.changes ≡ []

  chosen-first : (b : Bool) (x y : Turn) → IsFirst x → IsFirst y → IsFirst (if b then x else y)
  chosen-first true x y first second = first
  chosen-first false x y first second = second

  goes-alone : (s : State) (f : Frame) (own : ℕ) (l : Locals) (o : Operands) (place : Option ℕ) → AreAlone s.stack → AreAlone (goes s f own l o place).stack
  goes-alone s f own l o None alone = alone
  goes-alone s f own l o (Some place) alone = by (nat_le (height_of o) f.max_stack)
    where
      by : (b : Bool) → AreAlone (if b then with_frame s (record f { place = place; locals = l; operands = o }) else breaks s f own).stack
      by true = alone
      by false = alone

  caught-first : (s : State) (r : ℕ) (f : Frame) (h : Option ℕ) → AreAlone s.stack → IsFirst (throw_caught w t s r f h)
  caught-first s r f None alone = record { alone = alone; placed = tt; loads = refl }
  caught-first s r f (Some target) alone =
      record { alone = goes-alone (record s { thrown = None }) f (own_at t f) f.locals (Ref r ∷ []) (Some target) alone; placed = tt; loads = refl }

  super-first : (s : State) (c d : ℕ) (phase : Option Phase) → methods s.stack ≡ [] → AreAlone s.stack → AreAlone (after_super w s c d phase).stack
  super-first s c d (Some Fresh) none alone = (none, (none, alone))
  super-first s c d (Some Erroneous) none alone = (none, alone)
  super-first s c d (Some Running) none alone = (none, alone)
  super-first s c d (Some Ready) none alone = (none, alone)
  super-first s c d None none alone = (none, alone)

  with-first : (s : State) (c : ℕ) (d : Option ℕ) → methods s.stack ≡ [] → AreAlone s.stack → AreAlone (with_super w s c d).stack
  with-first s c None none alone = (none, alone)
  with-first s c (Some d) none alone = super-first s c d (phase_of s.shared d) none alone

  runs-first : (s : State) (c : ℕ) (m : Option ℕ) → initializer_of p c ≡ m → methods s.stack ≡ [] → AreAlone s.stack → IsFirst (runs_initializer w t s c m)
  runs-first s c None e none alone = record { alone = (none, alone); placed = tt; loads = refl }
  runs-first s c (Some m) e none alone =
      chosen-first (nat_lt (live_in s.stack) most_live) (record { after = with_frame (at_part s c Finish) (new_frame w t m []); changes = Began m ∷ [] }) _
      (record { alone = (none, alone); placed = (initializer-place p c m e, tt); loads = refl }) (record { alone = (none, alone); placed = tt; loads = refl })

  part-first : (s : State) (c : ℕ) (part : Part) → methods s.stack ≡ [] → AreAlone s.stack → IsFirst (initializes w t s c part)
  part-first s c Constants none alone = record { alone = (none, alone); placed = tt; loads = refl }
  part-first s c Superclass none alone = record { alone = with-first s c (super_of p c) none alone; placed = tt; loads = refl }
  part-first s c Initializer none alone = runs-first s c (initializer_of p c) refl none alone
  part-first s c Finish none alone = record { alone = alone; placed = tt; loads = refl }

  main-first : (s : State) (begun : Bool) → s.stack ≡ [] → IsFirst (main_or_end w t s begun)
  main-first s true e = record { alone = subst AreAlone (sym e) tt; placed = tt; loads = refl }
  main-first s false e =
      chosen-first (has_room w p.main argument_array) _ _
      (record { alone = tt; placed = (main_is, tt); loads = refl }) (record { alone = subst AreAlone (sym e) tt; placed = tt; loads = refl })

  moves-first : (s : State) (ending : Option Ending) (thrown : Option ℕ) (stack : List Entry) → s.stack ≡ stack → AreAlone stack → IfSome (moves w t s ending thrown stack) IsFirst
  moves-first s (Some e) thrown stack same alone = tt
  moves-first s None (Some r) [] same alone = record { alone = subst AreAlone (sym same) tt; placed = tt; loads = refl }
  moves-first s None (Some r) (Active f ∷ below) same alone =
      caught-first (record s { stack = below }) r f (handler_for w (class_of p s.shared r) f.place (t.handlers f.version)) alone
  moves-first s None (Some r) (Initializing c part ∷ below) same alone = record { alone = alone.1; placed = tt; loads = refl }
  moves-first s None None [] same alone = main-first s s.begun same
  moves-first s None None (Active f ∷ below) same alone = tt
  moves-first s None None (Initializing c part ∷ below) same alone = part-first (record s { stack = below }) c part alone.0 alone.1

  settled-first : (a : Turn) → IsFirst a → IsFirst (turn_settled w t a)
  settled-first a is = settled-keeps w t IsFirst
      (λ b first. IfSome_then (move w t b.after) {P = IsFirst} {Q = λ next. IsFirst (then_turn b next)}
      (moves-first b.after b.after.ending b.after.thrown b.after.stack refl first.alone)
      (λ next one. record {
        alone = one.alone;
        placed = placed-append p b.changes next.changes first.placed one.placed;
        loads = loads-append b.changes next.changes first.loads one.loads;
      })) a is

  starts-alone : (b : Bool) → AreAlone (starts_if w b).stack
  starts-alone false = tt
  starts-alone true = by (main_loading w).fault
    where
      none : (run_opened w).stack ≡ []
      none = ap (λ (x : State). x.stack) (with_loaded-shared (main_classes w) (arguments_made w (before w)))

      by : (o : Option Fault) → AreAlone (starts_unless w o (run_opened w)).stack
      by None = (refl, tt)
      by (Some fault) = subst AreAlone (sym none) tt

  starts-loaded : (b : Bool) → (starts_if w b).shared.loaded ≡ (before w).shared.loaded ++ loads_if w b
  starts-loaded false = sym (append-nil (before w).shared.loaded)
  starts-loaded true = by (main_loading w).fault ∙ with-loaded-is (main_classes w) (arguments_made w (before w))
    where
      by : (o : Option Fault) → (starts_unless w o (run_opened w)).shared.loaded ≡ (run_opened w).shared.loaded
      by None = refl
      by (Some fault) = made-loaded w (run_opened w).shared (error_of fault) (message_of fault) null

  pub start-loaded : (start w t).after.shared.loaded ≡ (before w).shared.loaded ++ main_loads w
  start-loaded =
      ap (λ (x : State). x.shared.loaded) (loaded-after (main_loads w) (turn_settled w t (still (starts_with w))))
      ∙ (settled-loaded w t (still (starts_with w)) ∙ starts-loaded (arguments_fit p))

  -- what begins without a parent is called
  free-targets : (loaded : List ℕ) (changes : List Change) → EndThenBegin changes → Targeted p code loaded [] changes
  free-targets loaded [] order = tt
  free-targets loaded (Left ∷ more) order = free-targets loaded more order
  free-targets loaded (Unwound ∷ more) order = free-targets loaded more order
  free-targets loaded (Began m ∷ []) order = (tt, tt)
  free-targets loaded (Began m ∷ c ∷ more) order = absurd order
  free-targets loaded (Loads classes ∷ more) order = absurd order

  start-calls : StepCalls (before w).shared.loaded [] (start w t)
  start-calls = by (main_loads w) (settled-loaded w t first ∙ starts-loaded (arguments_fit p))
    where
      first : Turn
      first = still (starts_with w)

      is_first : IsFirst (turn_settled w t (still (starts_with w)))
      is_first = settled-first (still (starts_with w)) (record { alone = starts-alone (arguments_fit p); placed = tt; loads = refl })

      by : (classes : List ℕ) → (turn_settled w t (still (starts_with w))).after.shared.loaded ≡ (before w).shared.loaded ++ classes
          → StepCalls (before w).shared.loaded [] (loaded_turn classes (turn_settled w t (still (starts_with w))))
      by [] is = record {
        loads = is ∙ ap (λ l. (before w).shared.loaded ++ l) (sym is_first.loads);
        due = alone-due (turn_settled w t (still (starts_with w))).after.shared.loaded (turn_settled w t (still (starts_with w))).after.stack is_first.alone;
        targets = free-targets (turn_settled w t (still (starts_with w))).after.shared.loaded (turn_settled w t (still (starts_with w))).changes (started-begins w t);
        placed = is_first.placed;
      }
      by (c ∷ more) is = record {
        loads = is ∙ ap (λ l. (before w).shared.loaded ++ l) (sym (ap (λ l. (c ∷ more) ++ l) is_first.loads ∙ append-nil (c ∷ more)));
        due = alone-due (turn_settled w t (still (starts_with w))).after.shared.loaded (turn_settled w t (still (starts_with w))).after.stack is_first.alone;
        targets = free-targets (turn_settled w t (still (starts_with w))).after.shared.loaded (turn_settled w t (still (starts_with w))).changes (started-begins w t);
        placed = is_first.placed;
      }

  -- ---- the run

  pub run-sound : (n : ℕ) → IsSound RunsOriginal p (run w n)
  run-sound zero = subst (λ (a : Turn). IsSound RunsOriginal p a.after) (sym (turn_in-zero w t)) (sound-start RunsOriginal w fit (original w.program) (original-sound w.program fit))
  run-sound (suc n) = subst (λ (a : Turn). IsSound RunsOriginal p a.after) (sym (turn_in-suc w t n)) (sound-step RunsOriginal w fit (original w.program) (original-sound w.program fit) (run w n) (run-sound n))

  -- the methods of sound frames are of loaded classes
  abbrev Have : List ℕ → List ℕ → Type 0
  Have loaded ms = AllByRecursion (HasClass p loaded) ms

  frames-have : (loaded : List ℕ) (stack : List Entry) → AllByRecursion (IsSoundEntry RunsOriginal p loaded) stack → Have loaded (methods stack)
  frames-have loaded [] each = tt
  frames-have loaded (Active f ∷ below) each = (each.0.0, frames-have loaded below each.1)
  frames-have loaded (Initializing c part ∷ below) each = frames-have loaded below each.1

  has-class : (loaded : List ℕ) (m : ℕ) → HasClass p loaded m → is_some (place_of_method p m) ≡ true → has_class p loaded m ≡ true
  has-class loaded m has some = by (place_of_method p m) refl some
    where
      by : (o : Option MethodPlace) → place_of_method p m ≡ o → is_some o ≡ true → option_map_or (λ (place : MethodPlace). is_among place.class loaded) o false ≡ true
      by None e some = absurd (false≢true some)
      by (Some place) e some = has place e

  end-called : (loaded ms : List ℕ) (changes : List Change) → EndThenBegin changes → Targeted p code loaded ms changes → Placed p changes → Have loaded (methods_after_changes ms changes)
      → AreCalled p code loaded ms changes
  end-called loaded ms [] order targets placed have = tt
  end-called loaded ms (Left ∷ more) order targets placed have = end-called loaded (without_first ms) more order targets placed have
  end-called loaded ms (Unwound ∷ more) order targets placed have = end-called loaded (without_first ms) more order targets placed have
  end-called loaded ms (Began m ∷ []) order targets placed have = (has-class loaded m have.0 placed.0, targets.0, tt)
  end-called loaded ms (Began m ∷ c ∷ more) order targets placed have = absurd order
  end-called loaded ms (Loads classes ∷ more) order targets placed have = absurd order

  are-called : (loaded ms : List ℕ) (changes : List Change) → AreOrdered changes → Targeted p code loaded ms changes → Placed p changes → Have loaded (methods_after_changes ms changes)
      → AreCalled p code loaded ms changes
  are-called loaded ms (Loads classes ∷ more) order targets placed have = end-called loaded ms more order targets placed have
  are-called loaded ms [] order targets placed have = tt
  are-called loaded ms (Left ∷ more) order targets placed have = end-called loaded ms (Left ∷ more) order targets placed have
  are-called loaded ms (Unwound ∷ more) order targets placed have = end-called loaded ms (Unwound ∷ more) order targets placed have
  are-called loaded ms (Began m ∷ more) order targets placed have = end-called loaded ms (Began m ∷ more) order targets placed have

  -- what is asked of the states of the run
  pub record RunStands : Type 0 where
    pub at : (n : ℕ) → StandsAt (run w n).stack
    pub climbs : (n : ℕ) → Climbs p (run w n).shared.loaded

  module _ (stands : RunStands) where
    pub run-calls : (n : ℕ) → StepCalls (loaded_before w n) (methods_before w n) (turn w n)
    run-calls zero = subst (StepCalls (before w).shared.loaded []) (sym (turn_in-zero w t)) start-calls
    run-calls (suc n) =
        let was = run-calls n in
        subst (StepCalls (run w n).shared.loaded (methods (run w n).stack)) (sym (turn_in-suc w t n))
        (step-calls (run w n) (run-sound n) (stands.at n) was.due
        (subst (λ (a : Turn). Climbs p a.after.shared.loaded) (turn_in-suc w t n) (stands.climbs (suc n))))

    methods-next : (n : ℕ) → methods (run w n).stack ≡ methods_after_changes (methods_before w n) (turn w n).changes
    methods-next zero = run-tells-first w t
    methods-next (suc n) = run-tells w t n

    -- Every step tells what it loads, and what begins in it is called.
    pub run-told : (n : ℕ) → IsTold w code n
    run-told n =
        let calls = run-calls n in
        record {
          loads = calls.loads;
          calls = are-called (run w n).shared.loaded (methods_before w n) (turn w n).changes (run-ordered w t n) calls.targets calls.placed
              (subst (Have (run w n).shared.loaded) (methods-next n) (frames-have (run w n).shared.loaded (run w n).stack (run-sound n).stack));
        }
