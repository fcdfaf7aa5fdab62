-- Every state of a run over a sound listing is sound: the start gives one, and a step of one gives one (JVM
-- Specification 5.2, 5.3, 5.5).
use Rattle.std.proofs.Common.{◌≡◌, ℕ, false, List, [], ◌∷◌, ◌++◌, sym, subst, refl, ◌∙◌, ◌⊎◌, inl, inr}
use Rattle.std.proofs.lemmas.Option.{IfSome_then, none-some}
use Rattle.std.specs.Prelude.{Option, Some, None}
use Rattle.std.specs.List.{AllByRecursion}
use Rattle.std.specs.Option.{IfSome}
use Rattle.jvm_model.specs.Running.Applies.{applies, still}
use Rattle.jvm_model.specs.Basis.Data.{Listing, Operands, Frame, Entry, Active, Initializing, Ending, Uncaught, Breaks, State, Turn, Instruction, Done, Local, Operation, Athrow, Program, World}
use Rattle.jvm_model.specs.Instructions.Does.{does, loads}
use Rattle.jvm_model.specs.Running.Moves.{move, moves, turn_settled, then_turn}
use Rattle.jvm_model.specs.Codes.Originals.{original}
use Rattle.jvm_model.specs.Running.Run.{attempt, main_class, main_loads, start, starts, starts_with, step, steps_at, steps_by, steps_on, tries, with_classes_loaded}
use Rattle.jvm_model.specs.Basis.SharedState.{arguments_fit, class_of}
use Rattle.jvm_model.specs.Soundness.Sound.{CanAttempt, HasClass, HasSupertypes, IsFit, IsLoaded, IsSoundOutcome, IsSoundShared}
use Rattle.jvm_model.specs.Soundness.SoundListings.{IsSound, IsSoundEntry, IsSoundListing, RunsOriginal}
use Rattle.jvm_model.proofs.Running.Attempts.{again-by, loaded-after}
use Rattle.jvm_model.proofs.Running.Settles.{settled-keeps, settled-stops}
use Rattle.jvm_model.proofs.Soundness.SoundAttempts.{sound-does}
use Rattle.jvm_model.proofs.Soundness.SoundClasses.{all-then}
use Rattle.jvm_model.proofs.Soundness.SoundLines.{can-attempt}
use Rattle.jvm_model.proofs.Soundness.SoundObjects.{KeepsShared}
use Rattle.jvm_model.proofs.Soundness.SoundRuns.{loads-again, loads-same, loads-supertypes, shared-more, with-loaded-is}
use Rattle.jvm_model.proofs.Soundness.SoundStart.{IsRefused, begins-if}
use Rattle.jvm_model.proofs.Soundness.SoundListingSteps.{GoesTo, applied-goes, entry-grows, moves-go, settled-goes}
use Rattle.jvm_model.proofs.Loading.Among.{among-front}

-- `Runs` tells which versions a frame of a method can be in
module _ (Runs : ℕ → ℕ → Type 0) where
  more-sound : (p : Program) (classes : List ℕ) (s : State) → HasSupertypes p (s.shared.loaded ++ classes) → IsSound Runs p s → IsSound Runs p (with_classes_loaded classes s)
  more-sound p [] s above is = is
  more-sound p (c ∷ more) s above is = record {
    shared = shared-more p (c ∷ more) s above is.shared;
    stack = all-then (IsSoundEntry Runs p s.shared.loaded) (IsSoundEntry Runs p (s.shared.loaded ++ c ∷ more))
        (λ e h. entry-grows Runs p s.shared.loaded (s.shared.loaded ++ c ∷ more) (λ class h. among-front class s.shared.loaded (c ∷ more) h) e h) s.stack is.stack;
    main = λ on. among-front (main_class p) s.shared.loaded (c ∷ more) (is.main on);
  }

  -- where all is loaded that the instruction names
  pub sound-loaded : (w : World) (op : Operation Local) (o : Operands) (s : State) → IsSound Runs w.program s → IsSound Runs w.program (with_classes_loaded (loads w op s.shared o) s)
  sound-loaded w op o s is = more-sound w.program (loads w op s.shared o) s (loads-supertypes w op s.shared o is.shared.above) is

  -- ---- a step

  module _ (w : World) (fit : IsFit w.program) (t : Listing) (is_sound : IsSoundListing Runs w.program t) where
    on-with : (loaded now : List ℕ) (s : State) → now ≡ loaded → GoesTo Runs w.program now s → GoesTo Runs w.program loaded s
    on-with loaded now s e goes = subst (λ l. GoesTo Runs w.program l s) e goes

    -- what the rule gives, before it is applied
    done-goes : (s : State) (d : Done) → IsSound Runs w.program s → KeepsShared w.program s.shared d.shared
        → GoesTo Runs w.program s.shared.loaded (record s { shared = d.shared; output = s.output ++ d.wrote })
    done-goes s d is kept = record {
      sound = record {
        shared = kept.shared;
        stack = subst (λ loaded. AllByRecursion (IsSoundEntry Runs w.program loaded) s.stack) (sym kept.loaded) is.stack;
        main = λ on. subst (λ loaded. IsLoaded loaded (main_class w.program)) (sym kept.loaded) (is.main on);
      };
      same = kept.loaded;
    }

    tries-goes : (i : Instruction) (s : State) (f : Frame) (d : Done) → IsSoundEntry Runs w.program s.shared.loaded (Active f)
        → GoesTo Runs w.program s.shared.loaded (record s { shared = d.shared; output = s.output ++ d.wrote }) → IsSoundOutcome w.program s.shared.loaded d.outcome
        → GoesTo Runs w.program s.shared.loaded (tries w t i s f d).after
    tries-goes i s f d entry goes outcome =
        let after : State = record s { shared = d.shared; output = s.output ++ d.wrote } in
        settled-goes Runs w fit t is_sound s.shared.loaded (applies w t i d.outcome after f)
        (on-with s.shared.loaded d.shared.loaded (applies w t i d.outcome after f).after goes.same
        (applied-goes Runs w fit t is_sound i d.outcome after f goes.sound
        (subst (λ loaded. IsSoundEntry Runs w.program loaded (Active f)) (sym goes.same) entry)
        (subst (λ loaded. IsSoundOutcome w.program loaded d.outcome) (sym goes.same) outcome)))

    -- where all is loaded that the instruction names
    pub attempt-goes : (i : Instruction) (s : State) (f : Frame) → IsSound Runs w.program s → IsSoundEntry Runs w.program s.shared.loaded (Active f)
        → CanAttempt w.program s.shared.loaded i.operation → loads w i.operation s.shared f.operands ≡ []
        → GoesTo Runs w.program s.shared.loaded (attempt w t i s f).after
    attempt-goes i s f is entry can nothing =
        let d : Done = does w i.operation s.shared f.locals f.operands in
        let does_so = sound-does w fit s.shared is.shared i.operation f.locals f.operands can nothing in
        tries-goes i s f d entry (done-goes s d is (record { loaded = does_so.loaded_same; shared = does_so.shared })) does_so.outcome

    by-goes : (i : Instruction) (s : State) (f : Frame) → IsSound Runs w.program s → IsSoundEntry Runs w.program s.shared.loaded (Active f)
        → CanAttempt w.program s.shared.loaded i.operation → loads w i.operation s.shared f.operands ≡ []
        → GoesTo Runs w.program s.shared.loaded (steps_by w t i s f (does w i.operation s.shared f.locals f.operands)).after
    by-goes i s f is entry can nothing =
        let d : Done = does w i.operation s.shared f.locals f.operands in
        let a : Turn = attempt w t i s f in
        let first : GoesTo Runs w.program s.shared.loaded a.after = attempt-goes i s f is entry can nothing in
        let again : State = record a.after { stack = s.stack } in
        again-by (λ b. GoesTo Runs w.program s.shared.loaded b.after) w t i s f (starts d.outcome) a first
        (λ quiet on.
        on-with s.shared.loaded a.after.shared.loaded (attempt w t i again f).after first.same
        (attempt-goes i again f
        (record {
          shared = first.sound.shared;
          stack = subst (λ loaded. AllByRecursion (IsSoundEntry Runs w.program loaded) s.stack) (sym first.same) is.stack;
          main = first.sound.main;
        })
        (subst (λ loaded. IsSoundEntry Runs w.program loaded (Active f)) (sym first.same) entry)
        (subst (λ loaded. CanAttempt w.program loaded i.operation) (sym first.same) can)
        (loads-same w i.operation a.after.shared s.shared f.operands first.same ∙ nothing)))

    -- what an instruction loads is loaded, and it leads to a sound state with no more
    pub at-goes : (s : State) (f : Frame) (i : Instruction) → IsSound Runs w.program s → IsSoundEntry Runs w.program s.shared.loaded (Active f)
        → t.at f.version f.place ≡ Some i
        → (let ready : State = with_classes_loaded (loads w i.operation s.shared f.operands) s in
        GoesTo Runs w.program ready.shared.loaded (steps_by w t i ready f (does w i.operation ready.shared f.locals f.operands)).after)
    at-goes s f i is entry e =
        let classes = loads w i.operation s.shared f.operands in
        let ready : State = with_classes_loaded classes s in
        let there : IsSoundEntry Runs w.program ready.shared.loaded (Active f) =
        subst (λ loaded. IsSoundEntry Runs w.program loaded (Active f)) (sym (with-loaded-is classes s))
        (entry-grows Runs w.program s.shared.loaded (s.shared.loaded ++ classes) (λ class h. among-front class s.shared.loaded classes h) (Active f) entry) in
        let can : CanAttempt w.program ready.shared.loaded i.operation =
        is_sound.attempts ready.shared.loaded f.version f.method f.place i there.1 there.0 e in
        by-goes i ready f (sound-loaded w i.operation f.operands s is) there can (loads-again w i.operation s f.operands)

    at-sound : (s : State) (f : Frame) (found : Option Instruction) → IsSound Runs w.program s → IsSoundEntry Runs w.program s.shared.loaded (Active f) → s.ending ≡ None
        → t.at f.version f.place ≡ found → IsSound Runs w.program (steps_at w t s f found).after
    at-sound s f None is entry on e = (applied-goes Runs w fit t is_sound (record { operation = Athrow; own = 0; next = None; targets = [] }) (Breaks false) s f is entry tt).sound
    at-sound s f (Some i) is entry on e =
        let classes = loads w i.operation s.shared f.operands in
        let ready : State = with_classes_loaded classes s in
        subst (λ (x : State). IsSound Runs w.program x)
        (sym (loaded-after classes (steps_by w t i ready f (does w i.operation ready.shared f.locals f.operands))))
        (at-goes s f i is entry e).sound

    on-sound : (s : State) (ending : Option Ending) (stack : List Entry) → IsSound Runs w.program s → s.ending ≡ ending
        → AllByRecursion (IsSoundEntry Runs w.program s.shared.loaded) stack → IsSound Runs w.program (steps_on w t s ending stack).after
    on-sound s (Some e) [] is on each = is
    on-sound s (Some e) (f ∷ below) is on each = is
    on-sound s None [] is on each = is
    on-sound s None (Initializing c part ∷ below) is on each = is
    on-sound s None (Active f ∷ below) is on each =
        at-sound (record s { stack = below }) f (t.at f.version f.place) (record { shared = is.shared; stack = each.1; main = is.main }) each.0 on refl

    pub sound-step : (s : State) → IsSound Runs w.program s → IsSound Runs w.program (step w t s).after
    sound-step s is = on-sound s s.ending s.stack is refl is.stack

    -- ---- the start

    refused-moves : (s : State) (object : ℕ) (ending : Option Ending) (thrown : Option ℕ) (stack : List Entry) → IsSoundShared w.program s.shared → s.stack ≡ []
        → ending ≡ None → thrown ≡ Some object → stack ≡ []
        → IfSome (moves w t s ending thrown stack) (λ next. IsSound Runs w.program next.after)
    refused-moves s object (Some e) thrown stack is empty on threw none = tt
    refused-moves s object None None stack is empty on threw none = absurd (none-some object threw)
    refused-moves s object None (Some r) (e ∷ below) is empty on threw none = absurd (let no : e ∷ below ≡ [] → ⊥ = λ e. cc in no none)
    refused-moves s object None (Some r) [] is empty on threw none = record {
      shared = is;
      stack = subst (λ st. AllByRecursion (IsSoundEntry Runs w.program s.shared.loaded) st) (sym empty) tt;
      main = λ on. absurd (none-some (Uncaught (class_of w.program s.shared r)) (sym on));
    }

    refused-goes-on : (s : State) (object : ℕ) (ending : Option Ending) (thrown : Option ℕ) (stack : List Entry) → ending ≡ None → thrown ≡ Some object → stack ≡ []
        → moves w t s ending thrown stack ≡ None → ⊥
    refused-goes-on s object (Some e) thrown stack on threw none stops = none-some e (sym on)
    refused-goes-on s object None None stack on threw none stops = none-some object threw
    refused-goes-on s object None (Some r) (e ∷ below) on threw none stops = let no : e ∷ below ≡ [] → ⊥ = λ e. cc in no none
    refused-goes-on s object None (Some r) [] on threw none stops =
        none-some (still (record s { ending = Some (Uncaught (class_of w.program s.shared r)) })) (sym stops)

    abbrev Either : Turn → Type 0
    Either a = IsSound Runs w.program a.after ⊎ IsRefused Runs w fit a.after

    either-moves : (b : Turn) → Either b → IfSome (move w t b.after) (λ next. Either (then_turn b next))
    either-moves b (inl is) =
        IfSome_then (move w t b.after) {P = λ next. GoesTo Runs w.program b.after.shared.loaded next.after} {Q = λ next. Either (then_turn b next)}
        (moves-go Runs w fit t is_sound b.after is b.after.ending b.after.thrown b.after.stack refl is.stack) (λ next goes. inl goes.sound)
    either-moves b (inr is) =
        IfSome_then (move w t b.after) {P = λ next. IsSound Runs w.program next.after} {Q = λ next. Either (then_turn b next)}
        (refused-moves b.after is.object b.after.ending b.after.thrown b.after.stack is.shared is.stack is.ending is.thrown is.stack) (λ next sound. inl sound)

    at-end : (s : State) → IsSound Runs w.program s ⊎ IsRefused Runs w fit s → move w t s ≡ None → IsSound Runs w.program s
    at-end s (inl is) stops = is
    at-end s (inr is) stops = absurd (refused-goes-on s is.object s.ending s.thrown s.stack is.ending is.thrown is.stack stops)

    pub sound-start : IsSound Runs w.program (start w t).after
    sound-start =
        let first : Turn = still (starts_with w) in
        subst (λ (s : State). IsSound Runs w.program s) (sym (loaded-after (main_loads w) (turn_settled w t first)))
        (at-end (turn_settled w t first).after
        (settled-keeps w t Either either-moves first (begins-if Runs w fit (arguments_fit w.program)))
        (settled-stops w t first))

-- original code is such a listing
pub original-sound : (p : Program) → IsFit p → IsSoundListing RunsOriginal p (original p)
original-sound p fit = record {
  begins = λ method. refl;
  attempts = λ loaded version method place i runs has at. can-attempt p fit loaded version place i (subst (HasClass p loaded) (sym runs) has) at;
}
