-- What an instruction asks for, and the moves behind it, keep a state sound, over any listing of versions (JVM
-- Specification 2.6, 2.10, 5.5).
use Rattle.std.proofs.Common.{◌≡◌, ℕ, suc, Bool, true, false, List, [], ◌∷◌, ap, sym, subst, refl, ◌∙◌}
use Rattle.std.specs.Prelude.{Option, Some, None, slice_get, nat_le, nat_lt, if◌then◌else◌}
use Rattle.std.specs.List.{AllByRecursion}
use Rattle.std.specs.Option.{IfSome, option_and_then, option_map, option_map_or, option_to_list}
use Rattle.std.proofs.lemmas.Option.{none-some}
use Rattle.heap_objects.specs.declared.datum.Datum.{Datum}
use Rattle.heap_objects.specs.declared.datum.Datum.TheVariants as datum
use Rattle.heap_objects.specs.declared.Value.TheVariants.{Ref, Addr}
use Rattle.const_pool.specs.declared.class.ClassFile.{ClassFile}
use Rattle.frame_stack.specs.Widths.{height_of}
use Rattle.jvm_model.specs.Running.Applies.{begins, begins_beside, breaks, enters_subroutine, gives_back, goes, has_room, applies, live_in, most_live, new_frame, place_of, resumes, still, throws_at, with_frame}
use Rattle.jvm_model.specs.Running.Constants.{sets_constants}
use Rattle.jvm_model.specs.Basis.Data.{Listing, Locals, Operands, Frame, Entry, Active, Initializing, MethodPlace, Part, Constants, Superclass, Initializer, Finish, Phase, Fresh, Running, Ready, Erroneous, Shared, Ending, Exited, Returned, Uncaught, Unverifiable, State, Began, Turn, Instruction, World, Outcome, GoesOn, Subroutine, Invokes, Returns, Throws, Raises, Initializes, Exits, Breaks, Program}
use Rattle.jvm_model.specs.Classes.Lookup.{is_below}
use Rattle.jvm_model.specs.Basis.Methods.{method_named}
use Rattle.jvm_model.specs.Running.Moves.{after_super, argument_array, at_part, throw_caught, fails, handler_for, initializes, main_or_end, move, moves, own_at, raises, runs_initializer, turn_settled, with_constants, with_super, throw_wrapped}
use Rattle.jvm_model.specs.Basis.Programs.{class_at, initializer_name, initializer_of, name_at, number_of_method, super_of}
use Rattle.jvm_model.specs.Running.Run.{main_class}
use Rattle.jvm_model.specs.Basis.SharedState.{Allocated, class_of, error, in_initializer, made_with, no_class_definition, null, phase_of, exception_raised, stack_overflow, with_phase}
use Rattle.jvm_model.specs.Soundness.Sound.{HasClass, IsBuiltInName, IsFit, IsLoaded, IsSoundOutcome, IsSoundShared}
use Rattle.jvm_model.specs.Soundness.SoundListings.{IsSound, IsSoundEntry, IsSoundListing}
use Rattle.jvm_model.specs.Basis.Values.{as_value, with_value}
use Rattle.jvm_model.proofs.Running.Settles.{settled-keeps}
use Rattle.jvm_model.proofs.Soundness.SoundObjects.{KeepsShared, constants-sound, exception-sound}
use Rattle.jvm_model.proofs.Soundness.SoundRules.{number-class}

-- `Runs` tells which versions a frame of a method can be in
module _ (Runs : ℕ → ℕ → Type 0) where
  -- a state that is sound, where these classes are loaded
  pub record GoesTo (p : Program) (loaded : List ℕ) (s : State) : Type 0 where
    pub sound : IsSound Runs p s
    pub same : s.shared.loaded ≡ loaded

  pub stays : (p : Program) (s : State) → IsSound Runs p s → GoesTo p s.shared.loaded s
  stays p s is = record { sound = is; same = refl }

  -- with more classes loaded an entry stays sound
  pub entry-grows : (p : Program) (before after : List ℕ) → ((class : ℕ) → IsLoaded before class → IsLoaded after class) → (e : Entry) → IsSoundEntry Runs p before e
      → IsSoundEntry Runs p after e
  entry-grows p before after grown (Active f) is = (λ place found. grown place.class (is.0 place found), is.1)
  entry-grows p before after grown (Initializing class part) is = grown class is

  -- where what is shared is kept, and each entry and the main class are as they are to be
  moved : (p : Program) (s after : State) → KeepsShared p s.shared after.shared → AllByRecursion (IsSoundEntry Runs p s.shared.loaded) after.stack
      → (after.ending ≡ None → IsLoaded s.shared.loaded (main_class p)) → GoesTo p s.shared.loaded after
  moved p s after kept stack main = record {
    sound = record {
      shared = kept.shared;
      stack = subst (λ loaded. AllByRecursion (IsSoundEntry Runs p loaded) after.stack) (sym kept.loaded) stack;
      main = λ on. subst (λ loaded. IsLoaded loaded (main_class p)) (sym kept.loaded) (main on);
    };
    same = kept.loaded;
  }

  same-shared : (p : Program) (s : Shared) → IsSoundShared p s → KeepsShared p s s
  same-shared p s is = record { loaded = refl; shared = is }

  -- phases are not looked at
  with-phase : (p : Program) (before s : Shared) (class : ℕ) (phase : Phase) → KeepsShared p before s → KeepsShared p before (with_phase s class phase)
  with-phase p before s class phase kept = record {
    loaded = kept.loaded;
    shared = record { built_in = kept.shared.built_in; above = kept.shared.above; objects = kept.shared.objects };
  }

  chosen-turn : (p : Program) (loaded : List ℕ) (b : Bool) (x y : Turn) → GoesTo p loaded x.after → GoesTo p loaded y.after → GoesTo p loaded (if b then x else y).after
  chosen-turn p loaded true x y first second = first
  chosen-turn p loaded false x y first second = second

  chosen-state : (p : Program) (loaded : List ℕ) (b : Bool) (x y : State) → GoesTo p loaded x → GoesTo p loaded y → GoesTo p loaded (if b then x else y)
  chosen-state p loaded true x y first second = first
  chosen-state p loaded false x y first second = second

  -- ---- what an instruction asks for

  module _ (w : World) (fit : IsFit w.program) (t : Listing) (is_sound : IsSoundListing Runs w.program t) where
    abbrev Entries : State → List Entry → Type 0
    Entries s stack = AllByRecursion (IsSoundEntry Runs w.program s.shared.loaded) stack

    module _ (s : State) (is : IsSound Runs w.program s) where
      -- the same of what is shared, with another stack
      restacked : (after : State) → after.shared ≡ s.shared → Entries s after.stack → (after.ending ≡ None → s.ending ≡ None) → GoesTo w.program s.shared.loaded after
      restacked after same stack on =
          moved w.program s after (subst (KeepsShared w.program s.shared) (sym same) (same-shared w.program s.shared is.shared)) stack (λ none. is.main (on none))

      ended : (after : State) (ending : Ending) → after.shared ≡ s.shared → Entries s after.stack → after.ending ≡ Some ending → GoesTo w.program s.shared.loaded after
      ended after ending same stack is_ended = restacked after same stack (λ none. absurd (none-some ending (sym (sym is_ended ∙ none))))

      module _ (f : Frame) (entry : IsSoundEntry Runs w.program s.shared.loaded (Active f)) where
        breaks-sound : (own : ℕ) → GoesTo w.program s.shared.loaded (breaks s f own)
        breaks-sound own = ended (breaks s f own) (Unverifiable f.method own) refl (entry, is.stack) refl

        goes-sound : (own : ℕ) (l : Locals) (o : Operands) (place : Option ℕ) → GoesTo w.program s.shared.loaded (goes s f own l o place)
        goes-sound own l o None = breaks-sound own
        goes-sound own l o (Some place) =
            chosen-state w.program s.shared.loaded (nat_le (height_of o) f.max_stack) (with_frame s (record f { place = place; locals = l; operands = o })) (breaks s f own)
            (restacked (with_frame s (record f { place = place; locals = l; operands = o })) refl (entry, is.stack) (λ on. on)) (breaks-sound own)

        enters-sound : (i : Instruction) (next : Option ℕ) → GoesTo w.program s.shared.loaded (enters_subroutine s f i next)
        enters-sound i None = breaks-sound i.own
        enters-sound i (Some next) = goes-sound i.own f.locals (Addr next ∷ f.operands) (slice_get i.targets 0)

        throws-sound : (a : Allocated) → KeepsShared w.program s.shared a.shared → GoesTo w.program s.shared.loaded (throws_at s f a)
        throws-sound a kept = moved w.program s (throws_at s f a) kept (entry, is.stack) is.main

        raises-sound : (name : List ℕ) (message : Option (List ℕ)) → IsBuiltInName name → GoesTo w.program s.shared.loaded (throws_at s f (exception_raised w s.shared name message))
        raises-sound name message known = throws-sound (exception_raised w s.shared name message) (exception-sound w fit s.shared is.shared name message null known)

        invokes-sound : (i : Instruction) (m : ℕ) (args : List Datum) (below : Operands) → HasClass w.program s.shared.loaded m
            → GoesTo w.program s.shared.loaded (applies w t i (Invokes m args below) s f).after
        invokes-sound i m args below has =
            chosen-turn w.program s.shared.loaded (has_room w m args) (begins_beside w t s f m args below (suc (live_in s.stack))) (still (breaks s f i.own))
            (chosen-turn w.program s.shared.loaded (nat_lt (suc (live_in s.stack)) most_live) (begins w t s f m args below)
            (still (throws_at s f (exception_raised w s.shared stack_overflow None)))
            (restacked (begins w t s f m args below).after refl ((has, is_sound.begins m), (entry, is.stack)) (λ on. on))
            (raises-sound stack_overflow None refl))
            (breaks-sound i.own)

      resumes-sound : (caller : Frame) (entry : IsSoundEntry Runs w.program s.shared.loaded (Active caller)) (d : Option Datum) (i : Option Instruction)
          → GoesTo w.program s.shared.loaded (resumes s caller d i)
      resumes-sound caller entry d None = breaks-sound caller entry 0
      resumes-sound caller entry d (Some i) = goes-sound caller entry i.own caller.locals (with_value (option_map as_value d) caller.operands) i.next

    -- with another stack
    with-stack : (s : State) (stack : List Entry) → IsSound Runs w.program s → Entries s stack → IsSound Runs w.program (record s { stack = stack })
    with-stack s stack is each = record { shared = is.shared; stack = each; main = is.main }

    gives-sound : (s : State) → IsSound Runs w.program s → (d : Option Datum) (stack : List Entry) → Entries s stack
        → GoesTo w.program s.shared.loaded (gives_back t s d stack)
    gives-sound s is d [] each = stays w.program s is
    gives-sound s is d (Initializing c part ∷ below) each = stays w.program s is
    gives-sound s is d (Active caller ∷ below) each =
        resumes-sound (record s { stack = below }) (with-stack s below is each.1) caller each.0 d (t.at caller.version caller.place)

    pub applied-goes : (i : Instruction) (outcome : Outcome) (s : State) (f : Frame) → IsSound Runs w.program s → IsSoundEntry Runs w.program s.shared.loaded (Active f)
        → IsSoundOutcome w.program s.shared.loaded outcome → GoesTo w.program s.shared.loaded (applies w t i outcome s f).after
    applied-goes i (GoesOn l o to) s f is entry sound = goes-sound s is f entry i.own l o (place_of i to)
    applied-goes i Subroutine s f is entry sound = enters-sound s is f entry i i.next
    applied-goes i (Invokes m args below) s f is entry sound = invokes-sound s is f entry i m args below sound
    applied-goes i (Returns d) s f is entry sound = gives-sound s is d s.stack is.stack
    applied-goes i (Throws r) s f is entry sound = throws-sound s is f entry (record { shared = s.shared; reference = r }) (same-shared w.program s.shared is.shared)
    applied-goes i (Raises c message) s f is entry sound = raises-sound s is f entry c message sound
    applied-goes i (Initializes c) s f is entry sound =
        moved w.program s (applies w t i (Initializes c) s f).after
        (with-phase w.program s.shared s.shared c Running (same-shared w.program s.shared is.shared)) (sound, (entry, is.stack)) is.main
    applied-goes i (Exits n) s f is entry sound = ended s is (applies w t i (Exits n) s f).after (Exited n) refl (entry, is.stack) refl
    applied-goes i (Breaks true) s f is entry sound =
        ended s is (applies w t i (Breaks true) s f).after (Unverifiable f.method i.own) refl is.stack refl
    applied-goes i (Breaks false) s f is entry sound = breaks-sound s is f entry i.own

    -- ---- moves

    -- the class's static initializer is a method of the class
    initializer-class : (loaded : List ℕ) (class m : ℕ) → IsLoaded loaded class → initializer_of w.program class ≡ Some m → HasClass w.program loaded m
    initializer-class loaded class m there e = by (class_at w.program class) e
      where
        named : (o : Option ℕ) → option_and_then (number_of_method w.program class) o ≡ Some m → HasClass w.program loaded m
        named None e = absurd (none-some m e)
        named (Some at) e = number-class w.program class at m loaded e there

        by : (o : Option ClassFile) → option_and_then (λ c. option_and_then (number_of_method w.program class) (method_named c initializer_name)) o ≡ Some m
            → HasClass w.program loaded m
        by None e = absurd (none-some m e)
        by (Some c) e = named (method_named c initializer_name) e

    main-has : (loaded : List ℕ) → IsLoaded loaded (main_class w.program) → HasClass w.program loaded w.program.main
    main-has loaded there place found =
        subst (IsLoaded loaded) (ap (λ o. option_map_or (λ (at : MethodPlace). at.class) o 0) found) there

    module _ (s : State) (is : IsSound Runs w.program s) where
      abbrev Goes : State → Type 0
      Goes after = GoesTo w.program s.shared.loaded after

      caught-goes : (below : List Entry) (r : ℕ) (f : Frame) (h : Option ℕ) → Entries s below → IsSoundEntry Runs w.program s.shared.loaded (Active f)
          → Goes (throw_caught w t (record s { stack = below }) r f h).after
      caught-goes below r f None each entry = restacked s is (record s { stack = below }) refl each (λ on. on)
      caught-goes below r f (Some target) each entry =
          goes-sound (record s { stack = below; thrown = None }) (record { shared = is.shared; stack = each; main = is.main }) f entry
          (own_at t f) f.locals (Ref r ∷ []) (Some target)

      wrapped-kept : (r : ℕ) → KeepsShared w.program s.shared (throw_wrapped w s.shared r).shared
      wrapped-kept r = by (is_below w.program (class_of w.program s.shared r) error)
        where
          by : (b : Bool) → KeepsShared w.program s.shared
              (let a : Allocated = if b then record { shared = s.shared; reference = r } else made_with w s.shared in_initializer None (datum.Ref r) in a).shared
          by true = same-shared w.program s.shared is.shared
          by false = exception-sound w fit s.shared is.shared in_initializer None (datum.Ref r) refl

      fails-goes : (below : List Entry) (c r : ℕ) → Entries s below → Goes (fails w (record s { stack = below }) c r)
      fails-goes below c r each =
          moved w.program s (fails w (record s { stack = below }) c r)
          (with-phase w.program s.shared (throw_wrapped w s.shared r).shared c Erroneous (wrapped-kept r)) each is.main

      part-goes : (below : List Entry) (c : ℕ) (part : Part) → Entries s below → IsLoaded s.shared.loaded c → Goes (at_part (record s { stack = below }) c part)
      part-goes below c part each there = restacked s is (at_part (record s { stack = below }) c part) refl (there, each) (λ on. on)

      part-raises : (below : List Entry) (c : ℕ) (part : Part) (name : List ℕ) (message : Option (List ℕ)) → Entries s below → IsLoaded s.shared.loaded c → IsBuiltInName name
          → Goes (raises w (at_part (record s { stack = below }) c part) name message)
      part-raises below c part name message each there known =
          moved w.program s (raises w (at_part (record s { stack = below }) c part) name message)
          (exception-sound w fit s.shared is.shared name message null known) (there, each) is.main

      super-goes : (below : List Entry) (c d : ℕ) (phase : Option Phase) → Entries s below → IsLoaded s.shared.loaded c → IsLoaded s.shared.loaded d
          → Goes (after_super w (record s { stack = below }) c d phase)
      super-goes below c d (Some Fresh) each there above =
          moved w.program s (after_super w (record s { stack = below }) c d (Some Fresh))
          (with-phase w.program s.shared s.shared d Running (same-shared w.program s.shared is.shared)) (above, (there, each)) is.main
      super-goes below c d (Some Erroneous) each there above = part-raises below c Initializer no_class_definition (name_at w.program d) each there refl
      super-goes below c d (Some Running) each there above = part-goes below c Initializer each there
      super-goes below c d (Some Ready) each there above = part-goes below c Initializer each there
      super-goes below c d None each there above = part-goes below c Initializer each there

      with-super-goes : (below : List Entry) (c : ℕ) (d : Option ℕ) → Entries s below → IsLoaded s.shared.loaded c → AllByRecursion (IsLoaded s.shared.loaded) (option_to_list d)
          → Goes (with_super w (record s { stack = below }) c d)
      with-super-goes below c None each there above = part-goes below c Initializer each there
      with-super-goes below c (Some d) each there above = super-goes below c d (phase_of s.shared d) each there above.0

      runs-goes : (below : List Entry) (c : ℕ) (m : Option ℕ) → initializer_of w.program c ≡ m → Entries s below → IsLoaded s.shared.loaded c
          → Goes (runs_initializer w t (record s { stack = below }) c m).after
      runs-goes below c None e each there = part-goes below c Finish each there
      runs-goes below c (Some m) e each there =
          chosen-turn w.program s.shared.loaded (nat_lt (live_in below) most_live)
          (record { after = with_frame (at_part (record s { stack = below }) c Finish) (new_frame w t m []); changes = Began m ∷ [] })
          (still (raises w (at_part (record s { stack = below }) c Finish) stack_overflow None))
          (restacked s is (with_frame (at_part (record s { stack = below }) c Finish) (new_frame w t m [])) refl
          ((initializer-class s.shared.loaded c m there e, is_sound.begins m), (there, each)) (λ on. on))
          (part-raises below c Finish stack_overflow None each there refl)

      initializes-goes : (below : List Entry) (c : ℕ) (part : Part) → Entries s below → IsLoaded s.shared.loaded c
          → Goes (initializes w t (record s { stack = below }) c part).after
      initializes-goes below c Constants each there =
          moved w.program s (with_constants (record s { stack = below }) c (sets_constants w.program c s.shared))
          (constants-sound w.program fit c s.shared is.shared) (there, each) is.main
      initializes-goes below c Superclass each there = with-super-goes below c (super_of w.program c) each there (is.shared.above.superclass c there)
      initializes-goes below c Initializer each there = runs-goes below c (initializer_of w.program c) refl each there
      initializes-goes below c Finish each there =
          moved w.program s (record s { stack = below; shared = with_phase s.shared c Ready })
          (with-phase w.program s.shared s.shared c Ready (same-shared w.program s.shared is.shared)) each is.main

      main-goes : (begun : Bool) → s.ending ≡ None → Goes (main_or_end w t s begun).after
      main-goes true on = ended s is (record s { ending = Some Returned }) Returned refl is.stack refl
      main-goes false on =
          chosen-turn w.program s.shared.loaded (has_room w w.program.main argument_array)
          (record { after = record s { begun = true; stack = Active (new_frame w t w.program.main argument_array) ∷ [] }; changes = Began w.program.main ∷ [] })
          (still (record s { ending = Some (Unverifiable w.program.main 0) }))
          (restacked s is (record s { begun = true; stack = Active (new_frame w t w.program.main argument_array) ∷ [] }) refl
          ((main-has s.shared.loaded (is.main on), is_sound.begins w.program.main), tt) (λ on. on))
          (ended s is (record s { ending = Some (Unverifiable w.program.main 0) }) (Unverifiable w.program.main 0) refl is.stack refl)

      pub moves-go : (ending : Option Ending) (thrown : Option ℕ) (stack : List Entry) → s.ending ≡ ending → Entries s stack
          → IfSome (moves w t s ending thrown stack) (λ next. Goes next.after)
      moves-go (Some e) thrown stack on each = tt
      moves-go None (Some r) [] on each =
          ended s is (record s { ending = Some (Uncaught (class_of w.program s.shared r)) }) (Uncaught (class_of w.program s.shared r)) refl is.stack refl
      moves-go None (Some r) (Active f ∷ below) on each =
          caught-goes below r f (handler_for w (class_of w.program s.shared r) f.place (t.handlers f.version)) each.1 each.0
      moves-go None (Some r) (Initializing c part ∷ below) on each = fails-goes below c r each.1
      moves-go None None [] on each = main-goes s.begun on
      moves-go None None (Active f ∷ below) on each = tt
      moves-go None None (Initializing c part ∷ below) on each = initializes-goes below c part each.1 each.0

    pub settled-goes : (loaded : List ℕ) (a : Turn) → GoesTo w.program loaded a.after → GoesTo w.program loaded (turn_settled w t a).after
    settled-goes loaded a is = settled-keeps w t (λ b. GoesTo w.program loaded b.after)
        (λ b was.
        subst (λ now. IfSome (move w t b.after) (λ next. GoesTo w.program now next.after)) was.same
        (moves-go b.after was.sound b.after.ending b.after.thrown b.after.stack refl was.sound.stack)) a is

    pub sound-applied : (i : Instruction) (outcome : Outcome) (s : State) (f : Frame) → IsSound Runs w.program s → IsSoundEntry Runs w.program s.shared.loaded (Active f)
        → IsSoundOutcome w.program s.shared.loaded outcome → IsSound Runs w.program (applies w t i outcome s f).after
    sound-applied i outcome s f is entry sound = (applied-goes i outcome s f is entry sound).sound

    pub sound-settled : (a : Turn) → IsSound Runs w.program a.after → IsSound Runs w.program (turn_settled w t a).after
    sound-settled a is = (settled-goes a.after.shared.loaded a (stays w.program a.after is)).sound
