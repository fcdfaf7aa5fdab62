-- What begins in a step is a target of what is current then, and every initialization on the stack is due on the frame
-- below it.
use Rattle.std.proofs.Common.{◌≡◌, ℕ, suc, Bool, true, false, List, [], ◌∷◌, ◌++◌, Option, Some, None, slice_get, nat_le, nat_lt, if◌then◌else◌, refl, sym, ap, subst, eqb-true}
use Rattle.std.specs.Prelude.{is_some, ◌==◌, ◌||◌}
use Rattle.std.specs.List.{AllByRecursion}
use Rattle.std.specs.Option.{IfSome, option_map}
use Rattle.std.proofs.lemmas.Bool.{false≢true}
use Rattle.heap_objects.specs.declared.datum.Datum.{Datum}
use Rattle.heap_objects.specs.declared.Value.TheVariants.{Ref, Addr}
use Rattle.frame_stack.specs.Widths.{height_of}
use Rattle.jvm_model.specs.Basis.Data.{Ending, Program, Frame, Entry, Active, Initializing, Part, Constants, Superclass, Initializer, Finish, Phase, Fresh, Running, Ready, Erroneous, State, Locals, Operands, Change, Loads, Began, Left, Unwound, Turn, Instruction, Listing, Local, Operation, Outcome, GoesOn, Subroutine, Invokes, Returns, Throws, Raises, Initializes, Exits, Breaks, World}
use Rattle.jvm_model.specs.Running.Applies.{still, with_frame, breaks, goes, new_frame, place_of, enters_subroutine, has_room, live_in, most_live, begins, begins_beside, resumes, gives_back, applies}
use Rattle.jvm_model.specs.Running.Changes.{methods, without_first, methods_after_changes}
use Rattle.jvm_model.specs.Classes.Load.{is_among}
use Rattle.jvm_model.specs.Running.Moves.{after_super, argument_array, at_part, throw_caught, handler_for, initializes, main_or_end, moves, own_at, runs_initializer, then_turn, with_super}
use Rattle.jvm_model.specs.Codes.Originals.{original}
use Rattle.jvm_model.specs.Basis.Programs.{initializer_of, place_of_method, super_of}
use Rattle.jvm_model.specs.Basis.SharedState.{class_of, phase_of}
use Rattle.jvm_model.specs.Soundness.Sound.{IsLoaded}
use Rattle.jvm_model.specs.Soundness.SoundListings.{IsSoundEntry, RunsOriginal}
use Rattle.jvm_model.specs.Basis.Values.{as_value, with_value}
use Rattle.jvm_model.proofs.Revealing.CalleePlaces.{due-above, initializer-place}
use Rattle.jvm_model.proofs.Events.Methods.{Tells, applies-tells, moves-tell, then-tells}
use Rattle.jvm_model.specs.Soundness.Calls.{IsCalled, loads_of}
use Rattle.jvm_model.specs.Soundness.Climbing.{Climbs, IsDue, Begins}
use Rattle.jvm_model.specs.Profiling.Targets.{begun_by_operation, targets_in}
use Rattle.jvm_model.proofs.Loading.Among.{among-front, among-behind}

-- ---- lists

-- the operation stands among these
pub record Has (operations : List (Operation Local)) (op : Operation Local) : Type 0 where
  pub front : List (Operation Local)
  pub rest : List (Operation Local)
  pub is : operations ≡ front ++ op ∷ rest

front-targets : (p : Program) (loaded : List ℕ) (front rest : List (Operation Local)) (op : Operation Local) (m : ℕ) → is_among m (begun_by_operation p loaded op) ≡ true
    → is_among m (targets_in p loaded (front ++ op ∷ rest)) ≡ true
front-targets p loaded [] rest op m e = among-front m (begun_by_operation p loaded op) (targets_in p loaded rest) e
front-targets p loaded (o ∷ front) rest op m e =
    among-behind m (begun_by_operation p loaded o) (targets_in p loaded (front ++ op ∷ rest)) (front-targets p loaded front rest op m e)

pub has-targets : (p : Program) (loaded : List ℕ) (operations : List (Operation Local)) (op : Operation Local) → Has operations op → (m : ℕ) → is_among m (begun_by_operation p loaded op) ≡ true
    → is_among m (targets_in p loaded operations) ≡ true
has-targets p loaded operations op has m e =
    subst (λ ops. is_among m (targets_in p loaded ops) ≡ true) (sym has.is) (front-targets p loaded has.front has.rest op m e)

pub all-at : (P : ℕ → Type 0) (xs : List ℕ) (x : ℕ) → AllByRecursion P xs → is_among x xs ≡ true → P x
all-at P [] x each there = absurd (false≢true there)
all-at P (y ∷ xs) x each there = by (x == y) refl there (λ h. all-at P xs x each.1 h)
  where
    by : (b : Bool) → (x == y) ≡ b → (b || is_among x xs) ≡ true → (is_among x xs ≡ true → P x) → P x
    by true e h rest = subst P (sym (eqb-true x y e)) each.0
    by false e h rest = rest h

-- ---- changes

-- what begins is called
abbrev pub Targeted : Program → (ℕ → List (Operation Local)) → List ℕ → List ℕ → List Change → Type 0
Targeted p code loaded ms [] = Unit {0}
Targeted p code loaded ms (Loads classes ∷ more) = Targeted p code loaded ms more
Targeted p code loaded ms (Began m ∷ more) = IsCalled p code loaded ms m × Targeted p code loaded (m ∷ ms) more
Targeted p code loaded ms (Left ∷ more) = Targeted p code loaded (without_first ms) more
Targeted p code loaded ms (Unwound ∷ more) = Targeted p code loaded (without_first ms) more

-- what begins is a method
abbrev pub Placed : Program → List Change → Type 0
Placed p [] = Unit {0}
Placed p (Loads classes ∷ more) = Placed p more
Placed p (Began m ∷ more) = (is_some (place_of_method p m) ≡ true) × Placed p more
Placed p (Left ∷ more) = Placed p more
Placed p (Unwound ∷ more) = Placed p more

targeted-append : (p : Program) (code : ℕ → List (Operation Local)) (loaded ms : List ℕ) (a b : List Change) → Targeted p code loaded ms a → Targeted p code loaded (methods_after_changes ms a) b
    → Targeted p code loaded ms (a ++ b)
targeted-append p code loaded ms [] b first second = second
targeted-append p code loaded ms (Loads classes ∷ more) b first second = targeted-append p code loaded ms more b first second
targeted-append p code loaded ms (Began m ∷ more) b first second = (first.0, targeted-append p code loaded (m ∷ ms) more b first.1 second)
targeted-append p code loaded ms (Left ∷ more) b first second = targeted-append p code loaded (without_first ms) more b first second
targeted-append p code loaded ms (Unwound ∷ more) b first second = targeted-append p code loaded (without_first ms) more b first second

pub placed-append : (p : Program) (a b : List Change) → Placed p a → Placed p b → Placed p (a ++ b)
placed-append p [] b first second = second
placed-append p (Loads classes ∷ more) b first second = placed-append p more b first second
placed-append p (Began m ∷ more) b first second = (first.0, placed-append p more b first.1 second)
placed-append p (Left ∷ more) b first second = placed-append p more b first second
placed-append p (Unwound ∷ more) b first second = placed-append p more b first second

pub loads-append : (a b : List Change) → loads_of a ≡ [] → loads_of b ≡ [] → loads_of (a ++ b) ≡ []
loads-append [] b first second = second
loads-append (Loads [] ∷ more) b first second = loads-append more b first second
loads-append (Loads (c ∷ classes) ∷ more) b first second = absurd (let no : (c ∷ classes) ++ loads_of more ≡ [] → ⊥ = λ e. cc in no first)
loads-append (Began m ∷ more) b first second = loads-append more b first second
loads-append (Left ∷ more) b first second = loads-append more b first second
loads-append (Unwound ∷ more) b first second = loads-append more b first second

-- ---- what is due

pub begins-more : (p : Program) (loaded ms more : List ℕ) → ((m : ℕ) → is_among m ms ≡ true → is_among m more ≡ true) → (o : Outcome) → Begins p loaded ms o → Begins p loaded more o
begins-more p loaded ms more within (GoesOn l o to) is = tt
begins-more p loaded ms more within Subroutine is = tt
begins-more p loaded ms more within (Invokes m args below) is = (within m is.0, is.1)
begins-more p loaded ms more within (Returns d) is = tt
begins-more p loaded ms more within (Throws r) is = tt
begins-more p loaded ms more within (Raises name message) is = tt
begins-more p loaded ms more within (Initializes c) is = λ d m there sub e. within m (is d m there sub e)
begins-more p loaded ms more within (Exits n) is = tt
begins-more p loaded ms more within (Breaks ends) is = tt

module _ (w : World) (code : ℕ → List (Operation Local)) where
  abbrev p : Program
  p = w.program

  abbrev t : Listing
  t = original w.program

  -- the initialization of a class is due on the current one of these methods
  abbrev pub DueOn : List ℕ → List ℕ → ℕ → Type 0
  DueOn loaded [] c = Unit {0}
  DueOn loaded (caller ∷ rest) c = IsDue p loaded (targets_in p loaded (code caller)) c

  abbrev pub AreDue : List ℕ → List Entry → Type 0
  AreDue loaded [] = Unit {0}
  AreDue loaded (Active f ∷ below) = AreDue loaded below
  AreDue loaded (Initializing c part ∷ below) = DueOn loaded (methods below) c × AreDue loaded below

  pub record CallsOn (loaded ms : List ℕ) (a : Turn) : Type 0 where
    pub tells : Tells ms a
    pub due : AreDue loaded a.after.stack
    pub targets : Targeted p code loaded ms a.changes
    pub placed : Placed p a.changes
    pub loads : loads_of a.changes ≡ []

  pub then-calls : (loaded ms : List ℕ) (a b : Turn) → CallsOn loaded ms a → CallsOn loaded (methods a.after.stack) b → CallsOn loaded ms (then_turn a b)
  then-calls loaded ms a b first second = record {
    tells = then-tells ms a b first.tells second.tells;
    due = second.due;
    targets = targeted-append p code loaded ms a.changes b.changes first.targets (subst (λ k. Targeted p code loaded k b.changes) first.tells second.targets);
    placed = placed-append p a.changes b.changes first.placed second.placed;
    loads = loads-append a.changes b.changes first.loads second.loads;
  }

  chosen-calls : (loaded ms : List ℕ) (b : Bool) (x y : Turn) → CallsOn loaded ms x → CallsOn loaded ms y → CallsOn loaded ms (if b then x else y)
  chosen-calls loaded ms true x y first second = first
  chosen-calls loaded ms false x y first second = second

  -- nothing is changed
  still-calls : (loaded ms : List ℕ) (s : State) → methods s.stack ≡ ms → AreDue loaded s.stack → CallsOn loaded ms (still s)
  still-calls loaded ms s tells due = record { tells = tells; due = due; targets = tt; placed = tt; loads = refl }

  -- ---- outcomes

  goes-due : (loaded : List ℕ) (s : State) (f : Frame) (own : ℕ) (l : Locals) (o : Operands) (place : Option ℕ) → AreDue loaded s.stack → AreDue loaded (goes s f own l o place).stack
  goes-due loaded s f own l o None due = due
  goes-due loaded s f own l o (Some place) due = by (nat_le (height_of o) f.max_stack)
    where
      by : (b : Bool) → AreDue loaded (if b then with_frame s (record f { place = place; locals = l; operands = o }) else breaks s f own).stack
      by true = due
      by false = due

  enters-due : (loaded : List ℕ) (s : State) (f : Frame) (i : Instruction) (next : Option ℕ) → AreDue loaded s.stack → AreDue loaded (enters_subroutine s f i next).stack
  enters-due loaded s f i None due = due
  enters-due loaded s f i (Some next) due = goes-due loaded s f i.own f.locals (Addr next ∷ f.operands) (slice_get i.targets 0) due

  resumes-due : (loaded : List ℕ) (s : State) (f : Frame) (d : Option Datum) (i : Option Instruction) → AreDue loaded s.stack → AreDue loaded (resumes s f d i).stack
  resumes-due loaded s f d None due = due
  resumes-due loaded s f d (Some i) due = goes-due loaded s f i.own f.locals (with_value (option_map as_value d) f.operands) i.next due

  gives-due : (loaded : List ℕ) (s : State) (d : Option Datum) (stack : List Entry) → AreDue loaded s.stack → AreDue loaded stack → AreDue loaded (gives_back t s d stack).stack
  gives-due loaded s d [] own due = own
  gives-due loaded s d (Initializing c part ∷ below) own due = own
  gives-due loaded s d (Active f ∷ below) own due = resumes-due loaded (record s { stack = below }) f d (t.at f.version f.place) due

  pub applies-calls : (loaded : List ℕ) (i : Instruction) (outcome : Outcome) (s : State) (f : Frame) → AreDue loaded s.stack
      → Begins p loaded (targets_in p loaded (code f.method)) outcome → CallsOn loaded (f.method ∷ methods s.stack) (applies w t i outcome s f)
  applies-calls loaded i (GoesOn l o to) s f due begins =
      still-calls loaded (f.method ∷ methods s.stack) (goes s f i.own l o (place_of i to)) (applies-tells w t i (GoesOn l o to) s f) (goes-due loaded s f i.own l o (place_of i to) due)
  applies-calls loaded i Subroutine s f due begins =
      still-calls loaded (f.method ∷ methods s.stack) (enters_subroutine s f i i.next) (applies-tells w t i Subroutine s f) (enters-due loaded s f i i.next due)
  applies-calls loaded i (Invokes m args below) s f due is =
      chosen-calls loaded (f.method ∷ methods s.stack) (has_room w m args) (begins_beside w t s f m args below (suc (live_in s.stack))) (still (breaks s f i.own))
      (chosen-calls loaded (f.method ∷ methods s.stack) (nat_lt (suc (live_in s.stack)) most_live) (begins w t s f m args below) _
      (record { tells = refl; due = due; targets = (is.0, tt); placed = (is.1, tt); loads = refl })
      (record { tells = refl; due = due; targets = tt; placed = tt; loads = refl }))
      (record { tells = refl; due = due; targets = tt; placed = tt; loads = refl })
  applies-calls loaded i (Returns d) s f due begins =
      record { tells = applies-tells w t i (Returns d) s f; due = gives-due loaded s d s.stack due due; targets = tt; placed = tt; loads = refl }
  applies-calls loaded i (Throws r) s f due begins = record { tells = refl; due = due; targets = tt; placed = tt; loads = refl }
  applies-calls loaded i (Raises c message) s f due begins = record { tells = refl; due = due; targets = tt; placed = tt; loads = refl }
  applies-calls loaded i (Initializes c) s f due begins = record { tells = refl; due = (begins, due); targets = tt; placed = tt; loads = refl }
  applies-calls loaded i (Exits n) s f due begins = record { tells = refl; due = due; targets = tt; placed = tt; loads = refl }
  applies-calls loaded i (Breaks true) s f due begins = record { tells = refl; due = due; targets = tt; placed = tt; loads = refl }
  applies-calls loaded i (Breaks false) s f due begins = record { tells = refl; due = due; targets = tt; placed = tt; loads = refl }

  -- ---- moves

  module _ (main_is : is_some (place_of_method p p.main) ≡ true) (loaded : List ℕ) (climbs : Climbs p loaded) where
    -- what is due of a class is due of its superclass, and its initializer is called
    super-due : (ms : List ℕ) (c d : ℕ) → IsLoaded loaded c → super_of p c ≡ Some d → DueOn loaded ms c → DueOn loaded ms d
    super-due [] c d there e due = tt
    super-due (caller ∷ rest) c d there e due =
        due-above p loaded climbs (targets_in p loaded (code caller)) c d there (climbs.superclass c d there e) due

    own-called : (ms : List ℕ) (c m : ℕ) → IsLoaded loaded c → initializer_of p c ≡ Some m → DueOn loaded ms c → IsCalled p code loaded ms m
    own-called [] c m there e due = tt
    own-called (caller ∷ rest) c m there e due = due c m there (climbs.own c there) e

    caught-due : (s : State) (r : ℕ) (f : Frame) (h : Option ℕ) → AreDue loaded s.stack → AreDue loaded (throw_caught w t s r f h).after.stack
    caught-due s r f None due = due
    caught-due s r f (Some target) due = goes-due loaded (record s { thrown = None }) f (own_at t f) f.locals (Ref r ∷ []) (Some target) due

    caught-calls : (s : State) (r : ℕ) (f : Frame) (h : Option ℕ) → Tells (f.method ∷ methods s.stack) (throw_caught w t s r f h) → AreDue loaded s.stack
        → CallsOn loaded (f.method ∷ methods s.stack) (throw_caught w t s r f h)
    caught-calls s r f None tells due = record { tells = tells; due = due; targets = tt; placed = tt; loads = refl }
    caught-calls s r f (Some target) tells due =
        record { tells = tells; due = caught-due s r f (Some target) due; targets = tt; placed = tt; loads = refl }

    after-super-due : (s : State) (c d : ℕ) (phase : Option Phase) → IsLoaded loaded c → super_of p c ≡ Some d → DueOn loaded (methods s.stack) c → AreDue loaded s.stack
        → AreDue loaded (after_super w s c d phase).stack
    after-super-due s c d (Some Fresh) there e own due = (super-due (methods s.stack) c d there e own, (own, due))
    after-super-due s c d (Some Erroneous) there e own due = (own, due)
    after-super-due s c d (Some Running) there e own due = (own, due)
    after-super-due s c d (Some Ready) there e own due = (own, due)
    after-super-due s c d None there e own due = (own, due)

    with-super-due : (s : State) (c : ℕ) (d : Option ℕ) → IsLoaded loaded c → super_of p c ≡ d → DueOn loaded (methods s.stack) c → AreDue loaded s.stack
        → AreDue loaded (with_super w s c d).stack
    with-super-due s c None there e own due = (own, due)
    with-super-due s c (Some d) there e own due = after-super-due s c d (phase_of s.shared d) there e own due

    runs-calls : (s : State) (c : ℕ) (m : Option ℕ) → IsLoaded loaded c → initializer_of p c ≡ m → DueOn loaded (methods s.stack) c → AreDue loaded s.stack
        → CallsOn loaded (methods s.stack) (runs_initializer w t s c m)
    runs-calls s c None there e own due = record { tells = refl; due = (own, due); targets = tt; placed = tt; loads = refl }
    runs-calls s c (Some m) there e own due =
        chosen-calls loaded (methods s.stack) (nat_lt (live_in s.stack) most_live)
        (record { after = with_frame (at_part s c Finish) (new_frame w t m []); changes = Began m ∷ [] }) _
        (record { tells = refl; due = (own, due); targets = (own-called (methods s.stack) c m there e own, tt); placed = (initializer-place p c m e, tt); loads = refl })
        (record { tells = refl; due = (own, due); targets = tt; placed = tt; loads = refl })

    main-calls : (s : State) (begun : Bool) → s.stack ≡ [] → CallsOn loaded [] (main_or_end w t s begun)
    main-calls s true e = record { tells = ap methods e; due = subst (AreDue loaded) (sym e) tt; targets = tt; placed = tt; loads = refl }
    main-calls s false e =
        chosen-calls loaded [] (has_room w p.main argument_array) _ _
        (record { tells = refl; due = tt; targets = (tt, tt); placed = (main_is, tt); loads = refl })
        (record { tells = ap methods e; due = subst (AreDue loaded) (sym e) tt; targets = tt; placed = tt; loads = refl })

    initializes-calls : (s : State) (c : ℕ) (part : Part) → IsLoaded loaded c → Tells (methods s.stack) (initializes w t s c part)
        → DueOn loaded (methods s.stack) c → AreDue loaded s.stack → CallsOn loaded (methods s.stack) (initializes w t s c part)
    initializes-calls s c Constants there tells own due = record { tells = tells; due = (own, due); targets = tt; placed = tt; loads = refl }
    initializes-calls s c Superclass there tells own due =
        record { tells = tells; due = with-super-due s c (super_of p c) there refl own due; targets = tt; placed = tt; loads = refl }
    initializes-calls s c Initializer there tells own due = runs-calls s c (initializer_of p c) there refl own due
    initializes-calls s c Finish there tells own due = record { tells = tells; due = due; targets = tt; placed = tt; loads = refl }

    pub moves-call : (s : State) (ending : Option Ending) (thrown : Option ℕ) (stack : List Entry) → s.stack ≡ stack → AllByRecursion (IsSoundEntry RunsOriginal p loaded) stack
        → AreDue loaded stack → IfSome (moves w t s ending thrown stack) (CallsOn loaded (methods stack))
    moves-call s ending thrown stack same each due = by ending thrown stack same each due (moves-tell w t s ending thrown stack same)
      where
        by : (ending : Option Ending) (thrown : Option ℕ) (stack : List Entry) → s.stack ≡ stack → AllByRecursion (IsSoundEntry RunsOriginal p loaded) stack
            → AreDue loaded stack → IfSome (moves w t s ending thrown stack) (Tells (methods stack)) → IfSome (moves w t s ending thrown stack) (CallsOn loaded (methods stack))
        by (Some e) thrown stack same each due tells = tt
        by None (Some r) [] same each due tells = record { tells = tells; due = subst (AreDue loaded) (sym same) tt; targets = tt; placed = tt; loads = refl }
        by None (Some r) (Active f ∷ below) same each due tells =
            caught-calls (record s { stack = below }) r f (handler_for w (class_of p s.shared r) f.place (t.handlers f.version)) tells due
        by None (Some r) (Initializing c part ∷ below) same each due tells = record { tells = tells; due = due.1; targets = tt; placed = tt; loads = refl }
        by None None [] same each due tells = main-calls s s.begun same
        by None None (Active f ∷ below) same each due tells = tt
        by None None (Initializing c part ∷ below) same each due tells = initializes-calls (record s { stack = below }) c part each.0 tells due.0 due.1
