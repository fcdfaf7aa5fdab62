-- The moves by which a state comes to its normal form: unwinding and initialization (JVM Specification 2.10, 5.5).
use Rattle.std.specs.Prelude.{ℕ, zero, suc, ◌+◌, ◌*◌, Bool, true, false, List, [], ◌∷◌, ◌++◌, Option, Some, None, is_some, nat_le, nat_lt, ◌&&◌, if◌then◌else◌}
use Rattle.std.specs.Option.{option_map_or}
use Rattle.heap_objects.specs.declared.datum.Datum.TheVariants as datum
use Rattle.heap_objects.specs.declared.Value.TheVariants.{Ref}
use Rattle.jvm_model.specs.Basis.Data.{Datum, Frame, Entry, Active, Initializing, Part, Constants, Superclass, Initializer, Finish, Phase, Fresh, Running, Ready, Erroneous, Shared, Ending, Returned, Uncaught, Unverifiable, State, Began, Unwound, Turn, Catcher, Instruction, Listing, World}
use Rattle.jvm_model.specs.Running.Constants.{Setting, sets_constants}
use Rattle.jvm_model.specs.Classes.Lookup.{is_below}
use Rattle.jvm_model.specs.Basis.Programs.{name_at, super_of, initializer_of}
use Rattle.jvm_model.specs.Basis.SharedState.{error, no_class_definition, in_initializer, stack_overflow, phase_of, with_phase, class_of, Allocated, made_with, exception_raised}
use Rattle.jvm_model.specs.Running.Applies.{still, with_frame, goes, new_frame, has_room, live_in, most_live}

-- ---- a throw meets a frame

abbrev pub covers : World → ℕ → ℕ → Catcher → Bool
covers w class place h = nat_le h.start place && nat_lt place h.finish && option_map_or (is_below w.program class) h.catches true

-- the first one in table order
abbrev pub handler_for : World → ℕ → ℕ → List Catcher → Option ℕ
handler_for w class place [] = None
handler_for w class place (h ∷ more) = if covers w class place h then Some h.target else handler_for w class place more

-- the original offset of the instruction at which a frame stands
abbrev pub own_at : Listing → Frame → ℕ
own_at t f = option_map_or (λ (i : Instruction). i.own) (t.at f.version f.place) 0

abbrev pub throw_caught : World → Listing → State → ℕ → Frame → Option ℕ → Turn
throw_caught w t s r f None = record { after = s; changes = Unwound ∷ [] }
throw_caught w t s r f (Some target) = still (goes (record s { thrown = None }) f (own_at t f) f.locals (Ref r ∷ []) (Some target))

-- ---- a throw meets an initialization

-- what is no Error becomes the cause of one
abbrev pub throw_wrapped : World → Shared → ℕ → Allocated
throw_wrapped w s r =
    if is_below w.program (class_of w.program s r) error then record { shared = s; reference = r }
    else made_with w s in_initializer None (datum.Ref r)

abbrev pub fails : World → State → ℕ → ℕ → State
fails w s c r = let a = throw_wrapped w s.shared r in record s { shared = with_phase a.shared c Erroneous; thrown = Some a.reference }

-- ---- an initialization goes on

abbrev pub at_part : State → ℕ → Part → State
at_part s c part = record s { stack = Initializing c part ∷ s.stack }

-- an exception that the machine makes is thrown
abbrev pub raises : World → State → List ℕ → Option (List ℕ) → State
raises w s name message = let a = exception_raised w s.shared name message in record s { shared = a.shared; thrown = Some a.reference }

abbrev pub after_super : World → State → ℕ → ℕ → Option Phase → State
after_super w s c d (Some Fresh) = record s { stack = Initializing d Constants ∷ Initializing c Initializer ∷ s.stack; shared = with_phase s.shared d Running }
after_super w s c d (Some Erroneous) = raises w (at_part s c Initializer) no_class_definition (name_at w.program d)
after_super w s c d _ = at_part s c Initializer

abbrev pub with_super : World → State → ℕ → Option ℕ → State
with_super w s c None = at_part s c Initializer
with_super w s c (Some d) = after_super w s c d (phase_of s.shared d)

abbrev pub runs_initializer : World → Listing → State → ℕ → Option ℕ → Turn
runs_initializer w t s c None = still (at_part s c Finish)
runs_initializer w t s c (Some m) =
    if nat_lt (live_in s.stack) most_live
    then record { after = with_frame (at_part s c Finish) (new_frame w t m []); changes = Began m ∷ [] }
    else still (raises w (at_part s c Finish) stack_overflow None)

-- the constants are set, and an object that was thrown meets the marker
abbrev pub with_constants : State → ℕ → Setting → State
with_constants s c setting = record (at_part s c Superclass) { shared = setting.shared; thrown = setting.thrown }

-- from the state without the marker
abbrev pub initializes : World → Listing → State → ℕ → Part → Turn
initializes w t s c Constants = still (with_constants s c (sets_constants w.program c s.shared))
initializes w t s c Superclass = still (with_super w s c (super_of w.program c))
initializes w t s c Initializer = runs_initializer w t s c (initializer_of w.program c)
initializes w t s c Finish = still (record s { shared = with_phase s.shared c Ready })

-- ---- nothing is left

-- what `main` is given: the array of its arguments, which is object 5
abbrev pub argument_array : List Datum
argument_array = datum.Ref 5 ∷ []

abbrev pub main_or_end : World → Listing → State → Bool → Turn
main_or_end w t s true = still (record s { ending = Some Returned })
main_or_end w t s false =
    if has_room w w.program.main argument_array
    then record { after = record s { begun = true; stack = Active (new_frame w t w.program.main argument_array) ∷ [] }; changes = Began w.program.main ∷ [] }
    else still (record s { ending = Some (Unverifiable w.program.main 0) })

-- ---- every move

-- by the ending, what is thrown, and the stack
abbrev pub moves : World → Listing → State → Option Ending → Option ℕ → List Entry → Option Turn
moves w t s (Some e) thrown stack = None
moves w t s None (Some r) [] = Some (still (record s { ending = Some (Uncaught (class_of w.program s.shared r)) }))
moves w t s None (Some r) (Active f ∷ below) = Some (throw_caught w t (record s { stack = below }) r f (handler_for w (class_of w.program s.shared r) f.place (t.handlers f.version)))
moves w t s None (Some r) (Initializing c part ∷ below) = Some (still (fails w (record s { stack = below }) c r))
moves w t s None None [] = Some (main_or_end w t s s.begun)
moves w t s None None (Active f ∷ below) = None
moves w t s None None (Initializing c part ∷ below) = Some (initializes w t (record s { stack = below }) c part)

abbrev pub move : World → Listing → State → Option Turn
move w t s = moves w t s s.ending s.thrown s.stack

-- ---- the normal form

-- how many moves can be left for an entry at most
abbrev pub weight : Entry → ℕ
weight (Active f) = 1
weight (Initializing c Constants) = 8
weight (Initializing c Superclass) = 6
weight (Initializing c Initializer) = 4
weight (Initializing c Finish) = 2

abbrev pub weights : List Entry → ℕ
weights [] = 0
weights (e ∷ below) = weight e + weights below

abbrev pub fresh : List Phase → ℕ
fresh [] = 0
fresh (Fresh ∷ more) = suc (fresh more)
fresh (_ ∷ more) = fresh more

abbrev pub unit : Bool → ℕ
unit true = 1
unit false = 0

abbrev pub unit_unless : Bool → ℕ
unit_unless true = 0
unit_unless false = 1

-- each move makes it less
abbrev pub moves_left : State → ℕ
moves_left s = 8 * fresh s.shared.phases + weights s.stack + unit (is_some s.thrown) + 2 * unit_unless s.begun + unit_unless (is_some s.ending)

abbrev pub then_turn : Turn → Turn → Turn
then_turn a b = record { after = b.after; changes = a.changes ++ b.changes }

-- so many moves, or up to where none applies
abbrev pub settles : World → Listing → ℕ → Turn → Turn
settles w t zero turn = turn
settles w t (suc n) turn = option_map_or (λ next. settles w t n (then_turn turn next)) (move w t turn.after) turn

-- all moves: none applies to what it gives
abbrev pub turn_settled : World → Listing → Turn → Turn
turn_settled w t turn = settles w t (moves_left turn.after) turn
