-- The run of a program as a function of the number of steps: a step is one attempt of an instruction, and all moves
-- behind it.
use Rattle.std.specs.Prelude.{◌≡◌, ℕ, zero, suc, ◌+◌, Bool, true, false, List, [], ◌∷◌, ◌++◌, drop, length, unwrap_or, Option, Some, None, refl, ◌&&◌, if◌then◌else◌}
use Rattle.std.specs.Option.{option_map_or}
use Rattle.std.proofs.Common.{ap, ◌∙◌, add-one}
use Rattle.jvm_model.specs.Basis.Data.{Frame, Entry, Active, Initializing, Constants, MethodPlace, Phase, Running, Ready, Ending, State, Change, Loads, Turn, Outcome, Initializes, Done, Instruction, Program, Listing, World}
use Rattle.jvm_model.specs.Basis.Programs.{name_at, place_of_method}
use Rattle.jvm_model.specs.Basis.SharedState.{phase_of, with_phase, shared_before, with_arguments, arguments_fit}
use Rattle.jvm_model.specs.Instructions.Does.{does, loads}
use Rattle.jvm_model.specs.Classes.Load.{Fault, Loading, error_of, load_of}
use Rattle.jvm_model.specs.Instructions.SymbolicReference.{message_of}
use Rattle.jvm_model.specs.Running.Applies.{still, breaks, applies}
use Rattle.jvm_model.specs.Running.Moves.{raises, then_turn, turn_settled}
use Rattle.jvm_model.specs.Codes.Originals.{original}

-- ---- a step

-- the instruction is attempted, with all that follows; from the state without the current frame
abbrev pub tries : World → Listing → Instruction → State → Frame → Done → Turn
tries w t i s f done = turn_settled w t (applies w t i done.outcome (record s { shared = done.shared; output = s.output ++ done.wrote }) f)

abbrev pub attempt : World → Listing → Instruction → State → Frame → Turn
attempt w t i s f = tries w t i s f (does w i.operation s.shared f.locals f.operands)

-- the class that is initialized before
abbrev pub starts : Outcome → Option ℕ
starts (Initializes c) = Some c
starts _ = None

abbrev pub is_ready : Option Phase → Bool
is_ready (Some Ready) = true
is_ready _ = false

abbrev pub has_no_changes : List Change → Bool
has_no_changes [] = true
has_no_changes (c ∷ more) = false

abbrev pub is_going_on : Option Ending → Option ℕ → Bool
is_going_on None None = true
is_going_on _ _ = false

-- where the class was initialized without any activation, the instruction is executed in the same step
abbrev pub goes_again : World → Listing → Instruction → State → Frame → Option ℕ → Turn → Turn
goes_again w t i s f None turn = turn
goes_again w t i s f (Some c) turn =
    if has_no_changes turn.changes && is_ready (phase_of turn.after.shared c) && is_going_on turn.after.ending turn.after.thrown
    then then_turn turn (attempt w t i (record turn.after { stack = s.stack }) f)
    else turn

abbrev pub steps_by : World → Listing → Instruction → State → Frame → Done → Turn
steps_by w t i s f done = goes_again w t i s f (starts done.outcome) (tries w t i s f done)

-- the classes that it needs are loaded first
abbrev pub with_classes_loaded : List ℕ → State → State
with_classes_loaded [] s = s
with_classes_loaded (c ∷ more) s = record s { shared = record s.shared { loaded = s.shared.loaded ++ c ∷ more } }

abbrev pub loaded_turn : List ℕ → Turn → Turn
loaded_turn [] turn = turn
loaded_turn (c ∷ more) turn = record turn { changes = Loads (c ∷ more) ∷ turn.changes }

abbrev pub steps_at : World → Listing → State → Frame → Option Instruction → Turn
steps_at w t s f None = still (breaks s f 0)
steps_at w t s f (Some i) =
    let classes = loads w i.operation s.shared f.operands in
    let ready = with_classes_loaded classes s in
    loaded_turn classes (steps_by w t i ready f (does w i.operation ready.shared f.locals f.operands))

abbrev pub steps_on : World → Listing → State → Option Ending → List Entry → Turn
steps_on w t s None (Active f ∷ below) = steps_at w t (record s { stack = below }) f (t.at f.version f.place)
steps_on w t s _ _ = still s

abbrev pub step : World → Listing → State → Turn
step w t s = steps_on w t s s.ending s.stack

-- ---- the start (5.2, 5.5)

-- nothing runs yet, and nothing was read or written
abbrev pub before : World → State
before w = record { stack = []; thrown = None; begun = false; shared = shared_before w.program; output = []; ending = None }

-- the main class: that of the method `main`
abbrev pub main_class : Program → ℕ
main_class p = option_map_or (λ (place : MethodPlace). place.class) (place_of_method p p.main) 0

-- the array of the arguments, object 5, and then their texts
abbrev pub arguments_made : World → State → State
arguments_made w s = record s { shared = record s.shared { heap = with_arguments w.program s.shared.heap } }

-- what loading the main class gives; the built-in ones are loaded before
abbrev pub main_loading : World → Loading
main_loading w =
    load_of w.program (before w).shared.loaded (unwrap_or (name_at w.program (main_class w.program)) [])

-- the classes that this loads
abbrev pub main_classes : World → List ℕ
main_classes w = drop (length (before w).shared.loaded) (main_loading w).loaded

-- the classes that the start loads: none where there is no room for the arguments
abbrev pub loads_if : World → Bool → List ℕ
loads_if w true = main_classes w
loads_if w false = []

abbrev pub main_loads : World → List ℕ
main_loads w = loads_if w (arguments_fit w.program)

-- the initialization of the main class begins, or what stopped its loading is raised
abbrev pub starts_unless : World → Option Fault → State → State
starts_unless w (Some fault) s = raises w s (error_of fault) (message_of fault)
starts_unless w None s =
    let class = main_class w.program in
    record s { stack = Initializing class Constants ∷ []; shared = with_phase s.shared class Running }

-- the arguments are made and the main class is loaded
abbrev pub run_opened : World → State
run_opened w = with_classes_loaded (main_classes w) (arguments_made w (before w))

-- where there is no room for the arguments, object 1 is thrown: nothing is made or loaded
abbrev pub heap_exhausted : World → State
heap_exhausted w = record (before w) { thrown = Some 1 }

abbrev pub starts_if : World → Bool → State
starts_if w true = starts_unless w (main_loading w).fault (run_opened w)
starts_if w false = heap_exhausted w

abbrev pub starts_with : World → State
starts_with w = starts_if w (arguments_fit w.program)

-- the arguments are made, the main class is loaded, and then initialized
abbrev pub start : World → Listing → Turn
start w t = loaded_turn (main_loads w) (turn_settled w t (still (starts_with w)))

-- ---- the run

-- The last one of so many steps, over a listing; the start is step 0.
unfoldable pub turn_in : World → Listing → ℕ → Turn
turn_in w t zero = start w t
turn_in w t (suc n) = step w t (turn_in w t n).after

-- The run knows original code alone.
abbrev pub turn : World → ℕ → Turn
turn w n = turn_in w (original w.program) n

abbrev pub run : World → ℕ → State
run w n = (turn w n).after

abbrev pub output_of : World → ℕ → List ℕ
output_of w n = (run w n).output

abbrev pub ending_of : World → ℕ → Option Ending
ending_of w n = (run w n).ending

-- ---- how the run goes: all that is needed of it

pub turn_in-zero : (w : World) (t : Listing) → turn_in w t 0 ≡ start w t
unfolding turn_in
turn_in-zero w t = refl

pub turn_in-suc : (w : World) (t : Listing) (n : ℕ) → turn_in w t (suc n) ≡ step w t (turn_in w t n).after
unfolding turn_in
turn_in-suc w t n = refl

pub turn_in-more : (w : World) (t : Listing) (n : ℕ) → turn_in w t (n + 1) ≡ step w t (turn_in w t n).after
turn_in-more w t n = ap (turn_in w t) (add-one n) ∙ turn_in-suc w t n
