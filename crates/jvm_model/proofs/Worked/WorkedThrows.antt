-- Worked runs over lists of instructions: a throw through three frames, caught and not; and names that are not there.
use Rattle.std.specs.Prelude.{◌≡◌, ℕ, List, [], ◌∷◌, Option, Some, None, refl, codes}
use Rattle.jvm_model.specs.declared.event.Event.{Event}
use Rattle.jvm_model.specs.declared.event.EventKind.TheVariants as kind
use Rattle.jvm_model.specs.Basis.Data.{Instruction, Local, Operation, Athrow, Returned, Unwound, Catcher}
use Rattle.jvm_model.specs.Running.Run.{turn_in}
use Rattle.jvm_model.specs.Profiling.Activations.{Activation, trace_in}
use Rattle.jvm_model.specs.Profiling.EventLists.{full_marking, all_told}
use Rattle.jvm_model.specs.Basis.SharedState.{null_pointer, throwable, error, no_class_definition, no_such_field, no_such_method}
use Rattle.jvm_model.proofs.Worked.WorkedPrograms.{Routine, Sketches, places_of, uncaught_of, after, changes_of, trace_by, selecting, member, routine, main_routine, alone, at, null, pop, returns, getstatic, putstatic, call}

-- ---- main calls a, a calls b, b calls c, and c throws a NullPointerException

abbrev pub calls_of_t : List ℕ → Operation Local
calls_of_t name = call (codes "T") name (codes "()V")

abbrev pub no_argument : List ℕ → ℕ → List Instruction → Routine
no_argument name max_stack code = routine (member name (codes "()V")) max_stack 0 code

-- with these handlers in main
abbrev pub throwing : List Catcher → Sketches
throwing handlers = record {
  classes = alone (codes "T") (
      record (main_routine 1 (at 0 3 (calls_of_t (codes "a")) ∷ at 3 1 returns ∷ at 4 1 pop ∷ at 5 1 returns ∷ [])) { handlers = handlers }
      ∷ no_argument (codes "a") 0 (at 0 3 (calls_of_t (codes "b")) ∷ at 3 1 returns ∷ [])
      ∷ no_argument (codes "b") 0 (at 0 3 (calls_of_t (codes "c")) ∷ at 3 1 returns ∷ [])
      ∷ no_argument (codes "c") 1 (at 0 1 null ∷ at 1 1 Athrow ∷ []) ∷ []) ∷ [];
  main = 0;
}

-- over the invoke instruction alone
abbrev pub caught : Sketches
caught = throwing (record { start = 0; finish = 3; target = 4; catches = Some null_pointer } ∷ [])

abbrev pub uncaught : Sketches
uncaught = throwing []

pub caught-goes_on : (after caught 6).ending ≡ None
unfolding turn_in
caught-goes_on = refl

pub caught-returns : (after caught 7).ending ≡ Some Returned
unfolding turn_in
caught-returns = refl

pub caught-changes : changes_of caught 5 ≡ Unwound ∷ Unwound ∷ Unwound ∷ []
unfolding turn_in
caught-changes = refl

-- the activations, of which that of main ends in this step
abbrev pub unwound_until : ℕ → List Activation
unwound_until n = record { method = 0; parent = None; begin = 0; «end» = Some n }
    ∷ record { method = 1; parent = Some 0; begin = 1; «end» = Some 5 }
    ∷ record { method = 2; parent = Some 1; begin = 2; «end» = Some 5 }
    ∷ record { method = 3; parent = Some 2; begin = 3; «end» = Some 5 } ∷ []

pub caught-trace : trace_by caught 7 ≡ record { activations = unwound_until 7; live = [] }
unfolding trace_in turn_in
caught-trace = refl

pub uncaught-goes_on : (after uncaught 4).ending ≡ None
unfolding turn_in
uncaught-goes_on = refl

pub uncaught-ends : (after uncaught 5).ending ≡ uncaught_of uncaught null_pointer
unfolding turn_in
uncaught-ends = refl

pub uncaught-trace : trace_by uncaught 5 ≡ record { activations = unwound_until 5; live = [] }
unfolding trace_in turn_in
uncaught-trace = refl

-- ---- what is told where main is selected: three unwind events in one step, the innermost first

abbrev pub unwind_of : ℕ → Event
unwind_of method = record { kind = kind.Unwind; method = method; clock = 5 }

pub caught-events : all_told (full_marking (selecting 0)) 5 (trace_by caught 4) (changes_of caught 5) ≡ unwind_of 3 ∷ unwind_of 2 ∷ unwind_of 1 ∷ []
unfolding trace_in turn_in
caught-events = refl

pub uncaught-events : all_told (full_marking (selecting 0)) 5 (trace_by uncaught 4) (changes_of uncaught 5) ≡ unwind_of 3 ∷ unwind_of 2 ∷ unwind_of 1 ∷ unwind_of 0 ∷ []
unfolding trace_in turn_in
uncaught-events = refl

-- ---- which handler: the first in table order whose range holds the offset, and whose class is the thrown one's or above it

abbrev pub catching : ℕ → ℕ → ℕ → Option (List ℕ) → Catcher
catching start finish target class = record { start = start; finish = finish; target = target; catches = class }

-- where main stands after the throw
abbrev pub stands_at : List Catcher → List ℕ
stands_at handlers = places_of (after (throwing handlers) 5).stack

pub superclass-catches : stands_at (catching 0 3 4 (Some throwable) ∷ catching 0 3 5 None ∷ []) ≡ 4 ∷ []
unfolding turn_in
superclass-catches = refl

pub other_class-passes : stands_at (catching 0 3 4 (Some error) ∷ catching 0 3 5 None ∷ []) ≡ 5 ∷ []
unfolding turn_in
other_class-passes = refl

-- the offset is that of the invoke instruction, and a range ends before its end
pub other_range-passes : stands_at (catching 3 9 3 None ∷ catching 0 0 4 None ∷ catching 0 1 5 None ∷ []) ≡ 5 ∷ []
unfolding turn_in
other_range-passes = refl

-- ---- names that are not there: the class is sought first, then its member; nothing of it is initialized

-- main is this instruction, of three bytes
abbrev pub lone : Operation Local → Sketches
lone operation = record { classes = alone (codes "Q") (main_routine 1 (at 0 3 operation ∷ []) ∷ []) ∷ []; main = 0 }

-- it ends the run by this exception
abbrev pub Raises : Operation Local → List ℕ → Type 0
Raises operation name = (after (lone operation) 1).ending ≡ uncaught_of (lone operation) name

pub no_class-of_field : Raises (getstatic (codes "Absent") (codes "b")) no_class_definition
unfolding turn_in
no_class-of_field = refl

pub no_class-of_set_field : Raises (putstatic (codes "Absent") (codes "b")) no_class_definition
unfolding turn_in
no_class-of_set_field = refl

pub no_class-of_method : Raises (call (codes "Absent") (codes "f") (codes "()V")) no_class_definition
unfolding turn_in
no_class-of_method = refl

pub no_field : Raises (getstatic (codes "Q") (codes "b")) no_such_field
unfolding turn_in
no_field = refl

pub no_set_field : Raises (putstatic (codes "Q") (codes "b")) no_such_field
unfolding turn_in
no_set_field = refl

pub no_method : Raises (call (codes "Q") (codes "f") (codes "()V")) no_such_method
unfolding turn_in
no_method = refl
