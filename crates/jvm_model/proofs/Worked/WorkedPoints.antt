-- Worked runs with their points, marks, swaps and events.
use Rattle.std.specs.Prelude.{◌≡◌, ℕ, zero, suc, List, [], ◌∷◌, ◌++◌, map, true, false, refl, codes}
use Rattle.std.specs.Int.{int_wrap}
use Rattle.base_classes.specs.BuiltInClasses.{built_in_classes}
use Rattle.base_classes.specs.ObjectClasses.{object_classes}
use Rattle.base_classes.specs.TextClasses.{text_classes}
use Rattle.base_classes.specs.StreamClasses.{stream_classes}
use Rattle.base_classes.specs.ValueClasses.{value_classes}
use Rattle.base_classes.specs.ThrowableClasses.{throwable_classes}
use Rattle.base_classes.specs.Natives.{native_methods}
use Rattle.native_effects.specs.Inputs.KindsViews.{is_among}
use Rattle.native_ops.specs.Methods.Rows.{rows}
use Rattle.jvm_model.specs.declared.event.Act.{Act}
use Rattle.jvm_model.specs.declared.event.Event.{Event}
use Rattle.jvm_model.specs.declared.event.EventKind.{EventKind}
use Rattle.jvm_model.specs.declared.event.EventKind.TheVariants as kind
use Rattle.jvm_model.specs.declared.event.Mark.{Mark}
use Rattle.jvm_model.specs.declared.event.Mark.TheVariants.{Off, Plain, Root}
use Rattle.jvm_model.specs.Basis.Data.{Local, Operation, Instruction, ManageStack, Within, BinaryOfInts}
use Rattle.jvm_model.specs.declared.family.IntOperator.TheVariants.{Iadd}
use Rattle.jvm_model.specs.declared.family.StackInstruction.TheVariants.{Dup}
use Rattle.jvm_model.specs.Running.Run.{turn_in}
use Rattle.jvm_model.specs.Profiling.Activations.{no_trace, trace_in}
use Rattle.jvm_model.specs.Profiling.EventLists.{Marking, all_told}
use Rattle.jvm_model.proofs.Worked.WorkedLibrary.{class, object_name}
use Rattle.jvm_model.proofs.Worked.WorkedPrograms.{Routine, Sketches, aload_0, alone, at, call, call_special, call_virtual, changes_of, code_in, initializer, instance, int, iload, ireturn, main_routine, member, new, pop, prints_result, returns, routine, routines_of, selecting, sketch, listing_by, trace_by, world_by}
use Rattle.jvm_model.proofs.Worked.WorkedRuns.{recursive, p3}
use Rattle.jvm_model.proofs.Worked.WorkedInitializers.{both_set}
use Rattle.jvm_model.specs.Profiling.Points.{marking_in, standing_in}
use Rattle.jvm_model.specs.Profiling.Swaps.{Swapped, first_number, points_in, swaps_in}

-- the operations of a method that is given by hand
abbrev pub code_by : Sketches → ℕ → List (Operation Local)
code_by s method = map (λ (i : Instruction). i.operation) (code_in (routines_of s.classes) method)

abbrev pub swaps_by : List Act → Sketches → ℕ → List Swapped
swaps_by acts s n = swaps_in acts (world_by s) (listing_by s) (code_by s) n

abbrev pub marking_by : List Act → Sketches → Marking
marking_by acts s = marking_in acts (world_by s) (listing_by s) (code_by s)

abbrev pub events_by : List Act → Sketches → ℕ → List Event
events_by acts s zero = all_told (marking_by acts s) 0 no_trace (changes_of s 0)
events_by acts s (suc n) = events_by acts s n ++ all_told (marking_by acts s) (suc n) (trace_by s n) (changes_of s (suc n))

abbrev pub swap : ℕ → ℕ → List Mark → Swapped
swap clock class marks = record { clock = clock; class = class; marks = marks }

abbrev pub event : EventKind → ℕ → ℕ → Event
event kind method clock = record { kind = kind; method = method; clock = clock }

abbrev pub select : ℕ → ℕ → Act
select moment method = record { moment = moment; select = true; method = method }

abbrev pub deselect : ℕ → ℕ → Act
deselect moment method = record { moment = moment; select = false; method = method }

-- ---- main prints f(41): f is method 0, main method 1

abbrev pub p1 : Sketches
p1 = record {
  classes = alone (codes "P1") (
      routine (member (codes "f") (codes "(I)I")) 2 1 (at 0 1 (iload 0) ∷ at 1 1 (int 1) ∷ at 2 1 (Within (BinaryOfInts Iadd)) ∷ at 3 1 ireturn ∷ [])
      ∷ main_routine 2 (prints_result (codes "P1") (codes "f") 41 2) ∷ []) ∷ [];
  main = 1;
}

-- without an action no class is swapped
p1-plain : swaps_by [] p1 7 ≡ []
unfolding points_in standing_in turn_in trace_in int_wrap
p1-plain = refl

-- f is a root before the start: one swap, where its class is loaded
p1-root_f : swaps_by (selecting 0) p1 7 ≡ swap 0 0 (Root ∷ Off ∷ []) ∷ []
unfolding points_in standing_in turn_in trace_in int_wrap
p1-root_f = refl

-- main is: its class is swapped again when main has begun, since f is its target
p1-root_main : swaps_by (selecting 1) p1 7 ≡ swap 0 0 (Off ∷ Root ∷ []) ∷ swap 0 0 (Plain ∷ Root ∷ []) ∷ []
unfolding points_in standing_in turn_in trace_in int_wrap
p1-root_main = refl

p1-events : events_by (selecting 1) p1 7 ≡ event kind.Root 1 0 ∷ event kind.Enter 0 3 ∷ event kind.Leave 0 7 ∷ []
unfolding points_in standing_in turn_in trace_in int_wrap
p1-events = refl

-- f is selected in time for its call in the third step
p1-at_2 : events_by (select 2 0 ∷ []) p1 7 ≡ event kind.Root 0 3 ∷ event kind.Leave 0 7 ∷ []
unfolding points_in standing_in turn_in trace_in int_wrap
p1-at_2 = refl

p1-at_2-swaps : swaps_by (select 2 0 ∷ []) p1 7 ≡ swap 2 0 (Root ∷ Off ∷ []) ∷ []
unfolding points_in standing_in turn_in trace_in int_wrap
p1-at_2-swaps = refl

-- and here too late
p1-at_3 : events_by (select 3 0 ∷ []) p1 7 ≡ []
unfolding points_in standing_in turn_in trace_in int_wrap
p1-at_3 = refl

p1-at_3-swaps : swaps_by (select 3 0 ∷ []) p1 7 ≡ swap 3 0 (Root ∷ Off ∷ []) ∷ []
unfolding points_in standing_in turn_in trace_in int_wrap
p1-at_3-swaps = refl

-- it began while it was selected
p1-between : events_by (select 2 0 ∷ deselect 3 0 ∷ []) p1 7 ≡ event kind.Root 0 3 ∷ event kind.Leave 0 7 ∷ []
unfolding points_in standing_in turn_in trace_in int_wrap
p1-between = refl

p1-between-swaps : swaps_by (select 2 0 ∷ deselect 3 0 ∷ []) p1 7 ≡ swap 2 0 (Root ∷ Off ∷ []) ∷ swap 3 0 (Off ∷ Off ∷ []) ∷ []
unfolding points_in standing_in turn_in trace_in int_wrap
p1-between-swaps = refl

-- ---- recursion under deselection: r is method 0, main method 1

abbrev pub under_deselection : List Act
under_deselection = select 0 0 ∷ deselect 4 0 ∷ []

recursive-swaps : swaps_by under_deselection recursive 19
    ≡ swap 0 0 (Root ∷ Off ∷ []) ∷ swap 4 0 (Plain ∷ Off ∷ []) ∷ swap 19 0 (Off ∷ Off ∷ []) ∷ []
unfolding points_in standing_in turn_in trace_in int_wrap
recursive-swaps = refl

recursive-events : events_by under_deselection recursive 19
    ≡ event kind.Root 0 2 ∷ event kind.Enter 0 8 ∷ event kind.Enter 0 14 ∷ event kind.Leave 0 17 ∷ event kind.Leave 0 18 ∷ event kind.Leave 0 19 ∷ []
unfolding points_in standing_in turn_in trace_in int_wrap
recursive-events = refl

-- ---- a subroutine under deselection: s is method 0, main method 1

subroutine-swaps : swaps_by (select 0 0 ∷ deselect 5 0 ∷ []) p3 9 ≡ swap 0 0 (Root ∷ Off ∷ []) ∷ swap 5 0 (Off ∷ Off ∷ []) ∷ []
unfolding points_in standing_in turn_in trace_in int_wrap
subroutine-swaps = refl

subroutine-events : events_by (select 0 0 ∷ deselect 5 0 ∷ []) p3 9 ≡ event kind.Root 0 3 ∷ event kind.Leave 0 9 ∷ []
unfolding points_in standing_in turn_in trace_in int_wrap
subroutine-events = refl

-- ---- static initializers: main is method 0, S's is 1 and X's is 2

initializers-swaps : swaps_by (selecting 0) both_set 10 ≡ swap 0 0 (Root ∷ []) ∷ swap 1 1 (Plain ∷ []) ∷ swap 1 2 (Plain ∷ []) ∷ []
unfolding points_in standing_in turn_in trace_in
initializers-swaps = refl

initializers-events : events_by (selecting 0) both_set 10
    ≡ event kind.Root 0 0 ∷ event kind.Enter 1 1 ∷ event kind.Leave 1 4 ∷ event kind.Enter 2 4 ∷ event kind.Leave 2 7 ∷ event kind.Leave 0 10 ∷ []
unfolding points_in standing_in turn_in trace_in
initializers-events = refl

-- each class's methods are numbered from here on
initializers-numbers : map (first_number (world_by both_set).program) (0 ∷ 1 ∷ 2 ∷ 3 ∷ []) ≡ 0 ∷ 1 ∷ 2 ∷ 3 ∷ []
initializers-numbers = refl

-- ---- an override that is loaded later: N's main is method 0, A's constructor and v are 1 and 2, and B's 3 and 4

abbrev constructor : List ℕ → List ℕ → Routine
constructor own above =
    instance (member (codes "<init>") (codes "()V")) 1 1 (
    at 0 1 aload_0 ∷ at 1 3 (call_special own above (codes "<init>") (codes "()V")) ∷ at 4 1 returns ∷ [])

abbrev gives : ℕ → Routine
gives n = instance (member (codes "v") (codes "()I")) 1 1 (at 0 1 (int n) ∷ at 1 1 ireturn ∷ [])

abbrev overriding : Sketches
overriding = record {
  classes = alone (codes "N") (
      main_routine 2 (
      at 0 3 (new (codes "B")) ∷ at 3 1 (Within (ManageStack Dup))
      ∷ at 4 3 (call_special (codes "N") (codes "B") (codes "<init>") (codes "()V"))
      ∷ at 7 3 (call_virtual (codes "A") (codes "v") (codes "()I")) ∷ at 10 1 pop ∷ at 11 1 returns ∷ [])
      ∷ [])
      ∷ alone (codes "A") (constructor (codes "A") object_name ∷ gives 1 ∷ [])
      ∷ sketch (class (codes "B") (codes "A") []) (constructor (codes "B") (codes "A") ∷ gives 2 ∷ [])
      ∷ [];
  main = 0;
}

-- N's at the start; A's v and B's constructor and v when both are loaded; A's constructor when B's has begun
overriding-swaps : swaps_by (selecting 0) overriding 14
    ≡ swap 0 0 (Root ∷ []) ∷ swap 1 1 (Off ∷ Plain ∷ []) ∷ swap 1 2 (Plain ∷ Plain ∷ []) ∷ swap 3 1 (Plain ∷ Plain ∷ []) ∷ []
unfolding points_in standing_in turn_in trace_in native_methods rows built_in_classes object_classes text_classes stream_classes value_classes throwable_classes is_among
overriding-swaps = refl

overriding-events : events_by (selecting 0) overriding 14
    ≡ event kind.Root 0 0 ∷ event kind.Enter 3 3 ∷ event kind.Enter 1 5 ∷ event kind.Leave 1 8 ∷ event kind.Leave 3 9
    ∷ event kind.Enter 4 10 ∷ event kind.Leave 4 12 ∷ event kind.Leave 0 14 ∷ []
unfolding points_in standing_in turn_in trace_in native_methods rows built_in_classes object_classes text_classes stream_classes value_classes throwable_classes is_among
overriding-events = refl

-- ---- actions of moment 0 come once: f is selected and deselected before its class is loaded

p1-neither : swaps_by (select 0 0 ∷ deselect 0 0 ∷ []) p1 7 ≡ []
unfolding points_in standing_in turn_in trace_in int_wrap
p1-neither = refl

-- ---- new and invokestatic start an initializer: main is method 0, X's initializer 1 and its f 2

abbrev starting : Operation Local → Sketches
starting operation = record {
  classes = alone (codes "M") (main_routine 1 (at 0 3 operation ∷ at 3 1 pop ∷ at 4 1 returns ∷ []) ∷ [])
      ∷ alone (codes "X") (
      initializer (at 0 1 returns ∷ []) ∷ routine (member (codes "f") (codes "()I")) 1 0 (at 0 1 (int 1) ∷ at 1 1 ireturn ∷ []) ∷ [])
      ∷ [];
  main = 0;
}

new-events : events_by (selecting 0) (starting (new (codes "X"))) 5
    ≡ event kind.Root 0 0 ∷ event kind.Enter 1 1 ∷ event kind.Leave 1 2 ∷ event kind.Leave 0 5 ∷ []
unfolding points_in standing_in turn_in trace_in
new-events = refl

new-swaps : swaps_by (selecting 0) (starting (new (codes "X"))) 5 ≡ swap 0 0 (Root ∷ []) ∷ swap 1 1 (Plain ∷ Off ∷ []) ∷ []
unfolding points_in standing_in turn_in trace_in
new-swaps = refl

static-events : events_by (selecting 0) (starting (call (codes "X") (codes "f") (codes "()I"))) 7
    ≡ event kind.Root 0 0 ∷ event kind.Enter 1 1 ∷ event kind.Leave 1 2 ∷ event kind.Enter 2 3 ∷ event kind.Leave 2 5 ∷ event kind.Leave 0 7 ∷ []
unfolding points_in standing_in turn_in trace_in
static-events = refl

-- ---- the run ends as unverifiable in the root, which was deselected: f is method 0, g is 1 and main 2. At a return the root has ended, so
-- the point at the end is quiet and g is marked no more; elsewhere it stays live.

abbrev ending_by : Operation Local → Sketches
ending_by operation = record {
  classes = alone (codes "U") (
      routine (member (codes "f") (codes "()I")) 1 0 (at 0 1 operation ∷ at 1 3 (call (codes "U") (codes "g") (codes "()I")) ∷ at 4 1 ireturn ∷ [])
      ∷ routine (member (codes "g") (codes "()I")) 1 0 (at 0 1 (int 1) ∷ at 1 1 ireturn ∷ [])
      ∷ main_routine 1 (at 0 3 (call (codes "U") (codes "f") (codes "()I")) ∷ at 3 1 pop ∷ at 4 1 returns ∷ []) ∷ []) ∷ [];
  main = 2;
}

abbrev dropped : List Act
dropped = select 0 0 ∷ deselect 1 0 ∷ []

return-swaps : swaps_by dropped (ending_by ireturn) 2
    ≡ swap 0 0 (Root ∷ Off ∷ Off ∷ []) ∷ swap 1 0 (Root ∷ Plain ∷ Off ∷ []) ∷ swap 1 0 (Off ∷ Plain ∷ Off ∷ []) ∷ swap 2 0 (Off ∷ Off ∷ Off ∷ []) ∷ []
unfolding points_in standing_in turn_in trace_in
return-swaps = refl

return-events : events_by dropped (ending_by ireturn) 2 ≡ event kind.Root 0 1 ∷ event kind.Leave 0 2 ∷ []
unfolding points_in standing_in turn_in trace_in
return-events = refl

elsewhere-swaps : swaps_by dropped (ending_by pop) 2
    ≡ swap 0 0 (Root ∷ Off ∷ Off ∷ []) ∷ swap 1 0 (Root ∷ Plain ∷ Off ∷ []) ∷ swap 1 0 (Off ∷ Plain ∷ Off ∷ []) ∷ []
unfolding points_in standing_in turn_in trace_in
elsewhere-swaps = refl

elsewhere-events : events_by dropped (ending_by pop) 2 ≡ event kind.Root 0 1 ∷ []
unfolding points_in standing_in turn_in trace_in
elsewhere-events = refl

-- ---- a call that names a class that is not loaded has no targets, though its superclass declares the method and is: main is method 0, S's f
-- and g are 1 and 2

abbrev inherited : Sketches
inherited = record {
  classes = alone (codes "M") (
      main_routine 1 (
      at 0 3 (call (codes "S") (codes "g") (codes "()V")) ∷ at 3 3 (call (codes "C") (codes "f") (codes "()V")) ∷ at 6 1 returns ∷ [])
      ∷ [])
      ∷ alone (codes "S") (
      routine (member (codes "f") (codes "()V")) 0 0 (at 0 1 returns ∷ []) ∷ routine (member (codes "g") (codes "()V")) 0 0 (at 0 1 returns ∷ []) ∷ [])
      ∷ sketch (class (codes "C") (codes "S") []) []
      ∷ [];
  main = 0;
}

inherited-swaps : swaps_by (selecting 0) inherited 5
    ≡ swap 0 0 (Root ∷ []) ∷ swap 1 1 (Off ∷ Plain ∷ []) ∷ swap 3 1 (Plain ∷ Plain ∷ []) ∷ []
unfolding points_in standing_in turn_in trace_in
inherited-swaps = refl
