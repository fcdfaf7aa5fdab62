-- Worked runs over lists of instructions: classes that are initialized, with and without a static initializer, and
-- initializers that throw (JVM Specification 5.5).
use Rattle.std.specs.Prelude.{◌≡◌, ℕ, List, [], ◌∷◌, Some, None, pos, refl, codes, take, drop, map}
use Rattle.heap_objects.specs.Heaps.{slot_at, units_at}
use Rattle.heap_objects.specs.Objects.{kind_of}
use Rattle.heap_objects.specs.declared.datum.Datum.TheVariants as datum
use Rattle.jvm_model.specs.Basis.Data.{Instruction, Athrow, Ready, Erroneous, Returned, Loads, Began, Left, Unwound}
use Rattle.jvm_model.specs.Basis.Programs.{name_at}
use Rattle.jvm_model.specs.Running.Run.{turn_in}
use Rattle.jvm_model.specs.Profiling.Activations.{trace_in}
use Rattle.jvm_model.specs.Basis.SharedState.{null_pointer, in_initializer, no_class_definition, phase_of, class_of_kind}
use Rattle.jvm_model.proofs.Worked.WorkedLibrary.{class, item, object_name, with_fields}
use Rattle.jvm_model.proofs.Worked.WorkedPrograms.{Routine, Sketch, Sketches, sketch, world_by, places_of, uncaught_of, after, changes_of, trace_by, contexts_by, selecting, main_routine, initializer, alone, at, int, null, pop, returns, getstatic, putstatic}

-- a class with one static field
abbrev pub with_field : List ℕ → List ℕ → List ℕ → List Routine → Sketch
with_field name above field routines = sketch (with_fields (item 8 field (codes "I") ∷ []) (class name above [])) routines

-- main reads a static field
abbrev pub reads : List ℕ → List ℕ → List Instruction
reads class field = at 0 3 (getstatic class field) ∷ at 3 1 pop ∷ at 4 1 returns ∷ []

-- an initializer that sets a field of its class
abbrev pub sets : ℕ → List ℕ → List ℕ → Routine
sets n class field = initializer (at 0 1 (int n) ∷ at 1 3 (putstatic class field) ∷ at 4 1 returns ∷ [])

-- ---- the superclass first: the attempt, three instructions of each initializer, and the three of main

abbrev pub both_set : Sketches
both_set = record {
  classes = alone (codes "M") (main_routine 1 (reads (codes "X") (codes "b")) ∷ [])
      ∷ with_field (codes "S") object_name (codes "a") (sets 1 (codes "S") (codes "a") ∷ [])
      ∷ with_field (codes "X") (codes "S") (codes "b") (sets 2 (codes "X") (codes "b") ∷ []) ∷ [];
  main = 0;
}

pub both_set-goes_on : (after both_set 9).ending ≡ None
unfolding turn_in
both_set-goes_on = refl

pub both_set-returns : (after both_set 10).ending ≡ Some Returned
unfolding turn_in
both_set-returns = refl

-- both classes are loaded in the first step, the superclass first
pub both_set-loads : changes_of both_set 1 ≡ Loads (1 ∷ 2 ∷ []) ∷ Began 1 ∷ []
unfolding turn_in
both_set-loads = refl

-- the second begins where the first ends
pub both_set-changes : changes_of both_set 4 ≡ Left ∷ Began 2 ∷ []
unfolding turn_in
both_set-changes = refl

pub both_set-fields : take 2 (drop 1 (after both_set 10).shared.statics) ≡ (datum.Int (pos 1) ∷ []) ∷ (datum.Int (pos 2) ∷ []) ∷ []
unfolding turn_in
both_set-fields = refl

-- main's activation is the parent of both
pub both_set-trace : trace_by both_set 10 ≡ record {
  activations = record { method = 0; parent = None; begin = 0; «end» = Some 10 }
      ∷ record { method = 1; parent = Some 0; begin = 1; «end» = Some 4 }
      ∷ record { method = 2; parent = Some 0; begin = 4; «end» = Some 7 } ∷ [];
  live = [];
}
unfolding trace_in turn_in
both_set-trace = refl

-- main is selected before the start: its own steps are the two attempts, and two more
pub both_set-contexts : contexts_by both_set (selecting 0) 10
    ≡ record { path = 0 ∷ []; calls = 1; own = 4 } ∷ record { path = 0 ∷ 1 ∷ []; calls = 1; own = 3 } ∷ record { path = 0 ∷ 2 ∷ []; calls = 1; own = 3 } ∷ []
unfolding trace_in turn_in
both_set-contexts = refl

-- ---- without an initializer the class is ready and the instruction executed in the same step

abbrev pub none_set : Sketches
none_set = record {
  classes = alone (codes "M") (main_routine 1 (reads (codes "X") (codes "b")) ∷ [])
      ∷ with_field (codes "S") object_name (codes "a") []
      ∷ with_field (codes "X") (codes "S") (codes "b") [] ∷ [];
  main = 0;
}

pub none_set-places : places_of (after none_set 1).stack ≡ 3 ∷ []
unfolding turn_in
none_set-places = refl

-- both are loaded, the superclass first
pub none_set-changes : changes_of none_set 1 ≡ Loads (1 ∷ 2 ∷ []) ∷ []
unfolding turn_in
none_set-changes = refl

pub none_set-class : phase_of (after none_set 1).shared 2 ≡ Some Ready
unfolding turn_in
none_set-class = refl

pub none_set-returns : (after none_set 3).ending ≡ Some Returned
unfolding turn_in
none_set-returns = refl

-- ---- main's own class: main begins where the initializer has returned

abbrev pub own_initializer : List Instruction → Sketches
own_initializer code = record { classes = alone (codes "M") (initializer code ∷ main_routine 0 (at 0 1 returns ∷ []) ∷ []) ∷ []; main = 1 }

abbrev pub first_returns : Sketches
first_returns = own_initializer (at 0 1 returns ∷ [])

pub first_returns-start : changes_of first_returns 0 ≡ Loads (0 ∷ []) ∷ Began 0 ∷ []
unfolding turn_in
first_returns-start = refl

pub first_returns-changes : changes_of first_returns 1 ≡ Left ∷ Began 1 ∷ []
unfolding turn_in
first_returns-changes = refl

pub first_returns-returns : (after first_returns 2).ending ≡ Some Returned
unfolding turn_in
first_returns-returns = refl

-- ---- an initializer that throws what is no Error

abbrev pub throws : Routine
throws = initializer (at 0 1 null ∷ at 1 1 Athrow ∷ [])

-- main never begins
abbrev pub first_throws : Sketches
first_throws = own_initializer (at 0 1 null ∷ at 1 1 Athrow ∷ [])

pub first_throws-ends : (after first_throws 2).ending ≡ uncaught_of first_throws in_initializer
unfolding turn_in
first_throws-ends = refl

pub first_throws-changes : changes_of first_throws 2 ≡ Unwound ∷ []
unfolding turn_in
first_throws-changes = refl

-- main uses the class twice, and catches what the first use throws
abbrev pub used_twice : Sketches
used_twice = record {
  classes = alone (codes "M") (record (main_routine 1 (at 0 3 (getstatic (codes "X") (codes "b")) ∷ at 3 1 pop ∷ at 4 3 (getstatic (codes "X") (codes "b")) ∷ at 7 1 pop ∷ at 8 1 returns ∷ [])) {
    handlers = record { start = 0; finish = 3; target = 3; catches = Some in_initializer } ∷ [];
  } ∷ []) ∷ with_field (codes "X") object_name (codes "b") (throws ∷ []) ∷ [];
  main = 0;
}

pub used_twice-changes : changes_of used_twice 3 ≡ Unwound ∷ []
unfolding turn_in
used_twice-changes = refl

pub used_twice-class : phase_of (after used_twice 3).shared 1 ≡ Some Erroneous
unfolding turn_in
used_twice-class = refl

pub used_twice-places : places_of (after used_twice 3).stack ≡ 3 ∷ []
unfolding turn_in
used_twice-places = refl

pub used_twice-goes_on : (after used_twice 4).ending ≡ None
unfolding turn_in
used_twice-goes_on = refl

pub used_twice-ends : (after used_twice 5).ending ≡ uncaught_of used_twice no_class_definition
unfolding turn_in
used_twice-ends = refl

-- the NullPointerException is object 6 and the cause of object 7; the message of what is thrown then is object 8
pub used_twice-cause : slot_at 7 1 (after used_twice 3).shared.heap ≡ Some (datum.Ref 6)
unfolding turn_in
used_twice-cause = refl

pub used_twice-text : units_at 8 (after used_twice 5).shared.heap ≡ Some (codes "X")
unfolding turn_in
used_twice-text = refl

-- ---- the subclass that is used behind it: its superclass's name is told

abbrev pub used_before : Sketches
used_before = record {
  classes = alone (codes "M") (record (main_routine 1 (at 0 3 (getstatic (codes "S") (codes "a")) ∷ at 3 1 pop ∷ at 4 3 (getstatic (codes "X") (codes "b")) ∷ [])) {
    handlers = record { start = 0; finish = 3; target = 3; catches = Some in_initializer } ∷ [];
  } ∷ [])
      ∷ with_field (codes "S") object_name (codes "a") (throws ∷ [])
      ∷ with_field (codes "X") (codes "S") (codes "b") (sets 2 (codes "X") (codes "b") ∷ []) ∷ [];
  main = 0;
}

pub used_before-ends : (after used_before 5).ending ≡ uncaught_of used_before no_class_definition
unfolding turn_in
used_before-ends = refl

pub used_before-text : units_at 8 (after used_before 5).shared.heap ≡ Some (codes "S")
unfolding turn_in
used_before-text = refl

pub used_before-class : phase_of (after used_before 5).shared 2 ≡ Some Erroneous
unfolding turn_in
used_before-class = refl

-- ---- the subclass that waits for it becomes erroneous too, and the Error that is thrown then is not wrapped again

abbrev pub used_by_subclass : Sketches
used_by_subclass = record {
  classes = alone (codes "M") (main_routine 1 (reads (codes "X") (codes "b")) ∷ [])
      ∷ with_field (codes "S") object_name (codes "a") (throws ∷ [])
      ∷ with_field (codes "X") (codes "S") (codes "b") (sets 2 (codes "X") (codes "b") ∷ []) ∷ [];
  main = 0;
}

pub used_by_subclass-ends : (after used_by_subclass 3).ending ≡ uncaught_of used_by_subclass in_initializer
unfolding turn_in
used_by_subclass-ends = refl

pub used_by_subclass-changes : changes_of used_by_subclass 3 ≡ Unwound ∷ Unwound ∷ []
unfolding turn_in
used_by_subclass-changes = refl

pub used_by_subclass-classes : take 2 (drop 1 (after used_by_subclass 3).shared.phases) ≡ Erroneous ∷ Erroneous ∷ []
unfolding turn_in
used_by_subclass-classes = refl

-- the NullPointerException and its one wrapper, behind the objects of the start
pub used_by_subclass-objects : map (λ o. name_at (world_by used_by_subclass).program (class_of_kind (world_by used_by_subclass).program (kind_of o))) (drop 5 (after used_by_subclass 3).shared.heap.objects) ≡ Some null_pointer ∷ Some in_initializer ∷ []
unfolding turn_in
used_by_subclass-objects = refl
