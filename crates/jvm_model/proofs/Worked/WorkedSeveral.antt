-- Worked runs of several classes: which are loaded and when, what stops the start, and what is initialized (JVM
-- Specification 5.3, 5.5).
use Rattle.std.specs.Prelude.{◌≡◌, ℕ, List, [], ◌∷◌, Some, None, drop, pos, refl, codes, slice_get, take}
use Rattle.std.specs.Fmt.{digits}
use Rattle.std.specs.Int.{int_wrap}
use Rattle.heap_objects.specs.Heaps.{slot_at, units_at}
use Rattle.heap_objects.specs.declared.datum.Datum.TheVariants as datum
use Rattle.heap_objects.specs.declared.Value.TheVariants.{Int, Ref}
use Rattle.const_pool.specs.declared.pool.Const.TheVariants as const
use Rattle.jf_bytes.specs.Unicode.{utf8_of}
use Rattle.base_classes.specs.BuiltInClasses.{built_in_classes}
use Rattle.base_classes.specs.ObjectClasses.{object_classes}
use Rattle.base_classes.specs.TextClasses.{text_classes}
use Rattle.base_classes.specs.StreamClasses.{stream_classes}
use Rattle.base_classes.specs.ValueClasses.{value_classes}
use Rattle.base_classes.specs.ThrowableClasses.{throwable_classes}
use Rattle.base_classes.specs.Natives.{native_methods}
use Rattle.native_effects.specs.Inputs.KindsViews.{is_among}
use Rattle.native_ops.specs.Methods.Rows.{rows}
use Rattle.jvm_model.specs.Basis.Data.{ManageStack, BinaryOfInts, WithZero, Branch, Within, Athrow, Fresh, Ready, Erroneous, Returned, Loads, Began, Unwound}
use Rattle.jvm_model.specs.declared.family.IntOperator.TheVariants.{Iadd}
use Rattle.jvm_model.specs.declared.family.Comparison.TheVariants.{Equal}
use Rattle.jvm_model.specs.declared.family.StackInstruction.TheVariants.{Dup}
use Rattle.jvm_model.specs.Classes.Load.{circular_class}
use Rattle.jvm_model.specs.Classes.Lookup.{incompatible_change}
use Rattle.jvm_model.specs.Running.Run.{turn_in}
use Rattle.jvm_model.specs.Profiling.Activations.{trace_in}
use Rattle.jvm_model.specs.Basis.SharedState.{no_class_definition, out_of_memory, phase_of}
use Rattle.jvm_model.proofs.Worked.WorkedLibrary.{Shape, class, constant, interface, item, object_name, with_fields}
use Rattle.jvm_model.proofs.Worked.WorkedPrograms.{Routine, Sketch, Sketches, after, aload_0, alone, at, at_to, call, call_special, call_virtual, changes_of, contexts_by, get_out, getstatic, initializer, instance, int, iload, ireturn, main_routine, member, new, null, operands_of, places_of, pop, println, putstatic, returns, routine, selecting, sketch, trace_by, turn_in_heap, uncaught_of}

-- static fields, which are ints
abbrev with_ints : List (List ℕ) → Shape → Shape
with_ints [] s = s
with_ints (name ∷ more) s = let above = with_ints more s in record above { fields = item 8 name (codes "I") ∷ above.fields }

-- ---- two classes: main prints what a method of another class gives for 41. That class is loaded where it is named, and the method begins
-- in the same step.

abbrev two : Sketches
two = record {
  classes = alone (codes "M") (
      main_routine 2 (
      at 0 3 get_out ∷ at 3 2 (int 41) ∷ at 5 3 (call (codes "A") (codes "f") (codes "(I)I")) ∷ at 8 3 println ∷ at 11 1 returns ∷ [])
      ∷ [])
      ∷ alone (codes "A") (
      routine (member (codes "f") (codes "(I)I")) 2 1 (
      at 0 1 (iload 0) ∷ at 1 1 (int 1) ∷ at 2 1 (Within (BinaryOfInts Iadd)) ∷ at 3 1 ireturn ∷ [])
      ∷ [])
      ∷ [];
  main = 0;
}

two-start : changes_of two 0 ≡ Loads (0 ∷ []) ∷ Began 0 ∷ []
unfolding turn_in
two-start = refl

two-loads : changes_of two 3 ≡ Loads (1 ∷ []) ∷ Began 1 ∷ []
unfolding turn_in
two-loads = refl

two-goes_on : (after two 8).ending ≡ None
unfolding turn_in digits int_wrap native_methods rows built_in_classes object_classes text_classes stream_classes value_classes throwable_classes is_among
two-goes_on = refl

two-returns : (after two 9).ending ≡ Some Returned
unfolding turn_in digits int_wrap native_methods rows built_in_classes object_classes text_classes stream_classes value_classes throwable_classes is_among
two-returns = refl

two-output : (after two 8).output ≡ utf8_of (codes "42\n")
unfolding turn_in digits int_wrap native_methods rows built_in_classes object_classes text_classes stream_classes value_classes throwable_classes is_among
two-output = refl

-- ---- an override that is loaded later: main makes a B, whose superclass is A, and invokes A's v on it

abbrev constructor : List ℕ → List ℕ → Routine
constructor own above =
    instance (member (codes "<init>") (codes "()V")) 1 1 (
    at 0 1 aload_0 ∷ at 1 3 (call_special own above (codes "<init>") (codes "()V")) ∷ at 4 1 returns ∷ [])

abbrev gives : ℕ → Routine
gives n = instance (member (codes "v") (codes "()I")) 1 1 (at 0 1 (int n) ∷ at 1 1 ireturn ∷ [])

-- N's main is method 0, A's constructor and v are 1 and 2, and B's 3 and 4
abbrev overriding : Sketches
overriding = record {
  classes = alone (codes "N") (
      main_routine 2 (
      at 0 3 (new (codes "B")) ∷ at 3 1 (Within (ManageStack Dup))
      ∷ at 4 3 (call_special (codes "N") (codes "B") (codes "<init>") (codes "()V"))
      ∷ at 7 3 (call_virtual (codes "A") (codes "v") (codes "()I")) ∷ at 10 1 pop ∷ at 11 1 returns ∷ [])
      ∷ [])
      ∷ alone (codes "A") (constructor (codes "A") object_name ∷ gives 1 ∷ [])
      ∷ sketch (class (codes "B") (codes "A") []) (constructor (codes "B") (codes "A") ∷ gives 2 ∷ [])
      ∷ [];
  main = 0;
}

-- the superclass is loaded first, and the object made in the same step, behind those of the start
overriding-loads : changes_of overriding 1 ≡ Loads (1 ∷ 2 ∷ []) ∷ []
unfolding turn_in
overriding-loads = refl

overriding-object : operands_of (after overriding 1) ≡ Ref 6 ∷ []
unfolding turn_in
overriding-object = refl

-- B's v
overriding-begins : changes_of overriding 10 ≡ Began 4 ∷ []
unfolding turn_in native_methods rows built_in_classes object_classes text_classes stream_classes value_classes throwable_classes is_among
overriding-begins = refl

overriding-result : operands_of (after overriding 12) ≡ Int (pos 2) ∷ []
unfolding turn_in native_methods rows built_in_classes object_classes text_classes stream_classes value_classes throwable_classes is_among
overriding-result = refl

overriding-goes_on : (after overriding 13).ending ≡ None
unfolding turn_in native_methods rows built_in_classes object_classes text_classes stream_classes value_classes throwable_classes is_among
overriding-goes_on = refl

overriding-returns : (after overriding 14).ending ≡ Some Returned
unfolding turn_in native_methods rows built_in_classes object_classes text_classes stream_classes value_classes throwable_classes is_among
overriding-returns = refl

overriding-trace : trace_by overriding 14 ≡ record {
  activations = record { method = 0; parent = None; begin = 0; «end» = Some 14 }
      ∷ record { method = 3; parent = Some 0; begin = 3; «end» = Some 9 }
      ∷ record { method = 1; parent = Some 1; begin = 5; «end» = Some 8 }
      ∷ record { method = 4; parent = Some 0; begin = 10; «end» = Some 12 } ∷ [];
  live = [];
}
unfolding trace_in turn_in native_methods rows built_in_classes object_classes text_classes stream_classes value_classes throwable_classes is_among
overriding-trace = refl

-- main is selected before the start
overriding-contexts : contexts_by overriding (selecting 0) 14
    ≡ record { path = 0 ∷ []; calls = 1; own = 6 } ∷ record { path = 0 ∷ 3 ∷ []; calls = 1; own = 3 }
    ∷ record { path = 0 ∷ 3 ∷ 1 ∷ []; calls = 1; own = 3 } ∷ record { path = 0 ∷ 4 ∷ []; calls = 1; own = 2 } ∷ []
unfolding trace_in turn_in native_methods rows built_in_classes object_classes text_classes stream_classes value_classes throwable_classes is_among
overriding-contexts = refl

-- ---- an absent class: it is asked for where the instruction that names it is reached

-- main jumps over it where the number is 0
abbrev with_absent : ℕ → Sketches
with_absent n = record {
  classes = alone (codes "Q") (
      main_routine 1 (
      at 0 1 (int n) ∷ at_to 1 3 (Within (Branch (WithZero Equal))) 8 ∷ at 4 3 (new (codes "Absent")) ∷ at 7 1 pop ∷ at 8 1 returns ∷ [])
      ∷ [])
      ∷ [];
  main = 0;
}

absent-goes_on : (after (with_absent 0) 2).ending ≡ None
unfolding turn_in
absent-goes_on = refl

absent-returns : (after (with_absent 0) 3).ending ≡ Some Returned
unfolding turn_in
absent-returns = refl

absent_reached-goes_on : (after (with_absent 1) 2).ending ≡ None
unfolding turn_in
absent_reached-goes_on = refl

absent_reached-ends : (after (with_absent 1) 3).ending ≡ uncaught_of (with_absent 1) no_class_definition
unfolding turn_in
absent_reached-ends = refl

-- nothing is loaded
absent_reached-changes : changes_of (with_absent 1) 3 ≡ Unwound ∷ []
unfolding turn_in
absent_reached-changes = refl

-- the message tells the name, in an object before the exception's
absent_reached-text : units_at 6 (after (with_absent 1) 3).shared.heap ≡ Some (codes "Absent")
unfolding turn_in
absent_reached-text = refl

absent_reached-message : slot_at 7 0 (after (with_absent 1) 3).shared.heap ≡ Some (datum.Ref 6)
unfolding turn_in
absent_reached-message = refl

-- ---- what stops the loading of the main class ends the run in the start

abbrev returning : List Routine
returning = main_routine 0 (at 0 1 returns ∷ []) ∷ []

-- its own superclass
abbrev circle : Sketches
circle = record { classes = sketch (class (codes "C") (codes "C") []) returning ∷ []; main = 0 }

circle-ends : (after circle 0).ending ≡ uncaught_of circle circular_class
unfolding turn_in
circle-ends = refl

circle-changes : changes_of circle 0 ≡ []
unfolding turn_in
circle-changes = refl

circle-class : phase_of (after circle 0).shared 0 ≡ Some Fresh
unfolding turn_in
circle-class = refl

-- a superclass, and then an interface that is not there: what stands before the fault is loaded
abbrev half_way : Sketches
half_way = record {
  classes = sketch (class (codes "M") (codes "A") (codes "Absent" ∷ [])) returning ∷ alone (codes "A") [] ∷ [];
  main = 0;
}

half_way-ends : (after half_way 0).ending ≡ uncaught_of half_way no_class_definition
unfolding turn_in
half_way-ends = refl

half_way-changes : changes_of half_way 0 ≡ Loads (1 ∷ []) ∷ []
unfolding turn_in
half_way-changes = refl

-- the message stands behind the objects of the start
half_way-text : units_at 6 (after half_way 0).shared.heap ≡ Some (codes "Absent")
unfolding turn_in
half_way-text = refl

-- an interface as the superclass
abbrev below_interface : Sketches
below_interface = record {
  classes = sketch (class (codes "M") (codes "I") []) returning ∷ sketch (interface (codes "I") []) [] ∷ [];
  main = 0;
}

below_interface-ends : (after below_interface 0).ending ≡ uncaught_of below_interface incompatible_change
unfolding turn_in
below_interface-ends = refl

-- ---- constants: of three fields the second is a String of two units, which takes three slots. The objects of the start take seven.

abbrev with_constants : List ℕ → List Routine → Sketch
with_constants name routines = sketch (record (with_fields (
    constant (codes "i") (codes "I") 5 ∷ constant (codes "s") (codes "Ljava/lang/String;") 6 ∷ constant (codes "j") (codes "J") 8 ∷ [])
    (class name object_name [])) {
      constants = const.Integer (pos 5) ∷ const.Text 7 ∷ const.Utf8 (codes "hi") ∷ const.Long (pos 9) ∷ const.Gap ∷ [];
    }) routines

-- main reads the first field
abbrev reads_constant : Sketches
reads_constant = record {
  classes = alone (codes "M") (main_routine 1 (at 0 3 (getstatic (codes "K") (codes "i")) ∷ at 3 1 pop ∷ at 4 1 returns ∷ []) ∷ [])
      ∷ with_constants (codes "K") []
      ∷ [];
  main = 0;
}

fits-operands : operands_of (turn_in_heap 10 reads_constant 1).after ≡ Int (pos 5) ∷ []
unfolding turn_in int_wrap
fits-operands = refl

fits-fields : slice_get (turn_in_heap 10 reads_constant 1).after.shared.statics 1
    ≡ Some (datum.Int (pos 5) ∷ datum.Ref 6 ∷ datum.Long (pos 9) ∷ [])
unfolding turn_in int_wrap
fits-fields = refl

-- without room object 1 is thrown, and what was set before stays
no_room-ends : (turn_in_heap 9 reads_constant 1).after.ending ≡ uncaught_of reads_constant out_of_memory
unfolding turn_in int_wrap
no_room-ends = refl

no_room-changes : (turn_in_heap 9 reads_constant 1).changes ≡ Loads (1 ∷ []) ∷ Unwound ∷ []
unfolding turn_in int_wrap
no_room-changes = refl

no_room-class : phase_of (turn_in_heap 9 reads_constant 1).after.shared 1 ≡ Some Erroneous
unfolding turn_in int_wrap
no_room-class = refl

no_room-fields : slice_get (turn_in_heap 9 reads_constant 1).after.shared.statics 1
    ≡ Some (datum.Int (pos 5) ∷ datum.Ref 0 ∷ datum.Long (pos 0) ∷ [])
unfolding turn_in int_wrap
no_room-fields = refl

-- of the main class itself: main never begins
abbrev own_constants : Sketches
own_constants = record { classes = with_constants (codes "K") returning ∷ []; main = 0 }

no_room_in_start-ends : (turn_in_heap 9 own_constants 0).after.ending ≡ uncaught_of own_constants out_of_memory
unfolding turn_in int_wrap
no_room_in_start-ends = refl

no_room_in_start-changes : (turn_in_heap 9 own_constants 0).changes ≡ Loads (0 ∷ []) ∷ []
unfolding turn_in int_wrap
no_room_in_start-changes = refl

-- ---- interfaces: those of a class that is initialized are not, nor are those above an interface that is

-- C implements I, and I extends J, whose initializer throws. Main is method 0, and I's initializer 1.
abbrev interfaces : Sketches
interfaces = record {
  classes = alone (codes "M") (
      main_routine 1 (
      at 0 3 (getstatic (codes "C") (codes "s")) ∷ at 3 1 pop ∷ at 4 3 (getstatic (codes "I") (codes "k")) ∷ at 7 1 pop ∷ at 8 1 returns ∷ [])
      ∷ [])
      ∷ sketch (with_ints (codes "s" ∷ []) (class (codes "C") object_name (codes "I" ∷ []))) []
      ∷ sketch (with_ints (codes "k" ∷ []) (interface (codes "I") (codes "J" ∷ []))) (
      initializer (at 0 1 (int 1) ∷ at 1 3 (putstatic (codes "I") (codes "k")) ∷ at 4 1 returns ∷ []) ∷ [])
      ∷ sketch (interface (codes "J") []) (initializer (at 0 1 null ∷ at 1 1 Athrow ∷ []) ∷ [])
      ∷ [];
  main = 0;
}

-- what it names is loaded before a class, and its initializer does not run
interfaces-loads : changes_of interfaces 1 ≡ Loads (3 ∷ 2 ∷ 1 ∷ []) ∷ []
unfolding turn_in
interfaces-loads = refl

interfaces-phases : take 3 (drop 1 (after interfaces 1).shared.phases) ≡ Ready ∷ Fresh ∷ Fresh ∷ []
unfolding turn_in
interfaces-phases = refl

-- where its own field is read it runs
interfaces-begins : changes_of interfaces 3 ≡ Began 1 ∷ []
unfolding turn_in
interfaces-begins = refl

interfaces-operands : operands_of (after interfaces 7) ≡ Int (pos 1) ∷ []
unfolding turn_in
interfaces-operands = refl

interfaces-goes_on : (after interfaces 8).ending ≡ None
unfolding turn_in
interfaces-goes_on = refl

interfaces-returns : (after interfaces 9).ending ≡ Some Returned
unfolding turn_in
interfaces-returns = refl

interfaces-phases_then : take 3 (drop 1 (after interfaces 9).shared.phases) ≡ Ready ∷ Ready ∷ Fresh ∷ []
unfolding turn_in
interfaces-phases_then = refl

-- ---- two initializers that use each other's class: the second one sees the first one's fields as they are then

-- Main is method 0, A's initializer 1, and B's 2.
abbrev each_other : Sketches
each_other = record {
  classes = alone (codes "M") (main_routine 1 (at 0 3 (getstatic (codes "A") (codes "a")) ∷ at 3 1 pop ∷ at 4 1 returns ∷ []) ∷ [])
      ∷ sketch (with_ints (codes "a" ∷ codes "c" ∷ []) (class (codes "A") object_name [])) (
      initializer (
      at 0 1 (int 1) ∷ at 1 3 (putstatic (codes "A") (codes "a")) ∷ at 4 3 (getstatic (codes "B") (codes "b"))
      ∷ at 7 3 (putstatic (codes "A") (codes "c")) ∷ at 10 1 returns ∷ [])
      ∷ [])
      ∷ sketch (with_ints (codes "b" ∷ codes "d" ∷ []) (class (codes "B") object_name [])) (
      initializer (
      at 0 3 (getstatic (codes "A") (codes "a")) ∷ at 3 3 (putstatic (codes "B") (codes "b"))
      ∷ at 6 3 (getstatic (codes "A") (codes "c")) ∷ at 9 3 (putstatic (codes "B") (codes "d")) ∷ at 12 1 returns ∷ [])
      ∷ [])
      ∷ [];
  main = 0;
}

each_other-first : changes_of each_other 1 ≡ Loads (1 ∷ []) ∷ Began 1 ∷ []
unfolding turn_in
each_other-first = refl

each_other-second : changes_of each_other 4 ≡ Loads (2 ∷ []) ∷ Began 2 ∷ []
unfolding turn_in
each_other-second = refl

-- the first one goes on where it used the second one's class
each_other-places : places_of (after each_other 9).stack ≡ 4 ∷ 0 ∷ []
unfolding turn_in
each_other-places = refl

each_other-goes_on : (after each_other 14).ending ≡ None
unfolding turn_in
each_other-goes_on = refl

each_other-returns : (after each_other 15).ending ≡ Some Returned
unfolding turn_in
each_other-returns = refl

each_other-fields : take 2 (drop 1 (after each_other 15).shared.statics)
    ≡ (datum.Int (pos 1) ∷ datum.Int (pos 1) ∷ []) ∷ (datum.Int (pos 1) ∷ datum.Int (pos 0) ∷ []) ∷ []
unfolding turn_in
each_other-fields = refl

each_other-trace : trace_by each_other 15 ≡ record {
  activations = record { method = 0; parent = None; begin = 0; «end» = Some 15 }
      ∷ record { method = 1; parent = Some 0; begin = 1; «end» = Some 12 }
      ∷ record { method = 2; parent = Some 1; begin = 4; «end» = Some 9 } ∷ [];
  live = [];
}
unfolding trace_in turn_in
each_other-trace = refl
