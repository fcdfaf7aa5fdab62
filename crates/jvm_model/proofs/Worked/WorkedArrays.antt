-- Worked runs over lists of instructions: arrays, their exceptions with messages, monitors, handlers of interfaces, and
-- the limits of the heap and of live activations.
use Rattle.std.specs.Prelude.{◌≡◌, ℕ, List, [], ◌∷◌, Option, Some, None, ℤ, pos, negsuc, length, map, replicate, take, refl, codes}
use Rattle.std.specs.Fmt.{digits}
use Rattle.std.specs.Int.{int_wrap}
use Rattle.heap_objects.specs.declared.datum.Datum.TheVariants as datum
use Rattle.heap_objects.specs.declared.Value.TheVariants.{Int, Ref}
use Rattle.heap_objects.specs.Heaps.{length_at, slot_at, units_at}
use Rattle.const_pool.specs.declared.descriptor.Kind.{Kind}
use Rattle.const_pool.specs.declared.descriptor.Kind.TheVariants as kind
use Rattle.code_model.specs.declared.instr.Arg.{Arg}
use Rattle.code_model.specs.declared.instr.Arg.TheVariants as arg
use Rattle.jf_bytes.specs.Unicode.{utf8_of}
use Rattle.base_classes.specs.BuiltInClasses.{built_in_classes}
use Rattle.base_classes.specs.ObjectClasses.{object_classes}
use Rattle.base_classes.specs.TextClasses.{text_classes}
use Rattle.base_classes.specs.StreamClasses.{stream_classes}
use Rattle.base_classes.specs.ValueClasses.{value_classes}
use Rattle.base_classes.specs.ThrowableClasses.{throwable_classes}
use Rattle.base_classes.specs.Natives.{native_methods}
use Rattle.native_effects.specs.Inputs.KindsViews.{is_among}
use Rattle.native_ops.specs.Methods.Rows.{rows as native_rows}
use Rattle.jvm_model.specs.Basis.Data.{Datum, Operands, Frame, Active, Initializing, Constants, Finish, Returned, Unverifiable, State, Constant, Store, DivisionOfInts, Local, Operation, Within, Athrow, Monitor, Newarray, Arraylength, LoadElement, StoreElement, Instruction, Catcher, Began, Unwound, Turn, World}
use Rattle.jvm_model.specs.declared.family.Division.TheVariants.{Quotient}
use Rattle.jvm_model.specs.Running.Applies.{begins_beside, invocation_turn, live_in, new_frame}
use Rattle.jvm_model.specs.Basis.Families.{family_of, rows}
use Rattle.jvm_model.specs.Codes.Lines.{operation_by}
use Rattle.jvm_model.specs.Instructions.LocalRules.{arithmetic_exception}
use Rattle.jvm_model.specs.Basis.Programs.{no_class}
use Rattle.jvm_model.specs.Running.Moves.{runs_initializer, turn_settled}
use Rattle.jvm_model.specs.Running.Run.{turn_in}
use Rattle.jvm_model.specs.Basis.SharedState.{array_store, index_outside, negative_array_size, null_pointer, out_of_memory, stack_overflow}
use Rattle.jvm_model.proofs.Worked.WorkedPrograms.{Sketches, after, aload_0, alone, at, call, get_out, getstatic, int, main_routine, null, operands_of, places_of, pop, println, returns, listing_by, uncaught_of, world_by}
use Rattle.jvm_model.specs.Instructions.ObjectRules.{array_kind}

-- ---- programs of one class, whose main this is

abbrev pub main_of : List Instruction → List Catcher → Sketches
main_of code handlers = record { classes = alone (codes "A") (record (main_routine 4 code) { handlers = handlers } ∷ []) ∷ []; main = 0 }

abbrev pub number : ℤ → Operation Local
number n = Within (Constant (datum.Int n))

abbrev pub astore_0 : Operation Local
astore_0 = Within (Store kind.Ref 0)

-- a new array of so many ints
abbrev pub ints : ℤ → List Instruction → List Instruction
ints count rest = at 0 1 (number count) ∷ at 1 2 (Newarray (array_kind 10)) ∷ rest

-- ---- elements: an int that is stored and loaded. The array is object 6, behind those of the start

abbrev pub prints_element : Sketches
prints_element = main_of
    (ints (pos 3) (
    at 3 1 astore_0 ∷
    at 4 1 aload_0 ∷ at 5 1 (int 1) ∷ at 6 2 (int 7) ∷ at 8 1 (StoreElement kind.Int) ∷
    at 9 3 get_out ∷ at 12 1 aload_0 ∷ at 13 1 (int 1) ∷ at 14 1 (LoadElement kind.Int) ∷ at 15 3 println ∷ at 18 1 returns ∷ []))
    []

pub prints_element-output : (after prints_element 12).output ≡ utf8_of (codes "7\n")
unfolding turn_in digits native_methods native_rows built_in_classes object_classes text_classes stream_classes value_classes throwable_classes is_among
prints_element-output = refl

pub prints_element-returns : (after prints_element 13).ending ≡ Some Returned
unfolding turn_in digits native_methods native_rows built_in_classes object_classes text_classes stream_classes value_classes throwable_classes is_among
prints_element-returns = refl

pub prints_element-length : length_at 6 (after prints_element 7).shared.heap ≡ Some 3
unfolding turn_in
prints_element-length = refl

pub prints_element-others : slot_at 6 0 (after prints_element 7).shared.heap ≡ Some (datum.Int (pos 0))
unfolding turn_in
prints_element-others = refl

-- one slot, and one for each element
pub prints_element-slots : (after prints_element 2).shared.heap.used ≡ 11
unfolding turn_in
prints_element-slots = refl

-- ---- arraylength

abbrev pub measures : Operation Local → Sketches
measures array = main_of (at 0 3 array ∷ at 3 1 Arraylength ∷ at 4 1 returns ∷ []) []

abbrev pub measures_ints : Sketches
measures_ints = main_of (ints (pos 3) (at 3 1 Arraylength ∷ at 4 1 returns ∷ [])) []

pub length-of_array : operands_of (after measures_ints 3) ≡ Int (pos 3) ∷ []
unfolding turn_in
length-of_array = refl

pub length-of_null : (after (measures null) 2).ending ≡ uncaught_of (measures null) null_pointer
unfolding turn_in
length-of_null = refl

-- System.out is no array
pub length-of_object : (after (measures get_out) 2).ending ≡ Some (Unverifiable 0 3)
unfolding turn_in
length-of_object = refl

-- ---- an array of less than no elements

abbrev pub negative : Sketches
negative = main_of (ints (negsuc 0) (at 3 1 returns ∷ [])) []

pub negative-ends : (after negative 2).ending ≡ uncaught_of negative negative_array_size
unfolding turn_in
negative-ends = refl

-- and of none, which has no element 0
abbrev pub empty : Sketches
empty = main_of (ints (pos 0) (at 3 1 (int 0) ∷ at 4 1 (LoadElement kind.Int) ∷ [])) []

pub empty-length : length_at 6 (after empty 2).shared.heap ≡ Some 0
unfolding turn_in
empty-length = refl

pub empty-ends : (after empty 4).ending ≡ uncaught_of empty index_outside
unfolding turn_in digits
empty-ends = refl

-- ---- an index outside, caught: the message is object 7, and the exception object 8

abbrev pub over_load : Option (List ℕ) → List Catcher
over_load name = record { start = 5; finish = 6; target = 7; catches = name } ∷ []

abbrev pub loads_at : ℤ → Sketches
loads_at index = main_of
    (ints (pos 3) (at 3 2 (number index) ∷ at 5 1 (LoadElement kind.Int) ∷ at 6 1 returns ∷ at 7 1 pop ∷ at 8 1 returns ∷ []))
    (over_load (Some index_outside))

abbrev pub stores_at : ℤ → Sketches
stores_at index = main_of
    (ints (pos 3) (at 3 1 (number index) ∷ at 4 1 (int 7) ∷ at 5 1 (StoreElement kind.Int) ∷ at 6 1 returns ∷ at 7 1 pop ∷ at 8 1 returns ∷ []))
    (over_load (Some index_outside))

-- the last one is inside
pub loads_last-goes_on : places_of (after (loads_at (pos 2)) 4).stack ≡ 6 ∷ []
unfolding turn_in
loads_last-goes_on = refl

pub loads_behind-caught : places_of (after (loads_at (pos 3)) 4).stack ≡ 7 ∷ []
unfolding turn_in digits
loads_behind-caught = refl

pub loads_5-caught : places_of (after (loads_at (pos 5)) 4).stack ≡ 7 ∷ []
unfolding turn_in digits
loads_5-caught = refl

pub loads_5-exception : operands_of (after (loads_at (pos 5)) 4) ≡ Ref 8 ∷ []
unfolding turn_in digits
loads_5-exception = refl

pub loads_5-message : slot_at 8 0 (after (loads_at (pos 5)) 4).shared.heap ≡ Some (datum.Ref 7)
unfolding turn_in digits
loads_5-message = refl

pub loads_5-cause : slot_at 8 1 (after (loads_at (pos 5)) 4).shared.heap ≡ Some (datum.Ref 0)
unfolding turn_in digits
loads_5-cause = refl

pub loads_5-text : units_at 7 (after (loads_at (pos 5)) 4).shared.heap ≡ Some (codes "5")
unfolding turn_in digits
loads_5-text = refl

pub loads_minus_1-exception : operands_of (after (loads_at (negsuc 0)) 4) ≡ Ref 8 ∷ []
unfolding turn_in digits
loads_minus_1-exception = refl

pub loads_minus_1-text : units_at 7 (after (loads_at (negsuc 0)) 4).shared.heap ≡ Some (codes "-1")
unfolding turn_in digits
loads_minus_1-text = refl

pub stores_12-caught : places_of (after (stores_at (pos 12)) 5).stack ≡ 7 ∷ []
unfolding turn_in digits
stores_12-caught = refl

pub stores_12-text : units_at 7 (after (stores_at (pos 12)) 5).shared.heap ≡ Some (codes "12")
unfolding turn_in digits
stores_12-text = refl

-- ---- what elements keep of an int: one is stored into an array of one element of this code, and loaded

abbrev pub keeps : ℕ → Kind → ℤ → Sketches
keeps code k n = main_of (
    at 0 1 (int 1) ∷ at 1 2 (Newarray (array_kind code)) ∷ at 3 1 astore_0 ∷
    at 4 1 aload_0 ∷ at 5 1 (int 0) ∷ at 6 3 (number n) ∷ at 9 1 (StoreElement k) ∷
    at 10 1 aload_0 ∷ at 11 1 (int 0) ∷ at 12 1 (LoadElement k) ∷ at 13 1 returns ∷ []) []

abbrev pub kept_of : ℕ → Kind → ℤ → Operands
kept_of code k n = operands_of (after (keeps code k n) 10)

pub byte-keeps_8_bits : kept_of 8 kind.Byte (pos 456) ≡ Int (negsuc 55) ∷ []
unfolding turn_in int_wrap
byte-keeps_8_bits = refl

pub boolean-keeps_1_bit : kept_of 4 kind.Byte (pos 6) ≡ Int (pos 0) ∷ []
unfolding turn_in int_wrap
boolean-keeps_1_bit = refl

pub boolean-keeps_odd : kept_of 4 kind.Byte (negsuc 0) ≡ Int (pos 1) ∷ []
unfolding turn_in int_wrap
boolean-keeps_odd = refl

pub char-keeps_16_bits : kept_of 5 kind.Char (negsuc 1) ≡ Int (pos 65534) ∷ []
unfolding turn_in int_wrap
char-keeps_16_bits = refl

pub short-keeps_16_bits : kept_of 9 kind.Short (pos 40000) ≡ Int (negsuc 25535) ∷ []
unfolding turn_in int_wrap
short-keeps_16_bits = refl

-- ---- instructions serve arrays of their own elements alone

abbrev pub loads_as : ℕ → Kind → Sketches
loads_as code k = main_of (at 0 1 (int 1) ∷ at 1 2 (Newarray (array_kind code)) ∷ at 3 1 (int 0) ∷ at 4 1 (LoadElement k) ∷ at 5 1 returns ∷ []) []

pub chars-as_ints : (after (loads_as 5 kind.Int) 4).ending ≡ Some (Unverifiable 0 4)
unfolding turn_in
chars-as_ints = refl

pub ints-as_bytes : (after (loads_as 10 kind.Byte) 4).ending ≡ Some (Unverifiable 0 4)
unfolding turn_in
ints-as_bytes = refl

pub chars-as_shorts : (after (loads_as 5 kind.Short) 4).ending ≡ Some (Unverifiable 0 4)
unfolding turn_in
chars-as_shorts = refl

pub booleans-as_bytes : operands_of (after (loads_as 4 kind.Byte) 4) ≡ Int (pos 0) ∷ []
unfolding turn_in
booleans-as_bytes = refl

pub longs-as_ints : (after (loads_as 11 kind.Int) 4).ending ≡ Some (Unverifiable 0 4)
unfolding turn_in
longs-as_ints = refl

-- the object is asked before the index, and null before all
abbrev pub loads_of : Operation Local → Sketches
loads_of array = main_of (at 0 3 array ∷ at 3 1 (number (negsuc 0)) ∷ at 4 1 (LoadElement kind.Int) ∷ at 5 1 returns ∷ []) []

pub element-of_null : (after (loads_of null) 3).ending ≡ uncaught_of (loads_of null) null_pointer
unfolding turn_in
element-of_null = refl

pub element-of_object : (after (loads_of get_out) 3).ending ≡ Some (Unverifiable 0 4)
unfolding turn_in
element-of_object = refl

-- ---- monitorenter and monitorexit: null is refused, and any other object taken off

abbrev pub watches : Operation Local → Sketches
watches object = main_of (at 0 1 (int 9) ∷ at 1 3 object ∷ at 4 1 Monitor ∷ at 5 1 returns ∷ []) []

pub monitor-of_null : (after (watches null) 3).ending ≡ uncaught_of (watches null) null_pointer
unfolding turn_in
monitor-of_null = refl

pub monitor-of_object : operands_of (after (watches get_out) 3) ≡ Int (pos 9) ∷ []
unfolding turn_in
monitor-of_object = refl

pub monitor-goes_on : places_of (after (watches get_out) 3).stack ≡ 5 ∷ []
unfolding turn_in
monitor-goes_on = refl

pub monitor-of_int : (after (watches (int 1)) 3).ending ≡ Some (Unverifiable 0 4)
unfolding turn_in
monitor-of_int = refl

-- ---- athrow: of null, and of what is no Throwable

abbrev pub throws : Operation Local → List Catcher → Sketches
throws object handlers = main_of (at 0 3 object ∷ at 3 1 Athrow ∷ at 4 1 returns ∷ at 5 1 returns ∷ at 6 1 returns ∷ []) handlers

pub throw-of_null : (after (throws null []) 2).ending ≡ uncaught_of (throws null []) null_pointer
unfolding turn_in
throw-of_null = refl

pub throw-of_object : (after (throws get_out []) 2).ending ≡ Some (Unverifiable 0 3)
unfolding turn_in
throw-of_object = refl

abbrev pub throws_array : Sketches
throws_array = main_of (ints (pos 3) (at 3 1 Athrow ∷ [])) []

pub throw-of_array : (after throws_array 3).ending ≡ Some (Unverifiable 0 3)
unfolding turn_in
throw-of_array = refl

-- ---- a handler catches what implements its interface, as each Throwable does Serializable

abbrev pub over_throw : List ℕ → ℕ → Catcher
over_throw name target = record { start = 3; finish = 4; target = target; catches = Some name }

pub interface-catches : places_of (after (throws null (over_throw (codes "java/io/Serializable") 5 ∷ [])) 2).stack ≡ 5 ∷ []
unfolding turn_in
interface-catches = refl

-- neither another interface, nor a name of no class
pub others-pass : places_of (after (throws null (over_throw (codes "java/lang/Cloneable") 4 ∷ over_throw (codes "Absent") 5 ∷ over_throw (codes "java/lang/Object") 6 ∷ [])) 2).stack ≡ 6 ∷ []
unfolding turn_in
others-pass = refl

-- ---- references: main is given one argument, object 6 in the array 5

abbrev pub given : World → World
given w = record w { program = record w.program { args = codes "x" ∷ [] } }

abbrev pub after_given : Sketches → ℕ → State
after_given s n = (turn_in (given (world_by s)) (listing_by s) n).after

-- main stores into that array, and loads what it stored
abbrev pub stores : Operation Local → Sketches
stores object = main_of (
    at 0 1 aload_0 ∷ at 1 1 (int 0) ∷ at 2 3 object ∷ at 5 1 (StoreElement kind.Ref) ∷
    at 6 1 aload_0 ∷ at 7 1 (int 0) ∷ at 8 1 (LoadElement kind.Ref) ∷ at 9 1 returns ∷ []) []

abbrev pub loads_argument : Sketches
loads_argument = main_of (at 0 1 aload_0 ∷ at 1 1 (int 0) ∷ at 2 1 (LoadElement kind.Ref) ∷ at 3 1 returns ∷ []) []

pub argument-loaded : operands_of (after_given loads_argument 3) ≡ Ref 6 ∷ []
unfolding turn_in
argument-loaded = refl

pub null-stored : operands_of (after_given (stores null) 7) ≡ Ref 0 ∷ []
unfolding turn_in
null-stored = refl

-- the String that is in it
abbrev pub stores_argument : Sketches
stores_argument = main_of (
    at 0 1 aload_0 ∷ at 1 1 (int 0) ∷ at 2 1 aload_0 ∷ at 3 1 (int 0) ∷ at 4 1 (LoadElement kind.Ref) ∷ at 5 1 (StoreElement kind.Ref) ∷ at 6 1 returns ∷ []) []

pub string-stored : places_of (after_given stores_argument 6).stack ≡ 6 ∷ []
unfolding turn_in
string-stored = refl

-- System.out is no String
pub other-refused : (after_given (stores get_out) 4).ending ≡ uncaught_of (stores get_out) array_store
unfolding turn_in
other-refused = refl

-- ---- messages of other exceptions: object 6, where there was no array

abbrev pub divides : Sketches
divides = main_of (at 0 1 (int 1) ∷ at 1 1 (int 0) ∷ at 2 1 (Within (DivisionOfInts Quotient)) ∷ []) []

pub division-ends : (after divides 3).ending ≡ uncaught_of divides arithmetic_exception
unfolding turn_in
division-ends = refl

pub division-text : units_at 6 (after divides 3).shared.heap ≡ Some (codes "/ by zero")
unfolding turn_in
division-text = refl

-- a class that is not there is told by its name
abbrev pub message_by : Operation Local → Option (List ℕ)
message_by operation = units_at 6 (after (main_of (at 0 3 operation ∷ []) []) 1).shared.heap

pub call-text : message_by (call (codes "p/Absent") (codes "f") (codes "()V")) ≡ Some (codes "p/Absent")
unfolding turn_in
call-text = refl

pub field-text : message_by (getstatic (codes "p/Absent") (codes "b")) ≡ Some (codes "p/Absent")
unfolding turn_in
field-text = refl

-- and a member that is not there has no message: the exception is object 6 itself
pub member-text : message_by (call (codes "A") (codes "f") (codes "()V")) ≡ None
unfolding turn_in
member-text = refl

-- ---- a heap of so few slots. The start takes 7, an array of 3 ints takes 4, and an exception with a message of one unit takes 5

abbrev pub after_in : ℕ → Sketches → ℕ → State
after_in limit s n = (turn_in (let w = world_by s in record w { program = record w.program { heap = limit } }) (listing_by s) n).after

pub array-fits : operands_of (after_in 11 measures_ints 2) ≡ Ref 6 ∷ []
unfolding turn_in
array-fits = refl

pub array-too_long : (after_in 10 measures_ints 2).ending ≡ uncaught_of measures_ints out_of_memory
unfolding turn_in
array-too_long = refl

-- object 1 itself is thrown, and nothing is made
abbrev pub catches_all : Sketches
catches_all = main_of
    (ints (pos 3) (at 3 2 (int 5) ∷ at 5 1 (LoadElement kind.Int) ∷ at 6 1 returns ∷ at 7 1 returns ∷ []))
    (record { start = 0; finish = 6; target = 7; catches = None } ∷ [])

pub array-object_1 : operands_of (after_in 10 catches_all 2) ≡ Ref 1 ∷ []
unfolding turn_in
array-object_1 = refl

pub message-fits : operands_of (after_in 16 catches_all 4) ≡ Ref 8 ∷ []
unfolding turn_in digits
message-fits = refl

pub message-object_1 : operands_of (after_in 15 catches_all 4) ≡ Ref 1 ∷ []
unfolding turn_in digits
message-object_1 = refl

-- not even the message, for which alone there was room
pub message-not_made : length (after_in 15 catches_all 4).shared.heap.objects ≡ 6
unfolding turn_in digits
message-not_made = refl

-- ---- live activations: 1,024 at most. The one that would be one more throws at its caller

abbrev pub calls : Sketches
calls = main_of (at 0 3 (call (codes "A") (codes "main") (codes "([Ljava/lang/String;)V")) ∷ []) []

abbrev pub argument : List Datum
argument = datum.Ref 5 ∷ []

abbrev pub caller : Frame
caller = new_frame (world_by calls) (listing_by calls) 0 argument

-- main calls itself where so many stand below it
abbrev pub calls_above : ℕ → Turn
calls_above count =
    let s = after calls 0 in
    invocation_turn (world_by calls) (listing_by calls) (at 0 3 returns) (record s { stack = replicate count (Active caller) }) caller 0 argument []

pub call_1024-begins : (calls_above 1022).changes ≡ Began 0 ∷ []
call_1024-begins = refl

pub call_1025-changes : (calls_above 1023).changes ≡ []
call_1025-changes = refl

pub call_1025-throws : (calls_above 1023).after.thrown ≡ Some 6
unfolding turn_in
call_1025-throws = refl

-- beside so many
abbrev pub beside : ℕ → Turn
beside live = begins_beside (world_by calls) (listing_by calls) (record (after calls 0) { stack = [] }) caller 0 argument [] live

pub beside_1023-begins : (beside 1023).changes ≡ Began 0 ∷ []
beside_1023-begins = refl

pub beside_1024-places : places_of (beside 1024).after.stack ≡ 0 ∷ []
beside_1024-places = refl

abbrev pub overflown : Turn
overflown = turn_settled (world_by calls) (listing_by calls) (beside 1024)

pub overflown-changes : overflown.changes ≡ Unwound ∷ []
unfolding turn_in
overflown-changes = refl

pub overflown-ends : overflown.after.ending ≡ uncaught_of calls stack_overflow
unfolding turn_in
overflown-ends = refl

-- a static initializer where so many stand below it: its class waits to be left
abbrev pub initializes_above : ℕ → Turn
initializes_above count = runs_initializer (world_by calls) (listing_by calls) (record (after calls 0) { stack = replicate count (Active caller) }) 0 (Some 0)

pub initializer_1024-begins : (initializes_above 1023).changes ≡ Began 0 ∷ []
initializer_1024-begins = refl

pub initializer_1025-changes : (initializes_above 1024).changes ≡ []
initializer_1025-changes = refl

pub initializer_1025-throws : (initializes_above 1024).after.thrown ≡ Some 6
unfolding turn_in
initializer_1025-throws = refl

pub initializer_1025-waits : take 1 (initializes_above 1024).after.stack ≡ Initializing 0 Finish ∷ []
initializer_1025-waits = refl

-- what is being initialized is not live
pub live-frames : live_in (Active caller ∷ Initializing 0 Constants ∷ Active caller ∷ []) ≡ 2
live-frames = refl

-- ---- which opcodes these are

abbrev pub operation_at : Arg → ℕ → Option (Operation Local)
operation_at a op = operation_by no_class op a (family_of op)

pub loads-opcodes : map (operation_at arg.Plain) (46 ∷ 47 ∷ 50 ∷ 51 ∷ 52 ∷ 53 ∷ [])
    ≡ map (λ k. Some (LoadElement k)) (kind.Int ∷ kind.Long ∷ kind.Ref ∷ kind.Byte ∷ kind.Char ∷ kind.Short ∷ [])
unfolding family_of rows
loads-opcodes = refl

pub stores-opcodes : map (operation_at arg.Plain) (79 ∷ 80 ∷ 83 ∷ 84 ∷ 85 ∷ 86 ∷ [])
    ≡ map (λ k. Some (StoreElement k)) (kind.Int ∷ kind.Long ∷ kind.Ref ∷ kind.Byte ∷ kind.Char ∷ kind.Short ∷ [])
unfolding family_of rows
stores-opcodes = refl

pub other-opcodes : map (operation_at arg.Plain) (190 ∷ 191 ∷ 194 ∷ 195 ∷ []) ≡ Some Arraylength ∷ Some Athrow ∷ Some Monitor ∷ Some Monitor ∷ []
unfolding family_of rows
other-opcodes = refl

pub newarray-opcode : operation_at (arg.Array 8) 188 ≡ Some (Newarray (array_kind 8))
unfolding family_of rows
newarray-opcode = refl

-- faload, daload, fastore and dastore are none
pub floating-opcodes : map (operation_at arg.Plain) (48 ∷ 49 ∷ 81 ∷ 82 ∷ []) ≡ None ∷ None ∷ None ∷ None ∷ []
unfolding family_of rows
floating-opcodes = refl
