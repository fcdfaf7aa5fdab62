-- Programs by hand, for worked runs: instructions as lists, beside class files by hand. Of a method that has Code the
-- class file has what it takes, gives and has room for.
use Rattle.std.specs.Prelude.{ℕ, zero, suc, ◌+◌, true, false, List, [], ◌∷◌, ◌++◌, map, Option, Some, None, codes, pos, slice_get, ◌==◌, if◌then◌else◌}
use Rattle.std.specs.Option.{option_map, option_map_or}
use Rattle.heap_objects.specs.declared.datum.Datum.TheVariants as datum
use Rattle.const_pool.specs.declared.descriptor.Kind.TheVariants as kind
use Rattle.const_pool.specs.declared.class.ClassFile.{ClassFile}
use Rattle.const_pool.specs.declared.class.Attribute.TheVariants.{Code}
use Rattle.const_pool.specs.References.{NameAndType, Reference}
use Rattle.jvm_model.specs.Basis.Data.{Ending, Uncaught, Entry, Active, Initializing, Constant, Load, ManageStack, Return, Local, Operation, Within, Named, New, Getstatic, Putstatic, Invokestatic, Invokevirtual, Invokespecial, Operands, Instruction, Catcher, Listing, World, Change, State, Turn}
use Rattle.jvm_model.specs.declared.family.StackInstruction.TheVariants.{Pop}
use Rattle.jvm_model.specs.Codes.Lines.{next_of}
use Rattle.jvm_model.specs.Basis.Programs.{methods_numbered, class_named}
use Rattle.jvm_model.specs.Running.Run.{turn_in}
use Rattle.jvm_model.specs.declared.event.Act.{Act}
use Rattle.jvm_model.specs.Profiling.Activations.{Trace, current, trace_in}
use Rattle.jvm_model.specs.Profiling.Paths.{Context, contexts_of}
use Rattle.jvm_model.specs.Profiling.Projection.{paths_of, path_at}
pub use Rattle.jvm_model.proofs.Worked.WorkedLibrary.{Item, Shape, class, file_of, library_files, member, object_name, with_methods}

-- ---- what is given by hand

-- a method that has Code
pub record Routine : Type 0 where
  pub access : ℕ
  pub member : NameAndType
  pub max_stack : ℕ
  pub max_locals : ℕ
  pub code : List Instruction
  pub handlers : List Catcher

-- a class with its methods that have Code; its shape has the others
pub record Sketch : Type 0 where
  pub shape : Shape
  pub routines : List Routine

-- the user's classes, and the number of `main`
pub record Sketches : Type 0 where
  pub classes : List Sketch
  pub main : ℕ

-- ---- its class files

-- the index of the attribute's name is never followed
abbrev pub item_of : Routine → Item
item_of r = record {
  access = r.access;
  member = r.member;
  attributes = Code 0 (record { max_stack = r.max_stack; max_locals = r.max_locals; code = []; handlers = []; attributes = [] }) ∷ [];
}

abbrev pub class_file : Sketch → ClassFile
class_file s = file_of (with_methods (map item_of s.routines ++ s.shape.methods) s.shape)

-- ---- the program, and its listing

abbrev pub class_files : Sketches → List ClassFile
class_files s = map class_file s.classes ++ library_files

abbrev pub world_by : Sketches → World
world_by s = record {
  program = record { classes = class_files s; methods = methods_numbered (class_files s); main = s.main; acts = []; args = []; heap = 4194304 };
  input = [];
}

-- with a heap of so many slots
abbrev pub with_heap : ℕ → World → World
with_heap slots w = record w { program = record w.program { heap = slots } }

abbrev pub routines_of : List Sketch → List Routine
routines_of [] = []
routines_of (s ∷ more) = s.routines ++ routines_of more

abbrev pub instruction_in : ℕ → List Instruction → Option Instruction
instruction_in at [] = None
instruction_in at (i ∷ more) = if i.own == at then Some i else instruction_in at more

abbrev pub code_in : List Routine → ℕ → List Instruction
code_in routines method = option_map_or (λ (r : Routine). r.code) (slice_get routines method) []

-- original code: places are offsets
abbrev pub listing_by : Sketches → Listing
listing_by s = let routines = routines_of s.classes in record {
  current = λ method. method;
  first = λ version. 0;
  at = λ version at. instruction_in at (code_in routines version);
  handlers = λ version. option_map_or (λ (r : Routine). r.handlers) (slice_get routines version) [];
}

-- ---- its run

abbrev pub turn_by : Sketches → ℕ → Turn
turn_by s n = turn_in (world_by s) (listing_by s) n

abbrev pub after : Sketches → ℕ → State
after s n = (turn_by s n).after

abbrev pub changes_of : Sketches → ℕ → List Change
changes_of s n = (turn_by s n).changes

abbrev pub trace_by : Sketches → ℕ → Trace
trace_by s n = trace_in (world_by s) (listing_by s) n

-- where the heap has so many slots
abbrev pub turn_in_heap : ℕ → Sketches → ℕ → Turn
turn_in_heap slots s n = turn_in (with_heap slots (world_by s)) (listing_by s) n

-- that the run ended, for what was thrown is of the class with this name
abbrev pub uncaught_of : Sketches → List ℕ → Option Ending
uncaught_of s name = option_map Uncaught (class_named (world_by s).program name)

-- where its frames stand, the current one first
abbrev pub places_of : List Entry → List ℕ
places_of [] = []
places_of (Active f ∷ below) = f.place ∷ places_of below
places_of (Initializing c part ∷ below) = places_of below

-- the operands of the current frame
abbrev pub operands_in : List Entry → Operands
operands_in [] = []
operands_in (Active f ∷ below) = f.operands
operands_in (Initializing c part ∷ below) = []

abbrev pub operands_of : State → Operands
operands_of s = operands_in s.stack

-- ---- contexts

-- this method is selected before the start
abbrev pub selecting : ℕ → List Act
selecting method = record { moment = 0; select = true; method = method } ∷ []

-- the path in which each step was made: that of the current activation before it
abbrev pub paths_by : Sketches → List Act → ℕ → List (List ℕ)
paths_by s acts zero = []
paths_by s acts (suc n) = paths_by s acts n ++ path_at acts (trace_by s (suc n)).activations (current (trace_by s n).live) ∷ []

abbrev pub contexts_by : Sketches → List Act → ℕ → List Context
contexts_by s acts n = contexts_of (paths_of acts (trace_by s n).activations) (paths_by s acts n)

-- ---- methods

-- a static one
abbrev pub routine : NameAndType → ℕ → ℕ → List Instruction → Routine
routine member max_stack max_locals code = record { access = 8; member = member; max_stack = max_stack; max_locals = max_locals; code = code; handlers = [] }

-- of an object
abbrev pub instance : NameAndType → ℕ → ℕ → List Instruction → Routine
instance member max_stack max_locals code = record (routine member max_stack max_locals code) { access = 1 }

abbrev pub main_member : NameAndType
main_member = member (codes "main") (codes "([Ljava/lang/String;)V")

-- main takes its argument in one local
abbrev pub main_routine : ℕ → List Instruction → Routine
main_routine max_stack code = routine main_member max_stack 1 code

abbrev pub initializer : List Instruction → Routine
initializer code = routine (member (codes "<clinit>") (codes "()V")) 1 0 code

-- a class with these methods alone
abbrev pub sketch : Shape → List Routine → Sketch
sketch shape routines = record { shape = shape; routines = routines }

-- one below java/lang/Object
abbrev pub alone : List ℕ → List Routine → Sketch
alone name routines = sketch (class name object_name []) routines

-- ---- instructions

-- at an offset, of so many bytes
abbrev pub at : ℕ → ℕ → Operation Local → Instruction
at own size operation = record { operation = operation; own = own; next = next_of operation (own + size); targets = [] }

-- with the one target that it has
abbrev pub at_to : ℕ → ℕ → Operation Local → ℕ → Instruction
at_to own size operation target = record (at own size operation) { targets = target ∷ [] }

abbrev pub int : ℕ → Operation Local
int n = Within (Constant (datum.Int (pos n)))

abbrev pub null : Operation Local
null = Within (Constant (datum.Ref 0))

abbrev pub iload : ℕ → Operation Local
iload slot = Within (Load kind.Int slot)

abbrev pub aload_0 : Operation Local
aload_0 = Within (Load kind.Ref 0)

abbrev pub pop : Operation Local
pop = Within (ManageStack Pop)

abbrev pub ireturn : Operation Local
ireturn = Within (Return (Some kind.Int))

abbrev pub returns : Operation Local
returns = Within (Return None)

abbrev pub reference : List ℕ → List ℕ → List ℕ → Reference
reference class name descriptor = record { class = class; member = member name descriptor }

abbrev pub getstatic : List ℕ → List ℕ → Operation Local
getstatic class name = Named (Getstatic (reference class name (codes "I")))

abbrev pub putstatic : List ℕ → List ℕ → Operation Local
putstatic class name = Named (Putstatic (reference class name (codes "I")))

abbrev pub call : List ℕ → List ℕ → List ℕ → Operation Local
call class name descriptor = Named (Invokestatic (reference class name descriptor))

abbrev pub new : List ℕ → Operation Local
new name = Named (New name)

-- invokespecial, in a class of this name
abbrev pub call_special : List ℕ → List ℕ → List ℕ → List ℕ → Operation Local
call_special caller class name descriptor = Named (Invokespecial caller (reference class name descriptor) false)

abbrev pub call_virtual : List ℕ → List ℕ → List ℕ → Operation Local
call_virtual class name descriptor = Named (Invokevirtual (reference class name descriptor))

abbrev pub get_out : Operation Local
get_out = Named (Getstatic (reference (codes "java/lang/System") (codes "out") (codes "Ljava/io/PrintStream;")))

abbrev pub println : Operation Local
println = Named (Invokevirtual (reference (codes "java/io/PrintStream") (codes "println") (codes "(I)V")))

-- main prints what a method of this class gives for a number
abbrev pub prints_result : List ℕ → List ℕ → ℕ → ℕ → List Instruction
prints_result class name n size =
    at 0 3 get_out ∷ at 3 size (int n) ∷ at (3 + size) 3 (call class name (codes "(I)I")) ∷ at (6 + size) 3 println ∷ at (9 + size) 1 returns ∷ []
