-- What an invocation comes to before anything is changed (JVM Specification 6.5): the method that was selected and the
-- arguments, or what is asked for where a step is refused.
use Rattle.std.specs.Prelude.{◌≡◌, ℕ, Bool, true, false, List, length, drop, map, reverse, take, Option, Some, None, Result, Ok, Err, pos}
use Rattle.std.specs.Option.{option_map}
use Rattle.heap_objects.specs.declared.datum.Datum.TheVariants as datum
use Rattle.heap_objects.specs.declared.Value.TheVariants.{Int, Long, Ref, Addr}
use Rattle.heap_objects.specs.Heaps.{HeapView, kind_at}
use Rattle.const_pool.specs.References.{Reference}
use Rattle.heap_objects.specs.declared.datum.Datum.{Datum}
use Rattle.heap_objects.specs.declared.Value.{Value}
use Rattle.jvm_model.specs.declared.program.Program.{Program}
use Rattle.jvm_model.specs.declared.state.Phase.{Phase}
use Rattle.jvm_model.specs.declared.state.Phase.TheVariants.{Fresh, Running, Ready, Erroneous}
use Rattle.jvm_model.specs.declared.state.Shared.{Shared}
use Rattle.jvm_model.specs.Basis.Data.{Locals, Operands, World, Outcome, Raises, Initializes, Done}
use Rattle.jvm_model.specs.Instructions.InvocationRules.{Selecting, Virtual, OfInterface, Special, arguments_by, invokes_selected, names_interface, not_of_class, receiver_in, selected_by}
use Rattle.jvm_model.specs.Classes.Lookup.{MemberPlace}
use Rattle.jvm_model.specs.Instructions.SymbolicReference.{◌>>=◌, is_instance, present, receiver, unless_refused}
use Rattle.jvm_model.specs.Basis.Programs.{class_named, name_at}
use Rattle.jvm_model.specs.Basis.SharedState.{no_class_definition, phase_of}
use Rattle.class_linker.specs.Linkers.{IsLoaded, LinkerView}
use Rattle.member_selection.specs.declared.targets.Selecting.{Selecting as Chosen}
use Rattle.member_selection.specs.declared.targets.Selecting.TheVariants as chosen
use Rattle.member_selection.specs.declared.targets.Target.{Target as TheTarget}
use Rattle.member_selection.specs.Objects.{class_at_kind}
use Rattle.member_selection.specs.declared.outcome.AbruptCompletion.{AbruptCompletion}
use Rattle.member_selection.specs.Answers.{abrupt_view}
use Rattle.member_selection.specs.Callees.{chosen_place}
use Rattle.member_selection.specs.Resolved.{method_found}

-- ---- arguments

-- A return address is no argument; it stands for what is neither an int nor a reference.
abbrev pub as_datum : Value → Datum
as_datum (Int n) = datum.Int n
as_datum (Long n) = datum.Long n
as_datum (Ref r) = datum.Ref r
as_datum (Addr t) = datum.Long (pos 0)

-- so many of the topmost operands, the deepest first
abbrev pub data_in : ℕ → Operands → List Datum
data_in count o = map as_datum (reverse (take count o))

abbrev pub is_reference : Option Value → Bool
is_reference (Some (Ref r)) = true
is_reference _ = false

abbrev pub reference_in : Option Value → ℕ
reference_in (Some (Ref r)) = r
reference_in _ = 0

-- ---- what a step finds, by a view, or what is asked for where it is refused

abbrev pub found_as : {A B : Type 0} → (A → B) → Result A AbruptCompletion → Result B Outcome
found_as view (Ok x) = Ok (view x)
found_as view (Err e) = Err (abrupt_view e)

-- ---- the method

pub record Target : Type 0 where
  pub selected : Option MemberPlace
  pub args : List Datum

abbrev pub target_in : Operands → TheTarget → Target
target_in o t = record { selected = option_map chosen_place t.selected; args = data_in t.count o }

abbrev pub selecting_view : Chosen → Selecting
selecting_view chosen.Virtual = Virtual
selecting_view chosen.OfInterface = OfInterface
selecting_view (chosen.Special caller interface) = Special caller.now interface

-- the class in which an invokespecial stands is loaded
abbrev pub HasCaller : LinkerView → Selecting → Type 0
HasCaller l (Special caller interface) = (class : ℕ) → class_named l.program caller ≡ Some class → IsLoaded l class
HasCaller l Virtual = Unit {0}
HasCaller l OfInterface = Unit {0}

-- the class of a receiver that the instruction can take
abbrev pub receiver_class : Program → Selecting → Reference → HeapView → ℕ → Result ℕ Outcome
receiver_class p by r h object =
    receiver object (is_instance p h object r.class) (not_of_class by) >>= λ found. Ok (class_at_kind p (kind_at found h))

abbrev pub instance_target : Program → ℕ → Selecting → Reference → HeapView → Operands → Result Target Outcome
instance_target p kind by r h o =
    method_found p kind (names_interface by) false r >>= λ m. present (arguments_by true r.member o)
    >>= λ args. receiver_class p by r h (receiver_in args)
    >>= λ class. Ok (record { selected = selected_by p by m class; args = args })

-- what is asked for where a class has to be initialized before (5.5), or can not be used
abbrev pub unready_by : Program → ℕ → Option Phase → Option Outcome
unready_by p class (Some Ready) = None
unready_by p class (Some Running) = None
unready_by p class (Some Fresh) = Some (Initializes class)
unready_by p class (Some Erroneous) = Some (Raises no_class_definition (name_at p class))
unready_by p class None = Some (Raises no_class_definition (name_at p class))

abbrev pub unless_unready : {A : Type 0} → Option Outcome → Result A Outcome → Result A Outcome
unless_unready None next = next
unless_unready (Some outcome) next = Err outcome

abbrev pub static_target : Program → ℕ → Reference → Shared → Operands → Result Target Outcome
static_target p kind r s o =
    method_found p kind false true r >>= λ m. unless_unready (unready_by p m.class (phase_of s m.class)) (present (arguments_by false r.member o))
    >>= λ args. Ok (record { selected = Some m; args = args })

-- ---- and then

abbrev pub invokes_target : World → Result Target Outcome → Shared → Locals → Operands → Done
invokes_target w found s l o =
    unless_refused s found (λ t. invokes_selected w t.selected t.args s l (drop (length t.args) o))
