-- Loading classes (JVM Specification 5.3): which are loaded when a name is resolved, in order, and what stops it. A
-- class is loaded behind its superclass and its superinterfaces in order; each of these is looked at as soon as it is
-- loaded. What was loaded before a fault stays loaded.
use Rattle.std.specs.Prelude.{ℕ, zero, suc, ◌+◌, Bool, true, false, not, ◌&&◌, List, [], ◌∷◌, ◌++◌, length, Option, Some, None, map, codes, ◌==◌, if◌then◌else◌}
use Rattle.std.specs.Bool.{beq}
use Rattle.std.specs.List.{list_any}
use Rattle.std.specs.Option.{option_map_or, option_to_list}
use Rattle.const_pool.specs.declared.class.ClassFile.{ClassFile}
use Rattle.const_pool.specs.References.{named_class}
use Rattle.jvm_model.specs.declared.program.Program.{Program}
use Rattle.jvm_model.specs.Basis.SharedState.{no_class_definition}
use Rattle.jvm_model.specs.Basis.Programs.{class_at, class_named}
use Rattle.jvm_model.specs.Classes.Lookup.{incompatible_change, interface_names, is_interface}
use Rattle.jvm_model.specs.Classes.Kinds.{Element, Primitive, Named, is_array_name, meaning_of}

-- ---- what loading gives

-- what stops it: a name that is no class of the program, a class that is its own supertype (5.3.5), and a superclass
-- that is an interface or a superinterface that is none
pub data Fault : Type 0 where
  NoClass : List ℕ → Fault
  Circular : Fault
  Incompatible : Fault

abbrev pub circular_class : List ℕ
circular_class = codes "java/lang/ClassCircularityError"

-- the class of the error
abbrev pub error_of : Fault → List ℕ
error_of (NoClass name) = no_class_definition
error_of Circular = circular_class
error_of Incompatible = incompatible_change

-- the classes that are loaded then, and the fault, if there is one
pub record Loading : Type 0 where
  pub loaded : List ℕ
  pub fault : Option Fault

abbrev pub loading_done : List ℕ → Loading
loading_done loaded = record { loaded = loaded; fault = None }

abbrev pub loading_failed : List ℕ → Fault → Loading
loading_failed loaded fault = record { loaded = loaded; fault = Some fault }

abbrev pub unless : Option Fault → List ℕ → (List ℕ → Loading) → Loading
unless None loaded next = next loaded
unless (Some fault) loaded next = loading_failed loaded fault

-- without a fault it goes on
abbrev pub go_on : Loading → (List ℕ → Loading) → Loading
go_on l next = unless l.fault l.loaded next

-- ---- what a class needs

-- a name, and whether an interface has to have it
pub record Need : Type 0 where
  pub name : List ℕ
  pub interface : Bool

abbrev pub need : Bool → List ℕ → Need
need interface name = record { name = name; interface = interface }

-- its superclass, then its superinterfaces
abbrev pub class_needs : ClassFile → List Need
class_needs c = map (need false) (option_to_list (named_class c.pool c.super_class)) ++ map (need true) (interface_names c)

abbrev pub needs_of : Program → ℕ → List Need
needs_of p class = option_map_or class_needs (class_at p class) []

-- an array is neither a class nor an interface here
abbrev pub is_met : Program → Need → Bool
is_met p n = not (is_array_name n.name) && option_map_or (λ class. beq (is_interface p class) n.interface) (class_named p n.name) false

abbrev pub need_fault : Program → Need → Option Fault
need_fault p n = if is_met p n then None else Some Incompatible

-- ---- loading

-- one need after the other, each looked at as soon as it is loaded
abbrev pub load_needs : Program → (List ℕ → List ℕ → Loading) → List Need → List ℕ → Loading
load_needs p load [] loaded = loading_done loaded
load_needs p load (n ∷ rest) loaded =
    go_on (load n.name loaded) (λ after. unless (need_fault p n) after (load_needs p load rest))

-- how a name's class stands: there is none, it is loaded, it is being loaded, or it is to be loaded
pub data LoadState : Type 0 where
  Missing : LoadState
  There : LoadState
  Begun : LoadState
  Fresh : ℕ → LoadState

abbrev pub is_among : ℕ → List ℕ → Bool
is_among class classes = list_any (λ other. class == other) classes

abbrev pub load_state_of : List ℕ → List ℕ → Option ℕ → LoadState
load_state_of path loaded None = Missing
load_state_of path loaded (Some class) = if is_among class loaded then There else if is_among class path then Begun else Fresh class

abbrev pub by_load_state : LoadState → List ℕ → List ℕ → (ℕ → Loading) → Loading
by_load_state Missing name loaded load = loading_failed loaded (NoClass name)
by_load_state There name loaded load = loading_done loaded
by_load_state Begun name loaded load = loading_failed loaded Circular
by_load_state (Fresh class) name loaded load = load class

abbrev pub behind_needs : ℕ → Loading → Loading
behind_needs class l = go_on l (λ loaded. loading_done (loaded ++ class ∷ []))

-- an array's name loads its element's class; a primitive element none
abbrev pub load_element : Element → List ℕ → (List ℕ → Loading) → Loading
load_element (Primitive code) loaded load = loading_done loaded
load_element (Named name) loaded load = load name

-- The path has the classes that are being loaded. Each is another one, so the depth, one more than there are classes,
-- suffices.
abbrev pub load_named : Program → ℕ → List ℕ → List ℕ → List ℕ → Loading
load_named p zero path name loaded = loading_failed loaded Circular
load_named p (suc depth) path name loaded =
    load_element (meaning_of name).element loaded (λ class_name.
    by_load_state (load_state_of path loaded (class_named p class_name)) class_name loaded (λ class.
    behind_needs class (load_needs p (load_named p depth (path ++ class ∷ [])) (needs_of p class) loaded)))

-- what resolving a name loads, where these classes are loaded
abbrev pub load_of : Program → List ℕ → List ℕ → Loading
load_of p loaded name = load_named p (length p.classes + 1) [] name loaded
