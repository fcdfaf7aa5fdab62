-- Instructions that see their frame alone, or objects, ask for nothing of a program: no method begins and no class is
-- initialized, and what they raise is of a built-in class.
use Rattle.std.proofs.Common.{ℕ, Bool, true, false, List, [], ◌∷◌, refl}
use Rattle.std.specs.Prelude.{Option, Some, None, ℤ, ◌==◌, ◌&&◌, if◌then◌else◌}
use Rattle.heap_objects.specs.declared.datum.Datum.{Datum}
use Rattle.heap_objects.specs.declared.Value.{Value}
use Rattle.heap_objects.specs.declared.Value.TheVariants.{Int, Long, Ref, Addr}
use Rattle.const_pool.specs.declared.descriptor.Kind.{Kind}
use Rattle.jvm_model.specs.Basis.Data.{Program, Shared, Locals, Operands, Local, Nop, Constant, Load, Store, ManageStack, BinaryOfInts, BinaryOfLongs, DivisionOfInts, DivisionOfLongs, ShiftOfLong, UnaryOfInt, UnaryOfLong, Lcmp, Iinc, Branch, Goto, Switch, Jsr, Ret, Return, Keys, Outcome, GoesOn, Subroutine, Invokes, Next, Throws, Raises, Returns, Initializes, Exits, Breaks, World}
use Rattle.jvm_model.specs.Instructions.LocalRules.{divides_these, goes_back, goes_if, holds, increments, leaves, pushes, replaces, returns, returns_datum, stores, switches_on, tests, within}
use Rattle.jvm_model.specs.Classes.Lookup.{is_below}
use Rattle.jvm_model.specs.Instructions.ObjectRules.{Access, ToNull, ToAnother, Outside, Inside, access_to, loads_at, loads_element, measures, access_refused, throws, watches}
use Rattle.jvm_model.specs.Basis.SharedState.{class_of, null_pointer, throwable}
use Rattle.jvm_model.specs.Basis.StackForms.{forms_of}
use Rattle.jvm_model.specs.Basis.Values.{managed_stack, datum_of, int_of, is_storable, has_slots, local_in, local_stored}
use Rattle.jvm_model.specs.Soundness.Climbing.{Begins}
use Rattle.jvm_model.specs.Soundness.Sound.{IsBuiltInName, IsSoundOutcome}

-- ---- what asks for nothing

abbrev pub IsIdle : Outcome → Type 0
IsIdle (Invokes method args below) = ⊥
IsIdle (Initializes class) = ⊥
IsIdle (Raises name message) = IsBuiltInName name
IsIdle o = Unit {0}

pub idle-sound : (p : Program) (loaded : List ℕ) (outcome : Outcome) → IsIdle outcome → IsSoundOutcome p loaded outcome
idle-sound p loaded (GoesOn l o to) idle = tt
idle-sound p loaded Subroutine idle = tt
idle-sound p loaded (Invokes method args below) idle = absurd idle
idle-sound p loaded (Returns d) idle = tt
idle-sound p loaded (Throws r) idle = tt
idle-sound p loaded (Raises name message) idle = idle
idle-sound p loaded (Initializes class) idle = absurd idle
idle-sound p loaded (Exits code) idle = tt
idle-sound p loaded (Breaks ended) idle = tt

pub idle-begins : (p : Program) (loaded ms : List ℕ) (outcome : Outcome) → IsIdle outcome → Begins p loaded ms outcome
idle-begins p loaded ms (GoesOn l o to) idle = tt
idle-begins p loaded ms Subroutine idle = tt
idle-begins p loaded ms (Invokes method args below) idle = absurd idle
idle-begins p loaded ms (Returns d) idle = tt
idle-begins p loaded ms (Throws r) idle = tt
idle-begins p loaded ms (Raises name message) idle = tt
idle-begins p loaded ms (Initializes class) idle = absurd idle
idle-begins p loaded ms (Exits code) idle = tt
idle-begins p loaded ms (Breaks ended) idle = tt

-- ---- instructions that see their frame alone

pushes-idle : (v : Option Value) (l : Locals) (o : Operands) → IsIdle (pushes v l o)
pushes-idle None l o = tt
pushes-idle (Some v) l o = tt

replaces-idle : (taken : ℕ) (v : Option Value) (l : Locals) (o : Operands) → IsIdle (replaces taken v l o)
replaces-idle taken None l o = tt
replaces-idle taken (Some v) l o = tt

leaves-idle : (o : Option Operands) (l : Locals) → IsIdle (leaves o l)
leaves-idle None l = tt
leaves-idle (Some o) l = tt

stores-idle : (k : Kind) (slot : ℕ) (l : Locals) (o : Operands) → IsIdle (stores k slot l o)
stores-idle k slot l [] = tt
stores-idle k slot l (v ∷ below) = by (is_storable k v && has_slots l slot v)
  where
    by : (b : Bool) → IsIdle (if b then GoesOn (local_stored l slot v) below Next else Breaks false)
    by true = tt
    by false = tt

increments-idle : (slot : ℕ) (d : ℤ) (v : Option Value) (l : Locals) (o : Operands) → IsIdle (increments slot d v l o)
increments-idle slot d None l o = tt
increments-idle slot d (Some (Int n)) l o = tt
increments-idle slot d (Some (Long n)) l o = tt
increments-idle slot d (Some (Ref r)) l o = tt
increments-idle slot d (Some (Addr t)) l o = tt

divides-idle : (v : Option (Option Value)) (l : Locals) (o : Operands) → IsIdle (divides_these v l o)
divides-idle None l o = tt
divides-idle (Some None) l o = refl
divides-idle (Some (Some v)) l o = tt

goes-if-idle : (b : Option Bool) (taken : ℕ) (l : Locals) (o : Operands) → IsIdle (goes_if b taken l o)
goes-if-idle None taken l o = tt
goes-if-idle (Some b) taken l o = tt

switches-idle : (keys : Keys) (n : Option ℤ) (l : Locals) (o : Operands) → IsIdle (switches_on keys n l o)
switches-idle keys None l o = tt
switches-idle keys (Some n) l o = tt

goes-back-idle : (v : Option Value) (l : Locals) (o : Operands) → IsIdle (goes_back v l o)
goes-back-idle None l o = tt
goes-back-idle (Some (Int n)) l o = tt
goes-back-idle (Some (Long n)) l o = tt
goes-back-idle (Some (Ref r)) l o = tt
goes-back-idle (Some (Addr t)) l o = tt

returns-idle : (k : Option Kind) (o : Operands) → IsIdle (returns k o)
returns-idle None o = tt
returns-idle (Some k) [] = tt
returns-idle (Some k) (v ∷ below) = by (datum_of k v)
  where
    by : (d : Option Datum) → IsIdle (returns_datum d)
    by None = tt
    by (Some d) = tt

pub within-idle : (i : Local) (l : Locals) (o : Operands) → IsIdle (within i l o)
within-idle Nop l o = tt
within-idle (Constant d) l o = tt
within-idle (Load k slot) l o = pushes-idle _ l o
within-idle (Store k slot) l o = stores-idle k slot l o
within-idle (ManageStack op) l o = leaves-idle (managed_stack (forms_of op) o) l
within-idle (BinaryOfInts op) l o = replaces-idle 2 _ l o
within-idle (BinaryOfLongs op) l o = replaces-idle 2 _ l o
within-idle (DivisionOfInts op) l o = divides-idle _ l o
within-idle (DivisionOfLongs op) l o = divides-idle _ l o
within-idle (ShiftOfLong op) l o = replaces-idle 2 _ l o
within-idle (UnaryOfInt op) l o = replaces-idle 1 _ l o
within-idle (UnaryOfLong op) l o = replaces-idle 1 _ l o
within-idle Lcmp l o = replaces-idle 2 _ l o
within-idle (Iinc slot d) l o = increments-idle slot d (local_in l slot) l o
within-idle (Branch test) l o = goes-if-idle (holds test o) (tests test) l o
within-idle Goto l o = tt
within-idle (Switch keys) l o = switches-idle keys (int_of o) l o
within-idle Jsr l o = tt
within-idle (Ret slot) l o = goes-back-idle (local_in l slot) l o
within-idle (Return k) l o = returns-idle k o

-- ---- instructions that see objects

null-idle : (null : Bool) (otherwise : Outcome) → IsIdle otherwise → IsIdle (let outcome : Outcome = if null then Raises null_pointer None else otherwise in outcome)
null-idle true otherwise idle = refl
null-idle false otherwise idle = idle

pub throws-idle : (w : World) (s : Shared) (r : Option ℕ) → IsIdle (throws w s r)
throws-idle w s None = tt
throws-idle w s (Some r) = null-idle (r == 0) _ (by (is_below w.program (class_of w.program s r) throwable))
  where
    by : (b : Bool) → IsIdle (if b then Throws r else Breaks false)
    by true = tt
    by false = tt

pub watches-idle : (r : Option ℕ) (l : Locals) (o : Operands) → IsIdle (watches r l o)
watches-idle None l o = tt
watches-idle (Some r) l o = null-idle (r == 0) _ tt

pub measures-idle : (r : Option ℕ) (s : Shared) (l : Locals) (o : Operands) → IsIdle (measures r s l o)
measures-idle None s l o = tt
measures-idle (Some r) s l o = null-idle (r == 0) _ (replaces-idle 1 _ l o)

pub refused-idle : (access : Access) (i : ℤ) → IsIdle (access_refused access i)
refused-idle ToNull i = refl
refused-idle ToAnother i = tt
refused-idle Outside i = refl
refused-idle (Inside slot) i = tt

loads-idle : (access : Access) (r : ℕ) (i : ℤ) (s : Shared) (l : Locals) (o : Operands) → IsIdle (loads_at access r i s l o)
loads-idle (Inside slot) r i s l o = replaces-idle 2 _ l o
loads-idle ToNull r i s l o = refused-idle ToNull i
loads-idle ToAnother r i s l o = refused-idle ToAnother i
loads-idle Outside r i s l o = refused-idle Outside i

pub element-idle : (k : Kind) (at : Option (ℕ × ℤ)) (s : Shared) (l : Locals) (o : Operands) → IsIdle (loads_element k at s l o)
element-idle k None s l o = tt
element-idle k (Some at) s l o = loads-idle (access_to k at.0 at.1 s.heap) at.0 at.1 s l o
