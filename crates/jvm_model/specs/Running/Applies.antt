-- What becomes of a state by an outcome: one function, for all instructions (JVM Specification 2.6, 2.6.4, 2.6.5, 2.10,
-- 2.17).
use Rattle.std.specs.Prelude.{ℕ, suc, Bool, true, false, List, [], ◌∷◌, length, Option, Some, None, slice_get, nat_le, nat_lt, if◌then◌else◌}
use Rattle.std.specs.Option.{option_map}
use Rattle.heap_objects.specs.declared.Value.TheVariants.{Addr}
use Rattle.frame_stack.specs.Widths.{height_of}
use Rattle.jvm_model.specs.Basis.Data.{Datum, Locals, Operands, Frame, Entry, Active, Initializing, Constants, Running, Exited, Unverifiable, State, Began, Left, Turn, Instruction, Listing, Where, Next, Target, Back, Outcome, GoesOn, Subroutine, Invokes, Returns, Throws, Raises, Initializes, Exits, Breaks, World}
use Rattle.jvm_model.specs.Basis.Values.{as_value, arguments_spread, locals_with, with_value}
use Rattle.jvm_model.specs.Basis.Programs.{max_stack_of, max_locals_of}
use Rattle.jvm_model.specs.Basis.SharedState.{with_phase, Allocated, exception_raised, stack_overflow}

abbrev pub still : State → Turn
still s = record { after = s; changes = [] }

abbrev pub with_frame : State → Frame → State
with_frame s f = record s { stack = Active f ∷ s.stack }

-- the run ends at this frame's instruction, and its activation stays live
abbrev pub breaks : State → Frame → ℕ → State
breaks s f own = record s { stack = Active f ∷ s.stack; ending = Some (Unverifiable f.method own) }

-- The frame goes on with these locals and operands, at a place, unless they are deeper than its limit (4.9.2): then the
-- run ends at the instruction at which it stood before, whose original offset is given, and the frame stays as it was.
abbrev pub goes : State → Frame → ℕ → Locals → Operands → Option ℕ → State
goes s f own l o None = breaks s f own
goes s f own l o (Some place) =
    if nat_le (height_of o) f.max_stack then with_frame s (record f { place = place; locals = l; operands = o }) else breaks s f own

abbrev pub place_of : Instruction → Where → Option ℕ
place_of i Next = i.next
place_of i (Target k) = slice_get i.targets k
place_of i (Back place) = Some place

-- the place behind the instruction is the return address
abbrev pub enters_subroutine : State → Frame → Instruction → Option ℕ → State
enters_subroutine s f i None = breaks s f i.own
enters_subroutine s f i (Some next) = goes s f i.own f.locals (Addr next ∷ f.operands) (slice_get i.targets 0)

-- ---- invocation and return (2.6, 2.6.4)

abbrev pub new_frame : World → Listing → ℕ → List Datum → Frame
new_frame w t m args = record {
  method = m;
  version = t.current m;
  place = t.first (t.current m);
  locals = locals_with args (max_locals_of w m);
  operands = [];
  max_locals = max_locals_of w m;
  max_stack = max_stack_of w m;
}

abbrev pub throws_at : State → Frame → Allocated → State
throws_at s f a = record s { stack = Active f ∷ s.stack; shared = a.shared; thrown = Some a.reference }

abbrev pub has_room : World → ℕ → List Datum → Bool
has_room w m args = nat_le (length (arguments_spread args)) (max_locals_of w m)

-- the caller stays at its instruction without the arguments
abbrev pub begins : World → Listing → State → Frame → ℕ → List Datum → Operands → Turn
begins w t s f m args below = record { after = with_frame (with_frame s (record f { operands = below })) (new_frame w t m args); changes = Began m ∷ [] }

-- how many activations are live
abbrev pub live_in : List Entry → ℕ
live_in [] = 0
live_in (Active f ∷ below) = suc (live_in below)
live_in (Initializing c part ∷ below) = live_in below

-- one more would be too many
abbrev pub most_live : ℕ
most_live = 1024

-- beside so many others, the caller's own among them
abbrev pub begins_beside : World → Listing → State → Frame → ℕ → List Datum → Operands → ℕ → Turn
begins_beside w t s f m args below live =
    if nat_lt live most_live then begins w t s f m args below
    else still (throws_at s f (exception_raised w s.shared stack_overflow None))

abbrev pub invocation_turn : World → Listing → Instruction → State → Frame → ℕ → List Datum → Operands → Turn
invocation_turn w t i s f m args below =
    if has_room w m args then begins_beside w t s f m args below (suc (live_in s.stack)) else still (breaks s f i.own)

-- the caller goes on behind its instruction, with the result on top
abbrev pub resumes : State → Frame → Option Datum → Option Instruction → State
resumes s caller d None = breaks s caller 0
resumes s caller d (Some i) = goes s caller i.own caller.locals (with_value (option_map as_value d) caller.operands) i.next

-- the current frame is off; an initialization goes on by itself
abbrev pub gives_back : Listing → State → Option Datum → List Entry → State
gives_back t s d [] = s
gives_back t s d (Initializing c part ∷ below) = s
gives_back t s d (Active caller ∷ below) = resumes (record s { stack = below }) caller d (t.at caller.version caller.place)

-- ---- every outcome

-- a return's activation ends
abbrev pub breaks_or_ends : Bool → State → Frame → ℕ → Turn
breaks_or_ends true s f own = record { after = record s { ending = Some (Unverifiable f.method own) }; changes = Left ∷ [] }
breaks_or_ends false s f own = still (breaks s f own)

-- from the state without the current frame, and that frame
abbrev pub applies : World → Listing → Instruction → Outcome → State → Frame → Turn
applies w t i (GoesOn l o to) s f = still (goes s f i.own l o (place_of i to))
applies w t i Subroutine s f = still (enters_subroutine s f i i.next)
applies w t i (Invokes m args below) s f = invocation_turn w t i s f m args below
applies w t i (Returns d) s f = record { after = gives_back t s d s.stack; changes = Left ∷ [] }
applies w t i (Throws r) s f = still (throws_at s f (record { shared = s.shared; reference = r }))
applies w t i (Raises c message) s f = still (throws_at s f (exception_raised w s.shared c message))
applies w t i (Initializes c) s f = still (record s { stack = Initializing c Constants ∷ Active f ∷ s.stack; shared = with_phase s.shared c Running })
applies w t i (Exits n) s f = still (record s { stack = Active f ∷ s.stack; ending = Some (Exited n) })
applies w t i (Breaks ends) s f = breaks_or_ends ends s f i.own
