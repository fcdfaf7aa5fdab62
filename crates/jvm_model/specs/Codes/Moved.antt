-- The same state elsewhere: each frame at the home of its place in another version, and each return address at its
-- home.
use Rattle.std.specs.Prelude.{◌≡◌, ℕ, ◌<◌, List, [], ◌∷◌, map, Option}
use Rattle.std.specs.Option.{option_map}
use Rattle.heap_objects.specs.declared.Value.TheVariants.{Int, Long, Ref, Addr}
use Rattle.jvm_model.specs.Basis.Data.{Value, Locals, Operands, Frame, Entry, Active, Initializing, State, Turn, Instruction, Catcher, Listing, Where, Next, Target, Back, Outcome, GoesOn, Subroutine, Invokes, Returns, Throws, Raises, Initializes, Exits, Breaks, Done}

-- which version stands for a version, and where each place of it stands
pub record Moving : Type 0 where
  pub version : ℕ → ℕ
  pub home : ℕ → ℕ → ℕ

abbrev pub moved_value : (ℕ → ℕ) → Value → Value
moved_value h (Int n) = Int n
moved_value h (Long n) = Long n
moved_value h (Ref r) = Ref r
moved_value h (Addr place) = Addr (h place)

abbrev pub moved_slot : (ℕ → ℕ) → Option Value → Option Value
moved_slot h v = option_map (moved_value h) v

abbrev pub moved_locals : (ℕ → ℕ) → Locals → Locals
moved_locals h l = map (moved_slot h) l

abbrev pub moved_operands : (ℕ → ℕ) → Operands → Operands
moved_operands h o = map (moved_value h) o

abbrev pub moved_where : (ℕ → ℕ) → Where → Where
moved_where h Next = Next
moved_where h (Target k) = Target k
moved_where h (Back place) = Back (h place)

-- arguments and results have no return address
abbrev pub moved_outcome : (ℕ → ℕ) → Outcome → Outcome
moved_outcome h (GoesOn l o to) = GoesOn (moved_locals h l) (moved_operands h o) (moved_where h to)
moved_outcome h Subroutine = Subroutine
moved_outcome h (Invokes m args below) = Invokes m args (moved_operands h below)
moved_outcome h (Returns d) = Returns d
moved_outcome h (Throws r) = Throws r
moved_outcome h (Raises c m) = Raises c m
moved_outcome h (Initializes c) = Initializes c
moved_outcome h (Exits n) = Exits n
moved_outcome h (Breaks ends) = Breaks ends

abbrev pub moved_done : (ℕ → ℕ) → Done → Done
moved_done h d = record d { outcome = moved_outcome h d.outcome }

abbrev pub moved_frame : Moving → Frame → Frame
moved_frame m f = record f {
  version = m.version f.version;
  place = m.home f.version f.place;
  locals = moved_locals (m.home f.version) f.locals;
  operands = moved_operands (m.home f.version) f.operands;
}

abbrev pub moved_entry : Moving → Entry → Entry
moved_entry m (Active f) = Active (moved_frame m f)
moved_entry m (Initializing c part) = Initializing c part

abbrev pub moved_stack : Moving → List Entry → List Entry
moved_stack m stack = map (moved_entry m) stack

abbrev pub state_moved : Moving → State → State
state_moved m s = record s { stack = moved_stack m s.stack }

abbrev pub moved_turn : Moving → Turn → Turn
moved_turn m a = record a { after = state_moved m a.after }

abbrev pub moved_instruction : (ℕ → ℕ) → Instruction → Instruction
moved_instruction h i = record i { next = option_map h i.next; targets = map h i.targets }

abbrev pub moved_catcher : (ℕ → ℕ) → Catcher → Catcher
moved_catcher h c = record c { start = h c.start; finish = h c.finish; target = h c.target }

-- ---- listings that agree

-- The places where a frame can stand are those that `norm` leaves as they are: starts of instructions, and the end.
abbrev pub IsPlace : (ℕ → ℕ → ℕ) → ℕ → ℕ → Type 0
IsPlace norm v at = norm v at ≡ at

abbrev pub ArePlaces : (ℕ → ℕ → ℕ) → List Entry → Type 0
ArePlaces norm [] = Unit {0}
ArePlaces norm (Active f ∷ below) = IsPlace norm f.version f.place × ArePlaces norm below
ArePlaces norm (Initializing c part ∷ below) = ArePlaces norm below

abbrev pub HaveBounds : (ℕ → ℕ → ℕ) → ℕ → List Catcher → Type 0
HaveBounds norm v [] = Unit {0}
HaveBounds norm v (h ∷ more) = IsPlace norm v h.start × IsPlace norm v h.finish × HaveBounds norm v more

-- The second listing has the lines and handlers of the first by homes, which rise strictly over the places where there
-- are handlers.
pub record IsMovedListing (norm : ℕ → ℕ → ℕ) (m : Moving) (t u : Listing) : Type 0 where
  pub current : (k : ℕ) → u.current k ≡ m.version (t.current k)
  pub first : (v : ℕ) → u.first (m.version v) ≡ m.home v (t.first v)
  pub lines : (v at : ℕ) → IsPlace norm v at → u.at (m.version v) (m.home v at) ≡ option_map (moved_instruction (m.home v)) (t.at v at)
  pub handlers : (v : ℕ) → u.handlers (m.version v) ≡ map (moved_catcher (m.home v)) (t.handlers v)
  pub bounds : (v : ℕ) → HaveBounds norm v (t.handlers v)
  pub rises : (v a b : ℕ) → (t.handlers v ≡ [] → ⊥) → IsPlace norm v a → IsPlace norm v b → a < b → m.home v a < m.home v b

-- ---- placed states

-- each place as `norm` has it
abbrev pub at_homes : (ℕ → ℕ → ℕ) → Moving
at_homes norm = record { version = λ v. v; home = norm }

-- its frames stand at places, and all its return addresses are places
abbrev pub IsPlaced : (ℕ → ℕ → ℕ) → State → Type 0
IsPlaced norm s = moved_stack (at_homes norm) s.stack ≡ s.stack
