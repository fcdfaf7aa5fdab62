-- A throw that the caller of the current frame catches (JVM Specification 2.10).
use Rattle.std.specs.Prelude.{◌≡◌, ℕ, ◌-◌, Bool, true, false, List, [], ◌∷◌, length, nat_le, Option, Some, None}
use Rattle.heap_objects.specs.declared.Value.TheVariants.{Ref}
use Rattle.frame_stack.specs.FrameLists.{PlacedFrame}
use Rattle.method_versions.specs.Tables.{is_superseded_in}
use Rattle.jvm_model.specs.Running.Moves.{handler_for}
use Rattle.prepared_code.specs.declared.initializations.Initialization.{Initialization}
use Rattle.jvm_model.specs.declared.event.Mark.TheVariants.{Off}
use Rattle.prepared_code.specs.declared.parts.Here.{Here}
use Rattle.prepared_code.specs.Initializations.{initialization_on}
use Rattle.prepared_code.specs.Versions.{Setup, mark_of, listing_of}

-- the frames where the top one is off, and its caller goes on at a handler, with the object alone on its operands
abbrev pub caught_back : ℕ → ℕ → List PlacedFrame → List PlacedFrame
caught_back r target (f ∷ g ∷ fs) = record g { place = target; operands = Ref r ∷ [] } ∷ fs
caught_back r target fs = fs

-- there is a caller, and it has room for an object
abbrev pub fits_caught : List PlacedFrame → Bool
fits_caught (f ∷ g ∷ fs) = nat_le 1 g.max_stack
fits_caught fs = false

-- where the caller goes on when an object of this class is thrown by what it invoked
abbrev pub caller_target : Setup → ℕ → List PlacedFrame → Option ℕ
caller_target w class (f ∷ g ∷ fs) = handler_for w.world class g.place ((listing_of w.versions).handlers g.version)
caller_target w class fs = None

-- the caller of a frame in this place, and not that frame itself, catches objects of this class, of which nothing is
-- told
pub record CatchesBelow (w : Setup) (ms : List Initialization) (here : Here) (fs : List PlacedFrame) (class target : ℕ) : Type 0 where
  pub own : handler_for w.world class here.place ((listing_of w.versions).handlers here.version) ≡ None
  pub caller : caller_target w class fs ≡ Some target
  pub executing : initialization_on (length fs - 1) ms ≡ None
  pub off : mark_of w.versions here.version ≡ Off
  pub current : is_superseded_in w.versions.slots w.versions.current here.version ≡ false

abbrev pub caught_if : Bool → ℕ → ℕ → List PlacedFrame → List PlacedFrame
caught_if true r target fs = caught_back r target fs
caught_if false r target fs = fs
