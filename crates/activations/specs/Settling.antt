-- What the moves of a run do to the parts of a machine: a throw goes to a handler or ends activations, and `main`
-- begins (JVM Specification 2.10, 5.2).
use Rattle.std.specs.Prelude.{ℕ, Bool, true, false, List, [], ◌∷◌, Some, None, nat_le, if◌then◌else◌}
use Rattle.std.specs.Option.{option_map_or}
use Rattle.heap_objects.specs.declared.Value.TheVariants.{Ref}
use Rattle.frame_stack.specs.FrameLists.{PlacedFrame}
use Rattle.jvm_model.specs.declared.state.State.{State}
use Rattle.jvm_model.specs.declared.state.Entry.{Entry}
use Rattle.jvm_model.specs.declared.state.Entry.TheVariants.{Active}
use Rattle.jvm_model.specs.Basis.Data.{Instruction, Turn}
use Rattle.jvm_model.specs.Running.Applies.{goes, new_frame}
use Rattle.jvm_model.specs.Running.Moves.{argument_array, move, own_at}
use Rattle.prepared_code.specs.declared.parts.Parts.{Parts}
use Rattle.prepared_code.specs.declared.parts.Here.{Here}
use Rattle.prepared_code.specs.States.{frame_in, state_in, state_with}
use Rattle.prepared_code.specs.Tables.{Versions}
use Rattle.prepared_code.specs.Versions.{Setup, listing_of}

-- ---- the operands of the current frame

abbrev pub frame_emptied : List PlacedFrame → List PlacedFrame
frame_emptied [] = []
frame_emptied (f ∷ fs) = record f { operands = [] } ∷ fs

-- there is room for an object alone
abbrev pub fits_alone : List PlacedFrame → Bool
fits_alone [] = false
fits_alone (f ∷ fs) = nat_le 1 f.max_stack

-- an object in the place of the operands, where there is room for it
abbrev pub with_alone : ℕ → List PlacedFrame → List PlacedFrame
with_alone r [] = []
with_alone r (f ∷ fs) = if nat_le 1 f.max_stack then record f { operands = Ref r ∷ [] } ∷ fs else f ∷ fs

-- ---- a throw meets the current frame

-- the offset of the instruction at which it stands
abbrev pub own_of : Versions → Here → ℕ
own_of v here = option_map_or (λ (i : Instruction). i.own) ((listing_of v).at here.version here.place) 0

-- it goes on at a handler's target, with the object alone on its operands
abbrev pub caught_at : Setup → ℕ → ℕ → List PlacedFrame → Parts → State
caught_at w r target [] p = state_in p
caught_at w r target (f ∷ fs) p =
    goes (record (state_with fs p) { thrown = None }) (frame_in f) (own_at (listing_of w.versions) (frame_in f)) f.locals (Ref r ∷ []) (Some target)

-- ---- `main` begins

-- the one entry of the stack, if it has a local for its argument
abbrev pub main_entries : Bool → Setup → List Entry
main_entries true w = Active (new_frame w.world (listing_of w.versions) w.world.program.main argument_array) ∷ []
main_entries false w = []

-- ---- every move

-- the state after a move, or the same one where none applies
abbrev pub after_move : Setup → State → State
after_move w s = option_map_or (λ (turn : Turn). turn.after) (move w.world (listing_of w.versions) s) s
