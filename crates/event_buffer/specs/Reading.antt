-- The events that bytes spell.
use Rattle.std.specs.Prelude.{ℕ, zero, suc, ◌-◌, ◌+◌, ◌*◌, List, [], ◌∷◌, length, nat_lt, if◌then◌else◌}
use Rattle.jvm_model.specs.declared.event.Event.{Event}
use Rattle.jvm_model.specs.declared.event.EventKind.{EventKind}
use Rattle.jvm_model.specs.declared.event.EventKind.TheVariants.{Root, Enter, Leave, Unwind}

-- the number in LEB128 at the front
abbrev pub number_in : List ℕ → ℕ
number_in [] = 0
number_in (byte ∷ rest) = if nat_lt byte 128 then byte else (byte - 128) + 128 * number_in rest

-- what stands behind it
abbrev pub behind_number : List ℕ → List ℕ
behind_number [] = []
behind_number (byte ∷ rest) = if nat_lt byte 128 then rest else behind_number rest

abbrev pub kind_numbered : ℕ → EventKind
kind_numbered zero = Root
kind_numbered (suc zero) = Enter
kind_numbered (suc (suc zero)) = Leave
kind_numbered (suc (suc (suc n))) = Unwind

-- the event of a record that is this byte and what follows, behind an event of this clock
abbrev pub event_in : ℕ → ℕ → List ℕ → Event
event_in before kind rest = record {
  kind = kind_numbered kind;
  method = number_in rest;
  clock = before + number_in (behind_number rest);
}

-- so many events at most
abbrev pub events_within : ℕ → ℕ → List ℕ → List Event
events_within zero before bytes = []
events_within (suc more) before [] = []
events_within (suc more) before (kind ∷ rest) =
    event_in before kind rest ∷ events_within more (event_in before kind rest).clock (behind_number (behind_number rest))

-- no event has less than one byte
unfoldable pub events_in : ℕ → List ℕ → List Event
events_in before bytes = events_within (length bytes) before bytes
