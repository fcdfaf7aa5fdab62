-- What a caller sees of a buffer.
use Rattle.std.specs.Prelude.{ℕ, List, [], ◌∷◌, ◌++◌, length}
use Rattle.jvm_model.specs.declared.event.Event.{Event}
use Rattle.event_buffer.specs.Records.{record_of, records_of}

-- the events held, the one that is popped next first; the clock of the last event that was popped, at first 0; and the
-- most bytes that may be held
pub record Held : Type 0 where
  pub events : List Event
  pub popped : ℕ
  pub capacity : ℕ

abbrev pub clock_behind : ℕ → List Event → ℕ
clock_behind before [] = before
clock_behind before (event ∷ rest) = clock_behind event.clock rest

-- the clock of the last event that was pushed, at first 0
abbrev pub last_clock : Held → ℕ
last_clock held = clock_behind held.popped held.events

-- the bytes of the records held
abbrev pub used_of : Held → ℕ
used_of held = length (records_of held.popped held.events)

-- the bytes of the record that the event would have
abbrev pub length_of : Held → Event → ℕ
length_of held event = length (record_of (last_clock held) event)

-- nothing is held
abbrev pub empty : ℕ → Held
empty capacity = record { events = []; popped = 0; capacity = capacity }

abbrev pub event_pushed : Held → Event → Held
event_pushed held event = record { events = held.events ++ event ∷ []; popped = held.popped; capacity = held.capacity }

-- without the first event
abbrev pub rest_of : Held → List Event → Held
rest_of held [] = held
rest_of held (event ∷ rest) = record { events = rest; popped = event.clock; capacity = held.capacity }
