-- What the bytes of a buffer are.
use Rattle.std.specs.Prelude.{◌≡◌, ℕ, ◌^◌, ◌<◌, ◌≤◌, List, [], ◌∷◌}
use Rattle.jvm_model.specs.declared.event.Event.{Event}
use Rattle.event_buffer.specs.Records.{records_of}
use Rattle.event_buffer.specs.Reading.{events_in}
use Rattle.event_buffer.specs.Buffers.{clock_behind}

-- no clock falls, and the numbers have their widths
pub record IsNext (before : ℕ) (event : Event) : Type 0 where
  pub later : before ≤ event.clock
  pub clock : event.clock < 2 ^ 64
  pub method : event.method < 2 ^ 32

abbrev pub AreInOrder : ℕ → List Event → Type 0
AreInOrder before [] = Unit
AreInOrder before (event ∷ rest) = IsNext before event × AreInOrder event.clock rest

-- the bytes are the records of events in order, behind one that was popped, up to the one that was pushed last
pub record AreRecords (popped last : ℕ) (bytes : List ℕ) : Type 0 where
  pub spelled : bytes ≡ records_of popped (events_in popped bytes)
  pub ordered : AreInOrder popped (events_in popped bytes)
  pub until : last ≡ clock_behind popped (events_in popped bytes)
