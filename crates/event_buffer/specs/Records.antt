-- An event as bytes.
use Rattle.std.specs.Prelude.{ℕ, zero, suc, ◌-◌, ◌+◌, ◌/◌, ◌%◌, List, [], ◌∷◌, ◌++◌, nat_lt, if◌then◌else◌}
use Rattle.jvm_model.specs.declared.event.Event.{Event}
use Rattle.jvm_model.specs.declared.event.EventKind.{EventKind}
use Rattle.jvm_model.specs.declared.event.EventKind.TheVariants.{Root, Enter, Leave, Unwind}

-- seven bits a byte, the low ones first, in at most so many bytes and one more; the top bit says that more follow
abbrev pub leb128_within : ℕ → ℕ → List ℕ
leb128_within zero n = n ∷ []
leb128_within (suc more) n = if nat_lt n 128 then n ∷ [] else (n % 128 + 128) ∷ leb128_within more (n / 128)

-- unsigned LEB128: no number has more bytes than it counts
unfoldable pub leb128 : ℕ → List ℕ
leb128 n = leb128_within n n

abbrev pub kind_number : EventKind → ℕ
kind_number Root = 0
kind_number Enter = 1
kind_number Leave = 2
kind_number Unwind = 3

-- the record of an event, where the event pushed before has this clock
abbrev pub record_of : ℕ → Event → List ℕ
record_of before event = kind_number event.kind ∷ (leb128 event.method ++ leb128 (event.clock - before))

-- the records of events, one behind the other
abbrev pub records_of : ℕ → List Event → List ℕ
records_of before [] = []
records_of before (event ∷ rest) = record_of before event ++ records_of event.clock rest
