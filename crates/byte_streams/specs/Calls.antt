-- The calls of an object in memory, which are numbered from 1.
use Rattle.std.specs.Prelude.{◌+◌, ◌==◌, Bool, ℕ, List, min, if◌then◌else◌}
use Rattle.std.specs.List.{list_any}
use Rattle.byte_streams.specs.Streams.{greatest}
use Rattle.byte_streams.specs.declared.memory.Calls.{Calls}

-- no call so far, and these to fail
abbrev pub first_calls : List ℕ → Calls
first_calls failing = record { made = 0; failing = failing; faults = 0 }

-- the next call is one of those that are to fail
abbrev pub is_failing : Calls → Bool
is_failing calls = list_any (λ number. number == calls.made + 1) calls.failing

-- the calls after one more, which failed or did not
abbrev pub after_call : Calls → Bool → Calls
after_call calls failed = record calls {
  made = min (calls.made + 1) greatest;
  faults = if failed then min (calls.faults + 1) greatest else calls.faults;
}
