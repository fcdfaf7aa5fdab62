-- What objects in memory hold, and what each call does to it.
use Rattle.std.specs.Prelude.{◌+◌, ◌-◌, ◌/◌, ◌++◌, ◌||◌, ℕ, Bool, true, false, min, List, [], length, take, drop, is_none, nat_lt, if◌then◌else◌, Result, Ok, Err}
use Rattle.byte_streams.specs.Streams.{Told, contents_at}
use Rattle.byte_streams.specs.Calls.{first_calls, is_failing, after_call}
use Rattle.byte_streams.specs.declared.memory.Calls.{Calls}
use Rattle.byte_streams.specs.declared.error.FetchError.{FetchError}
use Rattle.byte_streams.specs.declared.error.FetchError.TheVariants.{Failed, NoMemory}

-- what is left of a source, and its calls
pub record SourceView : Type 0 where
  pub left : List ℕ
  pub calls : Calls

-- a take gives as many bytes as the buffer and what is left allow
abbrev pub take_count : SourceView → ℕ → ℕ
take_count source room = min room (length source.left)

-- a source after a take into a buffer of that length
abbrev pub after_take : SourceView → ℕ → SourceView
after_take source room =
    let failed = is_failing source.calls in
    record {
      left = if failed then source.left else drop (take_count source room) source.left;
      calls = after_call source.calls failed;
    }

-- what a sink has taken, how many bytes it has room for in all, and its calls
pub record SinkView : Type 0 where
  pub bytes : List ℕ
  pub room : ℕ
  pub calls : Calls

-- a sink with that room, which has taken nothing, and whose puts of these numbers are to fail
abbrev pub empty_sink : ℕ → List ℕ → SinkView
empty_sink room failing = record { bytes = []; room = room; calls = first_calls failing }

-- a put fails where its number says so, and where the bytes do not fit
abbrev pub put_fails : SinkView → List ℕ → Bool
put_fails sink bytes = is_failing sink.calls || nat_lt sink.room (length sink.bytes + length bytes)

-- how many bytes a put appends: all of them, or the first half where its number says that it fails, as far as they fit
abbrev pub put_count : SinkView → List ℕ → ℕ
put_count sink bytes =
    min (if is_failing sink.calls then length bytes / 2 else length bytes) (sink.room - length sink.bytes)

-- a sink after a put of these bytes
abbrev pub after_put : SinkView → List ℕ → SinkView
after_put sink bytes = record sink {
  bytes = sink.bytes ++ take (put_count sink bytes) bytes;
  calls = after_call sink.calls (put_fails sink bytes);
}

-- the files, the calls, and the name of the last fetch that failed
pub record FilesView : Type 0 where
  pub contents : Told
  pub calls : Calls
  pub last_failed : List ℕ

-- a fetch fails where its number says so, and where no file has the name
abbrev pub fetch_fails : FilesView → List ℕ → Bool
fetch_fails files name = is_failing files.calls || is_none (contents_at files.contents name)

-- the answer is a fault
abbrev pub is_fault : {A : Type 0} → Result A FetchError → Bool
is_fault (Ok bytes) = false
is_fault (Err NoMemory) = false
is_fault (Err Failed) = true

-- files after a fetch that was or was not a fault
abbrev pub after_fetch : FilesView → List ℕ → Bool → FilesView
after_fetch files name failed = record files {
  calls = after_call files.calls failed;
  last_failed = if failed then name else files.last_failed;
}
