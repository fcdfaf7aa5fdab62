-- What is put of a session's swap list: the records of its swaps, one behind the other.
use Rattle.std.specs.Prelude.{◌≡◌, ℕ, ◌++◌, Bool, List, [], length, Result, Ok, Err, if◌then◌else◌}
use Rattle.std.specs.List.{flat_map}
use Rattle.const_pool.specs.Pool.{u4, u8}
use Rattle.byte_streams.specs.Streams.{PutsAll, PutsPrefix, Rose}
use Rattle.profile_session.specs.declared.swap.Swap.{Swap}
use Rattle.profile_session.specs.Sessions.{AreSwapsOf, Profiling, entries_of, swaps_of}
use Rattle.jfluid_cli.specs.declared.images.Unput.{Unput}
use Rattle.jfluid_cli.specs.declared.images.Unput.TheVariants.{Failed, NoMemory}
use Rattle.jfluid_cli.specs.Sinks.{SinkView}

-- the clock in eight bytes, the length of the image in four, and the image
abbrev pub swap_record : Swap → List ℕ
swap_record s = u8 s.clock ++ (u4 (length s.image) ++ s.image)

abbrev pub swap_records : List Swap → List ℕ
swap_records swaps = flat_map swap_record swaps

-- the records of the swap list so far, in order, where they are asked for
abbrev pub images_of : Bool → Profiling → List ℕ
images_of asked v = if asked then swap_records (swaps_of v) else []

-- records are not put only where a put failed, whose count rose, or memory ran out
abbrev pub UnputCause : {A : Type 0} → ℕ → ℕ → Result A Unput → Type 0
UnputCause old new (Ok answer) = new ≡ old
UnputCause old new (Err NoMemory) = new ≡ old
UnputCause old new (Err Failed) = Rose old new

-- All records that are asked for were put; each has the bytes that spell the image of its entry.
pub record IsImaged (asked : Bool) (v : Profiling) (old new : SinkView) : Type 0 where
  pub entries : AreSwapsOf v.program (entries_of v) (swaps_of v)
  pub put : PutsAll old.taken new.taken (images_of asked v)
  pub without_fault : new.faults ≡ old.faults

-- A put of them failed behind a front of them.
pub record IsUnimaged (asked : Bool) (v : Profiling) (old new : SinkView) : Type 0 where
  pub put : PutsPrefix old.taken new.taken (images_of asked v)
  pub failed : Rose old.faults new.faults
