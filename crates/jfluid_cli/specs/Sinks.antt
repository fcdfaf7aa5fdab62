-- What clauses see of a call's devices: sinks, source and files.
use Rattle.std.specs.Prelude.{◌≡◌, ℕ, ◌⊎◌, List, Option, Some, slice_get}
use Rattle.byte_streams.specs.Streams.{Told, PutsAll, PutsPrefix, Rose}

-- ---- a sink

-- what was put to a sink, where it tells it, and its count of faults
pub record SinkView : Type 0 where
  pub taken : Option (List ℕ)
  pub faults : ℕ

abbrev pub sink_view : Option (List ℕ) → ℕ → SinkView
sink_view bytes n = record { taken = bytes; faults = n }

-- Nothing was put, and no put failed.
pub record IsUntold (old new : SinkView) : Type 0 where
  pub taken : new.taken ≡ old.taken
  pub faults : new.faults ≡ old.faults

-- These bytes were put, or a front of them where the count of faults rose.
pub record PutsOrRose (old new : SinkView) (bytes : List ℕ) : Type 0 where
  pub prefix : PutsPrefix old.taken new.taken bytes
  pub whole : PutsAll old.taken new.taken bytes ⊎ Rose old.faults new.faults

-- ---- the source of input

-- what a source has left, where it tells it, and its count of faults
pub record SourceView : Type 0 where
  pub left : Option (List ℕ)
  pub faults : ℕ

abbrev pub source_view : Option (List ℕ) → ℕ → SourceView
source_view bytes n = record { left = bytes; faults = n }

-- ---- the files

-- the files' count of faults, and the name of the last fetch that failed
pub record FilesView : Type 0 where
  pub faults : ℕ
  pub last_failed : List ℕ

abbrev pub files_view : ℕ → List ℕ → FilesView
files_view n name = record { faults = n; last_failed = name }

-- the plan's file has this name, or one of the class files
abbrev pub NamesFile : Option (List ℕ) → List (List ℕ) → List ℕ → Type 0
NamesFile plan files name = (plan ≡ Some name) ⊎ ((at : ℕ) × (slice_get files at ≡ Some name))

-- A fetch failed: the count of faults rose, and the last failed name is that of the plan's file or of
-- a class file.
pub record HasFailed (plan : Option (List ℕ)) (files : List (List ℕ)) (old new : FilesView) : Type 0
  where
    pub rose : Rose old.faults new.faults
    pub name : NamesFile plan files new.last_failed

-- no fetch failed, so that the files tell of the same fault as before, or one did
abbrev pub FailsOnce : Option (List ℕ) → List (List ℕ) → FilesView → FilesView → Type 0
FailsOnce plan files old new = (new ≡ old) ⊎ HasFailed plan files old new

-- ---- the devices

-- What is seen of a call's devices at one time: what the files tell, files, source and sinks.
pub record DevicesView : Type 0 where
  pub told : Option Told
  pub files : FilesView
  pub input : SourceView
  pub out : SinkView
  pub report : SinkView
  pub images : SinkView

-- devices with other sinks
abbrev pub with_sinks : DevicesView → DevicesView → DevicesView
with_sinks sinks d = record d {
  out = sinks.out;
  report = sinks.report;
  images = sinks.images;
}
