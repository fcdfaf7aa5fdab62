-- When a file is not read.
use Rattle.std.specs.Prelude.{◌≡◌, ◌<◌, ℕ, List, length, Option, codes}
use Rattle.std.specs.Str.{IsUtf8}
use Rattle.byte_streams.specs.Streams.{Told, HasTold, Rose}
use Rattle.map_rows.specs.declared.reading.Cause.{Cause}
use Rattle.map_rows.specs.declared.reading.Cause.TheVariants.{NotFetched, TooLong, NotText, NoMemory}

-- the greatest length of a file
abbrev pub most : ℕ
most = 16777216

-- When each cause comes for the file of that name: a fetch failed, and that name is the last that did; or the file is
-- too long or no UTF-8, where the files tell their contents. Only a failed fetch changes the count of faults.
abbrev pub IsCause : Option Told → List ℕ → ℕ → ℕ → List ℕ → Cause → Type 0
IsCause told name old new last_failed NotFetched = Rose old new × (last_failed ≡ name)
IsCause told name old new last_failed TooLong = (new ≡ old) × HasTold told name (λ bytes. most < length bytes)
IsCause told name old new last_failed NotText = (new ≡ old) × HasTold told name (λ bytes. ¬ (IsUtf8 bytes))
IsCause told name old new last_failed NoMemory = new ≡ old

-- what standard error tells of a cause
abbrev pub reason_of : Cause → List ℕ
reason_of NotFetched = codes "it could not be fetched"
reason_of TooLong = codes "it is too long"
reason_of NotText = codes "it is no UTF-8"
reason_of NoMemory = codes "no memory"
