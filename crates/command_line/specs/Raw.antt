-- Words as the system has them: bytes, which may be no text.
use Rattle.std.specs.Prelude.{◌≡◌, ◌<◌, ℕ, List, length, take, slice_get, Option, Some, None, Result, Ok, Err, IfSome, IsSomeAnd}
use Rattle.std.specs.List.{AllByRecursion}
use Rattle.std.specs.Str.{IsUtf8}
use Rattle.std.specs.declared.env.FillError.{FillError}
use Rattle.std.specs.declared.env.FillError.TheVariants.{NotPresent, TooLong}
use Rattle.command_line.specs.declared.raw.RawError.{RawError}
use Rattle.command_line.specs.declared.raw.RawError.TheVariants.{NotText, NoMemory}

-- the words of a process, where they are told
abbrev pub ToldWords : Type 0
ToldWords = Option (List (List ℕ))

-- what a room is answered to hold
abbrev pub word_in : List ℕ → Result ℕ FillError → Result (List ℕ) FillError
word_in room (Ok count) = Ok (take count room)
word_in room (Err error) = Err error

-- the answer where the word of that number is asked for, with room for so many bytes: the word, or none, or a longer
-- one
abbrev pub IsAnswered : ToldWords → ℕ → ℕ → Result (List ℕ) FillError → Type 0
IsAnswered given number room (Ok word) = IfSome given (λ words. slice_get words number ≡ Some word)
IsAnswered given number room (Err NotPresent) = IfSome given (λ words. slice_get words number ≡ None)
IsAnswered given number room (Err TooLong) = IfSome given (λ words. IsSomeAnd (slice_get words number) (λ word. room < length word))

-- the word of that number, or none
abbrev pub IsWord : ToldWords → ℕ → Option (List ℕ) → Type 0
IsWord given number word = IfSome given (λ words. slice_get words number ≡ word)

-- all words
abbrev pub AreWords : ToldWords → List (List ℕ) → Type 0
AreWords given found = IfSome given (λ words. found ≡ words)

-- ---- as texts

abbrev pub AreTexts : List (List ℕ) → Type 0
AreTexts words = AllByRecursion IsUtf8 words

-- why words are not taken as texts
abbrev pub HasRawCause : List (List ℕ) → RawError → Type 0
HasRawCause words NotText = ¬ (AreTexts words)
HasRawCause words NoMemory = Unit {0}
