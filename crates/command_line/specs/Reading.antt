-- What the steps of reading words answer: clap's matches, the values in them, and what is made of the values.
use Rattle.std.specs.Prelude.{◌≡◌, ◌≢◌, ℕ, true, false, List, Result, Ok, Err}
use Rattle.clap.specs.Words.{found_of, matches_of, rows_of}
use Rattle.clap.specs.declared.error.kind.ErrorKind.{ErrorKind}
use Rattle.clap.specs.declared.error.kind.ErrorKind.TheVariants.{OutOfMemory}
use Rattle.clap.specs.declared.parser.matches.ArgMatches.{ArgMatches}
use Rattle.command_line.specs.Described.{jfluid}
use Rattle.command_line.specs.Words.{Said, is_refused, is_taken, read_in, read_of, text, texts}
use Rattle.command_line.specs.declared.words.FoundValues.{FoundValues}
use Rattle.command_line.specs.declared.words.Words.{Words}
use Rattle.command_line.specs.declared.words.WordsError.{WordsError}
use Rattle.command_line.specs.declared.words.WordsError.TheVariants.{Clap, Refused, NoMemory}

-- of an error of clap's
abbrev pub IsRefusal : ErrorKind → WordsError → Type 0
IsRefusal kind (Clap message) = kind ≢ OutOfMemory
IsRefusal kind Refused = ⊥
IsRefusal kind NoMemory = Unit {0}

-- what clap answers
abbrev pub IsMatched : List (List ℕ) → Result ArgMatches WordsError → Type 0
IsMatched words (Ok m) = (is_taken words ≡ true) × (rows_of (found_of m) ≡ matches_of jfluid words)
IsMatched words (Err (Clap message)) = is_taken words ≡ false
IsMatched words (Err Refused) = ⊥
IsMatched words (Err NoMemory) = Unit {0}

-- the values, as the program holds them
abbrev pub given_in : FoundValues → Said
given_in g = record {
  main = text g.main;
  root = text g.root;
  budget = text g.budget;
  plan = text g.plan;
  seed = text g.seed;
  size = text g.size;
  images = g.images;
  files = texts g.files.items;
}

-- what is answered for words that clap takes
abbrev pub IsAccepted : Said → Result Words WordsError → Type 0
IsAccepted s (Ok w) = (is_refused s ≡ false) × (read_in w ≡ read_of s)
IsAccepted s (Err (Clap message)) = ⊥
IsAccepted s (Err Refused) = is_refused s ≡ true
IsAccepted s (Err NoMemory) = Unit {0}
