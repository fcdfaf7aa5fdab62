-- What the words say, which of them are refused, and what is read of them.
use Rattle.std.specs.Prelude.{◌≡◌, ◌<◌, ◌≤◌, IfSome, ◌==◌, ◌&&◌, ◌||◌, not, if◌then◌else◌, ℕ, Bool, true, false, List, [], length}
use Rattle.std.specs.Prelude.{Option, Some, None, is_some, is_none, map, unwrap_or, nat_le, nat_lt, codes, Result, Ok, Err}
use Rattle.std.specs.Option.{option_map, option_and_then, option_map_or}
use Rattle.std.specs.Str.{bytes_eq}
use Rattle.jf_bytes.specs.Unicode.{utf16_of}
use Rattle.plan_text.specs.Numbers.{number_of, greatest_steps}
use Rattle.plan_text.specs.Roots.{name_slashed}
use Rattle.std.specs.Borrow.{Bor}
use Rattle.clap.specs.Words.{Row, all_of, first_of, matches_of, takes}
use Rattle.command_line.specs.Described.{jfluid}
use Rattle.command_line.specs.declared.words.Generation.{Generation}
use Rattle.command_line.specs.declared.words.Words.{Words}
use Rattle.command_line.specs.declared.words.WordsError.{WordsError}
use Rattle.command_line.specs.declared.words.WordsError.TheVariants.{Clap, Refused, NoMemory}

-- ---- what clap takes

-- what clap states for every simple command; words that ask for help are not taken
unfoldable pub is_taken : List (List ℕ) → Bool
is_taken words = takes jfluid words

-- the value of each option that was used, whether the flag was, and the files in the order of the words
pub record Said : Type 0 where
  pub main : Option (List ℕ)
  pub root : Option (List ℕ)
  pub budget : Option (List ℕ)
  pub plan : Option (List ℕ)
  pub seed : Option (List ℕ)
  pub size : Option (List ℕ)
  pub images : Bool
  pub files : List (List ℕ)

abbrev pub files_in : List Row → List (List ℕ)
files_in rows = unwrap_or (all_of (codes "FILE") rows) []

-- whether a flag was used: what clap has for it is the word true, else the word false
abbrev pub is_used : Option (List ℕ) → Bool
is_used value = option_map_or (λ word. bytes_eq word (codes "true")) value false

abbrev pub said_in : List Row → Said
said_in rows = record {
  main = first_of (codes "main") rows;
  root = first_of (codes "root") rows;
  budget = first_of (codes "budget") rows;
  plan = first_of (codes "plan") rows;
  seed = first_of (codes "gen") rows;
  size = first_of (codes "size") rows;
  images = is_used (first_of (codes "images") rows);
  files = files_in rows;
}

-- what words say that clap takes
abbrev pub words_said : List (List ℕ) → Said
words_said words = said_in (matches_of jfluid words)

-- ---- what the product refuses

abbrev pub most_files : ℕ
most_files = 1024

-- a root is a plan of its own
abbrev pub has_two_plans : Said → Bool
has_two_plans s = is_some s.root && is_some s.plan

-- there is no file, or there are too many
abbrev pub has_bad_count : Said → Bool
has_bad_count s = length s.files == 0 || nat_lt most_files (length s.files)

-- a generated program takes no file
abbrev pub has_bad_files : Said → Bool
has_bad_files s = if is_some s.seed then not (length s.files == 0) else has_bad_count s

abbrev pub is_no_budget : List ℕ → Bool
is_no_budget word = is_none (number_of greatest_steps word)

abbrev pub has_bad_budget : Said → Bool
has_bad_budget s = option_map_or is_no_budget s.budget false

-- the main class of a generated program
abbrev pub generated_main : List ℕ
generated_main = codes "GenMain"

-- that of a generated program is not said
abbrev pub main_said : Said → Option (List ℕ)
main_said s = if is_some s.seed then Some generated_main else s.main

-- no main class, and no plan that could name it
abbrev pub lacks_main : Said → Bool
lacks_main s = is_none (main_said s) && is_none s.plan

-- ---- of a generated program

abbrev pub greatest_seed : ℕ
greatest_seed = 2147483647

abbrev pub greatest_size : ℕ
greatest_size = 200

-- the size that a word spells
abbrev pub size_of : List ℕ → Option ℕ
size_of word = option_and_then (λ size. if nat_le 1 size then Some size else None) (number_of greatest_size word)

abbrev pub is_no_seed : List ℕ → Bool
is_no_seed word = is_none (number_of greatest_seed word)

abbrev pub is_no_size : List ℕ → Bool
is_no_size word = is_none (size_of word)

abbrev pub has_bad_seed : Said → Bool
has_bad_seed s = option_map_or is_no_seed s.seed false

abbrev pub has_bad_size : Said → Bool
has_bad_size s = option_map_or is_no_size s.size false

-- a seed without a size, or a size without a seed
abbrev pub has_half : Said → Bool
has_half s = (is_some s.seed && is_none s.size) || (is_none s.seed && is_some s.size)

-- its main class is not to be named
abbrev pub has_two_mains : Said → Bool
has_two_mains s = is_some s.seed && is_some s.main

abbrev pub has_bad_generation : Said → Bool
has_bad_generation s = (has_half s || has_two_mains s) || (has_bad_seed s || has_bad_size s)

-- ---- all that is refused

abbrev pub has_bad_run : Said → Bool
has_bad_run s = (has_two_plans s || has_bad_files s) || (has_bad_budget s || lacks_main s)

abbrev pub is_refused : Said → Bool
is_refused s = has_bad_run s || has_bad_generation s

-- ---- what is read

pub record Read : Type 0 where
  -- the main class in its internal form, as UTF-16 units
  pub main : Option (List ℕ)
  pub root : Option (List ℕ)
  pub budget : Option ℕ
  pub plan : Option (List ℕ)
  pub generated : Option Generation
  pub images : Bool
  pub files : List (List ℕ)

-- the main class that a word names
abbrev pub class_said : Option (List ℕ) → Option (List ℕ)
class_said = option_map (λ word. name_slashed (utf16_of word))

abbrev pub budget_said : Option (List ℕ) → Option ℕ
budget_said = option_and_then (number_of greatest_steps)

abbrev pub generation_of : ℕ → ℕ → Generation
generation_of seed size = record { seed = seed; size = size }

-- the seed and the size that words spell
abbrev pub generation_said : Option (List ℕ) → Option (List ℕ) → Option Generation
generation_said seed size =
    option_and_then (λ n. option_map (generation_of n) (option_and_then size_of size)) (option_and_then (number_of greatest_seed) seed)

abbrev pub read_of : Said → Read
read_of s = record {
  main = class_said (main_said s);
  root = s.root;
  budget = budget_said s.budget;
  plan = s.plan;
  generated = generation_said s.seed s.size;
  images = s.images;
  files = s.files;
}

-- A program is generated of these, which has its own main class, and no file.
pub record IsGeneration (r : Read) (g : Generation) : Type 0 where
  pub seed : g.seed ≤ greatest_seed
  pub some : 1 ≤ g.size
  pub most : g.size ≤ greatest_size
  pub main : r.main ≡ Some generated_main
  pub files : r.files ≡ []

-- what holds of all that is read
pub record IsSound (r : Read) : Type 0 where
  pub files : (is_none r.generated ≡ true → 0 < length r.files) × (length r.files ≤ most_files)
  pub generated : IfSome r.generated (IsGeneration r)
  pub budget : IfSome r.budget (λ steps. steps ≤ greatest_steps)
  pub one_plan : (is_some r.root && is_some r.plan) ≡ false
  pub main : (is_none r.main && is_none r.plan) ≡ false

-- ---- what the program holds

-- the texts behind references
abbrev pub texts : List (Bor (List ℕ)) → List (List ℕ)
texts = map (λ s. s.now)

abbrev pub text : Option (Bor (List ℕ)) → Option (List ℕ)
text = option_map (λ s. s.now)

abbrev pub read_in : Words → Read
read_in w = record {
  main = w.main;
  root = text w.root;
  budget = w.budget;
  plan = text w.plan;
  generated = w.generated;
  images = w.images;
  files = texts w.files.items;
}

-- ---- what is answered

-- what is answered for words: of the text of a refusal by clap nothing is said
abbrev pub IsRead : List (List ℕ) → Result Words WordsError → Type 0
IsRead words (Ok w) =
    (is_taken words ≡ true) × (is_refused (words_said words) ≡ false) × (read_in w ≡ read_of (words_said words))
IsRead words (Err (Clap message)) = is_taken words ≡ false
IsRead words (Err Refused) = (is_taken words ≡ true) × (is_refused (words_said words) ≡ true)
IsRead words (Err NoMemory) = Unit {0}
