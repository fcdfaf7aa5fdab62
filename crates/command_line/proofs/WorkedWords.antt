-- Words, with what the definitions say of them.
use Rattle.std.proofs.Common.{◌≡◌, ℕ, true, false, List, [], ◌∷◌, Some, None, refl, codes}
use Rattle.clap.specs.Words.{fault_of}
use Rattle.clap.specs.Kinds.{Kinds}
use Rattle.clap.specs.declared.error.kind.ErrorKind.TheVariants.{ArgumentConflict, DisplayHelp, InvalidValue, TooManyValues, UnknownArgument}
unfoldable pub use Rattle.clap.proofs.OnLiterals.{clap_on_literals}
use Rattle.command_line.specs.Described.{jfluid}
use Rattle.command_line.specs.Words.{Read, generation_of, is_refused, is_taken, read_of, words_said}

-- clap takes the words, no rule refuses them, and this is read
record AreReadAs (words : List (List ℕ)) (r : Read) : Type 0 where
  taken : is_taken (codes "jfluid" ∷ words) ≡ true
  accepted : is_refused (words_said (codes "jfluid" ∷ words)) ≡ false
  read : read_of (words_said (codes "jfluid" ∷ words)) ≡ r

-- clap takes the words, and a rule refuses them
record AreRefused (words : List (List ℕ)) : Type 0 where
  taken : is_taken (codes "jfluid" ∷ words) ≡ true
  refused : is_refused (words_said (codes "jfluid" ∷ words)) ≡ true

-- clap refuses the words, for this
record Fail (words : List (List ℕ)) (kinds : Kinds) : Type 0 where
  refused : is_taken (codes "jfluid" ∷ words) ≡ false
  kind : fault_of jfluid (codes "jfluid" ∷ words) ≡ kinds

abbrev no_words : Read
no_words = record { main = None; root = None; budget = None; plan = None; generated = None; images = false; files = [] }

-- the main class P and the file F
abbrev usual : Read
usual = record no_words { main = Some (codes "P"); files = codes "F" ∷ [] }

-- ---- accepted

main_and_file : AreReadAs (codes "--main" ∷ codes "P" ∷ codes "F" ∷ []) usual
unfolding clap_on_literals is_taken
main_and_file = record { taken = refl; accepted = refl; read = refl }

equals_sign : AreReadAs (codes "--main=P" ∷ codes "F" ∷ []) usual
unfolding clap_on_literals is_taken
equals_sign = record { taken = refl; accepted = refl; read = refl }

options_behind_files : AreReadAs (codes "F" ∷ codes "--main" ∷ codes "P" ∷ []) usual
unfolding clap_on_literals is_taken
options_behind_files = record { taken = refl; accepted = refl; read = refl }

files_around_options : AreReadAs (codes "F" ∷ codes "--main" ∷ codes "P" ∷ codes "G" ∷ [])
    (record usual { files = codes "F" ∷ codes "G" ∷ [] })
unfolding clap_on_literals is_taken
files_around_options = record { taken = refl; accepted = refl; read = refl }

empty_value : AreReadAs (codes "--main=" ∷ codes "F" ∷ []) (record usual { main = Some [] })
unfolding clap_on_literals is_taken
empty_value = record { taken = refl; accepted = refl; read = refl }

dots : AreReadAs (codes "--main" ∷ codes "a.b.C" ∷ codes "F" ∷ []) (record usual { main = Some (codes "a/b/C") })
unfolding clap_on_literals is_taken
dots = record { taken = refl; accepted = refl; read = refl }

-- it is the value of its own option, so it is no option
minus_in_a_value : AreReadAs (codes "--main=P" ∷ codes "--root=-x" ∷ codes "F" ∷ []) (record usual { root = Some (codes "-x") })
unfolding clap_on_literals is_taken
minus_in_a_value = record { taken = refl; accepted = refl; read = refl }

-- only the plan can name the main class
plan_alone : AreReadAs (codes "--plan" ∷ codes "p" ∷ codes "F" ∷ []) (record no_words { plan = Some (codes "p"); files = codes "F" ∷ [] })
unfolding clap_on_literals is_taken
plan_alone = record { taken = refl; accepted = refl; read = refl }

-- behind `--` each word is a file
two_minus : AreReadAs (codes "--main=P" ∷ codes "--" ∷ codes "--" ∷ codes "--help" ∷ []) (record usual { files = codes "--" ∷ codes "--help" ∷ [] })
unfolding clap_on_literals is_taken
two_minus = record { taken = refl; accepted = refl; read = refl }

zeros_lead : AreReadAs (codes "--main=P" ∷ codes "--budget" ∷ codes "007" ∷ codes "F" ∷ []) (record usual { budget = Some 7 })
unfolding clap_on_literals is_taken
zeros_lead = record { taken = refl; accepted = refl; read = refl }

greatest_budget : AreReadAs (codes "--main=P" ∷ codes "--budget=1000000000000" ∷ codes "F" ∷ []) (record usual { budget = Some 1000000000000 })
unfolding clap_on_literals is_taken
greatest_budget = record { taken = refl; accepted = refl; read = refl }

flag : AreReadAs (codes "--main=P" ∷ codes "--images" ∷ codes "F" ∷ []) (record usual { images = true })
unfolding clap_on_literals is_taken
flag = record { taken = refl; accepted = refl; read = refl }

-- ---- of a generated program

-- its main class is GenMain
abbrev made_of : ℕ → ℕ → Read
made_of seed size = record no_words { main = Some (codes "GenMain"); generated = Some (generation_of seed size) }

smallest : AreReadAs (codes "--gen" ∷ codes "1" ∷ codes "--size" ∷ codes "1" ∷ []) (made_of 1 1)
unfolding clap_on_literals is_taken
smallest = record { taken = refl; accepted = refl; read = refl }

greatest : AreReadAs (codes "--size=200" ∷ codes "--gen=2147483647" ∷ []) (made_of 2147483647 200)
unfolding clap_on_literals is_taken
greatest = record { taken = refl; accepted = refl; read = refl }

seed_0_with_a_root : AreReadAs (codes "--gen=0" ∷ codes "--size=2" ∷ codes "--root=r" ∷ codes "--budget=5" ∷ []) (record (made_of 0 2) { root = Some (codes "r"); budget = Some 5 })
unfolding clap_on_literals is_taken
seed_0_with_a_root = record { taken = refl; accepted = refl; read = refl }

with_a_plan : AreReadAs (codes "--gen=3" ∷ codes "--size=2" ∷ codes "--plan=p" ∷ []) (record (made_of 3 2) { plan = Some (codes "p") })
unfolding clap_on_literals is_taken
with_a_plan = record { taken = refl; accepted = refl; read = refl }

seed_alone : AreRefused (codes "--gen" ∷ codes "1" ∷ [])
unfolding clap_on_literals is_taken
seed_alone = record { taken = refl; refused = refl }

size_alone : AreRefused (codes "--main=P" ∷ codes "--size=1" ∷ codes "F" ∷ [])
unfolding clap_on_literals is_taken
size_alone = record { taken = refl; refused = refl }

size_0 : AreRefused (codes "--gen=1" ∷ codes "--size=0" ∷ [])
unfolding clap_on_literals is_taken
size_0 = record { taken = refl; refused = refl }

size_201 : AreRefused (codes "--gen=1" ∷ codes "--size=201" ∷ [])
unfolding clap_on_literals is_taken
size_201 = record { taken = refl; refused = refl }

great_seed : AreRefused (codes "--gen=2147483648" ∷ codes "--size=1" ∷ [])
unfolding clap_on_literals is_taken
great_seed = record { taken = refl; refused = refl }

file_beside : AreRefused (codes "--gen=1" ∷ codes "--size=1" ∷ codes "F" ∷ [])
unfolding clap_on_literals is_taken
file_beside = record { taken = refl; refused = refl }

main_beside : AreRefused (codes "--gen=1" ∷ codes "--size=1" ∷ codes "--main=P" ∷ [])
unfolding clap_on_literals is_taken
main_beside = record { taken = refl; refused = refl }

-- ---- refused by the rules

program_alone : AreRefused []
unfolding clap_on_literals is_taken
program_alone = record { taken = refl; refused = refl }

no_program : is_taken [] ≡ true
unfolding clap_on_literals is_taken
no_program = refl

no_program_is_refused : is_refused (words_said []) ≡ true
unfolding clap_on_literals is_taken
no_program_is_refused = refl

root_and_plan : AreRefused (codes "--main=P" ∷ codes "--root=r" ∷ codes "--plan=p" ∷ codes "F" ∷ [])
unfolding clap_on_literals is_taken
root_and_plan = record { taken = refl; refused = refl }

no_file : AreRefused (codes "--main" ∷ codes "P" ∷ [])
unfolding clap_on_literals is_taken
no_file = record { taken = refl; refused = refl }

no_main : AreRefused (codes "F" ∷ [])
unfolding clap_on_literals is_taken
no_main = record { taken = refl; refused = refl }

-- a root names no main class
root_for_main : AreRefused (codes "--root=r" ∷ codes "F" ∷ [])
unfolding clap_on_literals is_taken
root_for_main = record { taken = refl; refused = refl }

too_great : AreRefused (codes "--main=P" ∷ codes "--budget=1000000000001" ∷ codes "F" ∷ [])
unfolding clap_on_literals is_taken
too_great = record { taken = refl; refused = refl }

digits_14 : AreRefused (codes "--main=P" ∷ codes "--budget=00000000000007" ∷ codes "F" ∷ [])
unfolding clap_on_literals is_taken
digits_14 = record { taken = refl; refused = refl }

no_digit : AreRefused (codes "--main=P" ∷ codes "--budget=" ∷ codes "F" ∷ [])
unfolding clap_on_literals is_taken
no_digit = record { taken = refl; refused = refl }

sign : AreRefused (codes "--main=P" ∷ codes "--budget=+5" ∷ codes "F" ∷ [])
unfolding clap_on_literals is_taken
sign = record { taken = refl; refused = refl }

-- ---- refused by clap

twice : Fail (codes "--main=P" ∷ codes "--main=P" ∷ codes "F" ∷ []) (ArgumentConflict ∷ [])
unfolding clap_on_literals is_taken
twice = record { refused = refl; kind = refl }

value_with_a_minus : Fail (codes "--main=P" ∷ codes "--root" ∷ codes "-x" ∷ codes "F" ∷ []) (UnknownArgument ∷ [])
unfolding clap_on_literals is_taken
value_with_a_minus = record { refused = refl; kind = refl }

no_value : Fail (codes "F" ∷ codes "--main" ∷ []) (InvalidValue ∷ [])
unfolding clap_on_literals is_taken
no_value = record { refused = refl; kind = refl }

flag_with_a_value : Fail (codes "--main=P" ∷ codes "--images=x" ∷ codes "F" ∷ []) (TooManyValues ∷ [])
unfolding clap_on_literals is_taken
flag_with_a_value = record { refused = refl; kind = refl }

flag_twice : Fail (codes "--images" ∷ codes "--main=P" ∷ codes "--images" ∷ codes "F" ∷ []) (ArgumentConflict ∷ [])
unfolding clap_on_literals is_taken
flag_twice = record { refused = refl; kind = refl }

-- no front of an option's name stands for it
front : Fail (codes "--mai=P" ∷ codes "F" ∷ []) (UnknownArgument ∷ [])
unfolding clap_on_literals is_taken
front = record { refused = refl; kind = refl }

version : Fail (codes "--version" ∷ []) (UnknownArgument ∷ [])
unfolding clap_on_literals is_taken
version = record { refused = refl; kind = refl }

long_help : Fail (codes "--help" ∷ []) (DisplayHelp ∷ [])
unfolding clap_on_literals is_taken
long_help = record { refused = refl; kind = refl }

short_help : Fail (codes "F" ∷ codes "-h" ∷ []) (DisplayHelp ∷ [])
unfolding clap_on_literals is_taken
short_help = record { refused = refl; kind = refl }
