-- Words that are accepted, and words that are not, with what they and a plan ask for.
use Rattle.std.proofs.Common.{◌≡◌, ℕ, List, [], ◌∷◌, Option, Some, None, refl, codes}
use Rattle.std.specs.Option.{option_map}
use Rattle.std.specs.Str.{is_utf8, chars}
use Rattle.command_line.proofs.WorkedWords.{clap_on_literals}
use Rattle.plan_text.specs.declared.plan.Plan.{Plan}
use Rattle.plan_text.specs.Lines.{silent_plan}
use Rattle.command_line.specs.Words.{is_taken}
use Rattle.jfluid_cli.specs.Words.{words_accepted, budget_of, command_of, file_words, is_allowed, plan_word}

-- the words behind the program's name
abbrev said : List (List ℕ) → List (List ℕ)
said words = codes "jfluid" ∷ words

abbrev main_of : List (List ℕ) → Plan → Option (List ℕ)
main_of words plan = option_map (λ c. c.main) (command_of (said words) plan)

-- a plan that names the main class Q and a budget
abbrev named : Plan
named = record silent_plan { main = Some (codes "Q"); budget = Some 5 }

files : file_words (said (codes "--main=a.P" ∷ codes "B.class" ∷ codes "A.class" ∷ [])) ≡ codes "B.class" ∷ codes "A.class" ∷ []
unfolding clap_on_literals is_taken words_accepted is_allowed is_utf8 chars
files = refl

main : main_of (codes "--main=a.P" ∷ codes "F" ∷ []) silent_plan ≡ Some (codes "a/P")
unfolding clap_on_literals is_taken words_accepted is_allowed is_utf8 chars
main = refl

-- a word is before the plan
word_first : main_of (codes "--main=P" ∷ codes "--plan=p" ∷ codes "F" ∷ []) named ≡ Some (codes "P")
unfolding clap_on_literals is_taken words_accepted is_allowed is_utf8 chars
word_first = refl

plan_else : main_of (codes "--plan=p" ∷ codes "F" ∷ []) named ≡ Some (codes "Q")
unfolding clap_on_literals is_taken words_accepted is_allowed is_utf8 chars
plan_else = refl

neither : main_of (codes "--plan=p" ∷ codes "F" ∷ []) silent_plan ≡ None
unfolding clap_on_literals is_taken words_accepted is_allowed is_utf8 chars
neither = refl

plan_named : plan_word (said (codes "--plan" ∷ codes "p" ∷ codes "F" ∷ [])) ≡ Some (codes "p")
unfolding clap_on_literals is_taken words_accepted is_allowed is_utf8 chars
plan_named = refl

own_budget : budget_of (said (codes "--plan=p" ∷ codes "--budget=7" ∷ codes "F" ∷ [])) named ≡ 7
unfolding clap_on_literals is_taken words_accepted is_allowed is_utf8 chars
own_budget = refl

plan_budget : budget_of (said (codes "--plan=p" ∷ codes "F" ∷ [])) named ≡ 5
unfolding clap_on_literals is_taken words_accepted is_allowed is_utf8 chars
plan_budget = refl

no_text : words_accepted (said (codes "--main=P" ∷ (255 ∷ []) ∷ [])) ≡ None
unfolding clap_on_literals is_taken words_accepted is_allowed is_utf8 chars
no_text = refl

no_file : words_accepted (said (codes "--main=P" ∷ [])) ≡ None
unfolding clap_on_literals is_taken words_accepted is_allowed is_utf8 chars
no_file = refl
