-- What holds of all that is read of words that no rule refuses.
use Rattle.std.proofs.Common.{◌≡◌, ◌<◌, ◌≤◌, ◌||◌, ℕ, Bool, true, false, not, List, [], ◌∷◌, Option, Some, None, refl, ap, sym, ◌∙◌, rules, arith, length, suc, zero, true≢false}
use Rattle.std.specs.Prelude.{IfSome, ◌==◌, ◌&&◌, is_none, is_some, nat_le, nat_lt, if◌then◌else◌}
use Rattle.std.proofs.lemmas.Bool.{leb-true, ne_eqb, or_parts}
use Rattle.std.specs.Option.{option_map, option_and_then, option_map_or}
use Rattle.plan_text.specs.Numbers.{greatest_steps, number_of}
use Rattle.std.specs.Str.{chars}
use Rattle.command_line.specs.Words.{IsGeneration, IsSound, Read, Said, budget_said, class_said, generated_main, generation_of, generation_said, greatest_seed, greatest_size, has_bad_budget, has_bad_count, has_bad_files, has_bad_generation, has_bad_run, has_bad_seed, has_bad_size, has_half, has_two_mains, has_two_plans, is_no_seed, is_no_size, is_refused, lacks_main, main_said, most_files, read_of, size_of}

within : (word : List ℕ) → IfSome (number_of greatest_steps word) (λ steps. steps ≤ greatest_steps)
within word = search rules

budget_within : (o : Option (List ℕ)) → IfSome (budget_said o) (λ steps. steps ≤ greatest_steps)
budget_within None = tt
budget_within (Some word) = within word

some : (n : ℕ) → (n == 0) ≡ false → 0 < n
some zero e = absurd (cc)
some (suc n) e = omega arith

few : (n : ℕ) → nat_lt most_files n ≡ false → n ≤ most_files
few n e = search (rules, e)

no_other_main : {A B : Type 0} (main : Option A) (plan : Option B)
    → (is_none main && is_none plan) ≡ false → (f : A → A) → (is_none (option_map f main) && is_none plan) ≡ false
no_other_main None plan e f = e
no_other_main (Some main) plan e f = refl

-- ---- files, and what is generated

seed_within : (word : List ℕ) → IfSome (number_of greatest_seed word) (λ seed. seed ≤ greatest_seed)
seed_within word = search rules

size_known : (word : List ℕ) → IfSome (number_of greatest_size word) (λ size. size ≤ greatest_size)
size_known word = search rules

sized : (o : Option ℕ) → IfSome o (λ n. n ≤ greatest_size)
    → IfSome (option_and_then (λ size. if nat_le 1 size then Some size else None) o) (λ n. (1 ≤ n) × (n ≤ greatest_size))
sized None h = tt
sized (Some n) h = by (nat_le 1 n) refl
  where
    by : (b : Bool) → nat_le 1 n ≡ b → IfSome (if b then Some n else None) (λ n. (1 ≤ n) × (n ≤ greatest_size))
    by true e = (leb-true 1 n e, h)
    by false e = tt

size_within : (word : List ℕ) → IfSome (size_of word) (λ size. (1 ≤ size) × (size ≤ greatest_size))
size_within word = sized (number_of greatest_size word) (size_known word)

-- what is generated, with what else was read
abbrev Whole : Read → Type 0
Whole r = (r.main ≡ Some generated_main) × (r.files ≡ [])

generation_within : (r : Read) (seed size : Option ℕ) → IfSome seed (λ n. n ≤ greatest_seed) → IfSome size (λ n. (1 ≤ n) × (n ≤ greatest_size))
    → (is_some seed ≡ true → Whole r) → IfSome (option_and_then (λ n. option_map (generation_of n) size) seed) (IsGeneration r)
generation_within r None size first second whole = tt
generation_within r (Some seed) None first second whole = tt
generation_within r (Some seed) (Some size) first second whole =
    let rest = whole refl in
    record { seed = first; some = second.0; most = second.1; main = rest.0; files = rest.1 }

-- a spelled seed is a seed
seed_said : (seed : Option (List ℕ)) → is_some (option_and_then (number_of greatest_seed) seed) ≡ true → is_some seed ≡ true
seed_said None e = e
seed_said (Some word) e = refl

-- the text of ASCII letters has a unit for each
own_main : (seed : Option (List ℕ)) (main : Option (List ℕ)) → is_some seed ≡ true
    → class_said (if is_some seed then Some generated_main else main) ≡ Some generated_main
unfolding chars
own_main (Some seed) main e = refl
own_main None main e = absurd (cc e)

no_files : (n : List (List ℕ)) → not (length n == 0) ≡ false → n ≡ []
no_files [] e = refl
no_files (x ∷ xs) e = absurd (true≢false (sym (ap not (ne_eqb (suc (length xs)) 0 (omega arith))) ∙ e))

own_files : (seed : Option (List ℕ)) (s : Said) → (if is_some seed then not (length s.files == 0) else has_bad_count s) ≡ false
    → is_some seed ≡ true → s.files ≡ []
own_files (Some seed) s fine e = no_files s.files fine
own_files None s fine e = absurd (cc e)

said_within : (P : ℕ → Type 0) (f : List ℕ → Option ℕ) (word : Option (List ℕ)) → ((w : List ℕ) → IfSome (f w) P) → IfSome (option_and_then f word) P
said_within P f None each = tt
said_within P f (Some w) each = each w

none_there : (n : ℕ) → not (n == 0) ≡ false → n ≤ most_files
none_there zero h = omega arith
none_there (suc n) h = absurd (true≢false (sym (ap not (ne_eqb (suc n) 0 (omega arith))) ∙ h))

-- the files are few, and there are some where there is no seed
sound_files : (s : Said) → has_bad_files s ≡ false → (is_none s.seed ≡ true → 0 < length s.files) × (length s.files ≤ most_files)
sound_files s fine = by s.seed fine
  where
    by : (seed : Option (List ℕ)) → (if is_some seed then not (length s.files == 0) else has_bad_count s) ≡ false → (is_none seed ≡ true → 0 < length s.files) × (length s.files ≤ most_files)
    by (Some seed) e = (λ none. absurd (cc none), none_there (length s.files) e)
    by None e =
        let files = or_parts (length s.files == 0) (nat_lt most_files (length s.files)) e in
        (λ none. some (length s.files) files.0, few (length s.files) files.1)

-- what is not generated has no seed, where the words are no half
no_seed : (seed size : Option (List ℕ)) → ((is_some seed && is_none size) || (is_none seed && is_some size)) ≡ false
    → option_map_or is_no_seed seed false ≡ false → option_map_or is_no_size size false ≡ false → is_none (generation_said seed size) ≡ true → is_none seed ≡ true
no_seed None size half seed_fine size_fine none = refl
no_seed (Some seed) None half seed_fine size_fine none = absurd (cc half)
no_seed (Some seed) (Some size) half seed_fine size_fine none = absurd (both (number_of greatest_seed seed) (size_of size) seed_fine size_fine none)
  where
    both : (n m : Option ℕ) → is_none n ≡ false → is_none m ≡ false → is_none (option_and_then (λ k. option_map (generation_of k) m) n) ≡ true → ⊥
    both None m seed_fine size_fine none = cc seed_fine
    both (Some n) None seed_fine size_fine none = cc size_fine
    both (Some n) (Some m) seed_fine size_fine none = cc none

pub sound : (s : Said) → is_refused s ≡ false → IsSound (read_of s)
sound s fine =
    let all = or_parts (has_bad_run s) (has_bad_generation s) fine in
    let parts = or_parts (has_two_plans s || has_bad_files s) (has_bad_budget s || lacks_main s) all.0 in
    let first = or_parts (has_two_plans s) (has_bad_files s) parts.0 in
    let rest = or_parts (has_bad_budget s) (lacks_main s) parts.1 in
    let ways = or_parts (has_half s || has_two_mains s) (has_bad_seed s || has_bad_size s) all.1 in
    let half = or_parts (has_half s) (has_two_mains s) ways.0 in
    let numbers = or_parts (has_bad_seed s) (has_bad_size s) ways.1 in
    let files = sound_files s first.1 in
    record {
      files = (λ none. files.0 (no_seed s.seed s.size half.0 numbers.0 numbers.1 none), files.1);
      generated = generation_within (read_of s) (option_and_then (number_of greatest_seed) s.seed) (option_and_then size_of s.size)
          (said_within (λ n. n ≤ greatest_seed) (number_of greatest_seed) s.seed seed_within)
          (said_within (λ n. (1 ≤ n) × (n ≤ greatest_size)) size_of s.size size_within)
          (λ e. let there = seed_said s.seed e in (own_main s.seed s.main there, own_files s.seed s first.1 there));
      budget = budget_within s.budget;
      one_plan = first.0;
      main = no_other_main (main_said s) s.plan rest.1 _;
    }
