-- Words that are accepted by themselves, and words that are not.
use Rattle.std.proofs.Common.{◌≡◌, ℕ, Bool, true, false, cond, List, [], ◌∷◌, Option, Some, None, refl, sym, ap, subst, inl, inr}
use Rattle.std.specs.Prelude.{◌⊎◌, not, ◌&&◌}
use Rattle.std.specs.List.{list_all}
use Rattle.std.specs.Str.{is_utf8}
use Rattle.std.proofs.lemmas.Bool.{and_from, and_parts, cases_Bool, not-true}
use Rattle.std.proofs.lemmas.Str.{IsUtf8-from_is_utf8, is_utf8-from_IsUtf8}
use Rattle.command_line.specs.Raw.{AreTexts}
use Rattle.std.proofs.lemmas.Option.{same_Some}
use Rattle.command_line.proofs.Sound.{sound}
use Rattle.command_line.specs.Words.{IsSound, Read, is_refused, is_taken, read_of, words_said}
use Rattle.jfluid_cli.specs.Words.{words_accepted, is_allowed, AreClaps, AreRefused}

all-utf8 : (words : List (List ℕ)) → AreTexts words → list_all is_utf8 words ≡ true
all-utf8 [] texts = refl
all-utf8 (word ∷ words) texts =
    and_from (is_utf8 word) (list_all is_utf8 words) (is_utf8-from_IsUtf8 word texts.0) (all-utf8 words texts.1)

all-texts : (words : List (List ℕ)) → list_all is_utf8 words ≡ true → AreTexts words
all-texts [] utf8 = tt
all-texts (word ∷ words) utf8 =
    let both = and_parts (is_utf8 word) (list_all is_utf8 words) utf8 in
    (IsUtf8-from_is_utf8 word both.0, all-texts words both.1)

-- what is read where three tests pass
passed : (a b c : Bool) (read r : Read) → a ≡ true → b ≡ true → c ≡ true → r ≡ read
    → ◌≡◌ {A = Option Read} (cond ((a && b) && c) (Some read) None) (Some r)
passed true true true read r e f g is = ap (λ (x : Read). let o : Option Read = Some x in o) (sym is)
passed false b c read r e f g is = absurd cc
passed true false c read r e f g is = absurd cc
passed true true false read r e f g is = absurd cc

-- nothing is where one fails
failed : (a b c : Bool) (o : Option Read) → (a ≡ false) ⊎ ((b ≡ false) ⊎ (c ≡ false)) → cond ((a && b) && c) o None ≡ None
failed false b c o which = refl
failed true false c o which = refl
failed true true false o which = refl
failed true true true o (inl e) = absurd cc
failed true true true o (inr (inl e)) = absurd cc
failed true true true o (inr (inr e)) = absurd cc

pub accepted-read : (words : List (List ℕ)) (r : Read) → AreTexts words → is_taken words ≡ true
    → is_refused (words_said words) ≡ false → r ≡ read_of (words_said words) → words_accepted words ≡ Some r
unfolding words_accepted is_allowed
accepted-read words r texts taken fine is =
    passed (list_all is_utf8 words) (is_taken words) (not (is_refused (words_said words))) (read_of (words_said words)) r
    (all-utf8 words texts) taken (ap not fine) is

-- the third test passed where something is read, and this is it
read-there : (a b c : Bool) (read r : Read) → ◌≡◌ {A = Option Read} (cond ((a && b) && c) (Some read) None) (Some r)
    → (c ≡ true) × (read ≡ r)
read-there true true true read r e = (refl, same_Some read r e)
read-there true true false read r e = absurd cc
read-there true false c read r e = absurd cc
read-there false b c read r e = absurd cc

-- what is read of accepted words is sound
pub accepted-sound : (words : List (List ℕ)) (r : Read) → words_accepted words ≡ Some r → IsSound r
unfolding words_accepted is_allowed
accepted-sound words r e =
    let there = read-there (list_all is_utf8 words) (is_taken words) (not (is_refused (words_said words))) (read_of (words_said words)) r e in
    subst IsSound there.1 (sound (words_said words) (not-true (is_refused (words_said words)) there.0))

pub refused-rule : (words : List (List ℕ)) → is_taken words ≡ true → is_refused (words_said words) ≡ true → AreRefused words
unfolding is_allowed
refused-rule words taken refused = inr (taken, ap not refused)

pub accepted-claps : (words : List (List ℕ)) → AreClaps words → words_accepted words ≡ None
unfolding words_accepted
accepted-claps words claps =
    failed (list_all is_utf8 words) (is_taken words) (is_allowed words) (Some (read_of (words_said words))) (inr (inl claps.1))

pub accepted-refused : (words : List (List ℕ)) → AreRefused words → words_accepted words ≡ None
unfolding words_accepted
accepted-refused words (inl no_text) = elim (cases_Bool (list_all is_utf8 words)) [
  | inl utf8 ↦ absurd (no_text (all-texts words utf8))
  | inr other ↦
      failed (list_all is_utf8 words) (is_taken words) (is_allowed words) (Some (read_of (words_said words))) (inl other)
]
accepted-refused words (inr (taken, barred)) =
    failed (list_all is_utf8 words) (is_taken words) (is_allowed words) (Some (read_of (words_said words))) (inr (inr barred))
