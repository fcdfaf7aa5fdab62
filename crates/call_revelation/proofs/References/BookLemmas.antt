-- Instructions that are noted by the classes that they name.
use Rattle.std.proofs.Common.{◌≡◌, ℕ, zero, suc, ◌+◌, ◌<◌, ◌≤◌, Bool, true, false, List, [], ◌∷◌, ◌++◌, length, ap, sym, subst, refl, ◌∙◌, arith, inl, inr}
use Rattle.std.specs.Prelude.{Option, Some, None, ◌⊎◌, is_some, replicate, slice_get, slice_set, ◌==◌, ◌||◌, if◌then◌else◌}
use Rattle.std.specs.List.{list_any}
use Rattle.std.specs.Option.{option_flatten, option_map_or}
use Rattle.std.proofs.lemmas.Option.{none-some, same_Some}
use Rattle.std.proofs.lemmas.Bool.{and_from, or_left, or_right, eqb-true}
use Rattle.std.proofs.Math.Bool.{or_assoc}
use Rattle.jf_bytes.proofs.Tests.{equals_itself}
use Rattle.jf_bytes.proofs.Lists.{slice_get-set_same}
use Rattle.jvm_model.specs.declared.program.Program.{Program}
use Rattle.jvm_model.specs.Instructions.SymbolicReference.{resolved_name}
use Rattle.jvm_model.specs.Basis.Programs.{class_named, has_name}
use Rattle.jvm_model.specs.Profiling.Revelation.{symbolic_references_of}
use Rattle.jvm_model.specs.Profiling.Targets.{operations_of}
use Rattle.jvm_model.proofs.Soundness.SoundKinds.{named-class}
use Rattle.jvm_model.specs.declared.instruction.SymbolicReference.{SymbolicReference}
use Rattle.possible_callees.specs.Tables.{list_at, with_item}
use Rattle.possible_callees.proofs.Classes.LineageLemmas.{below-or-past}
use Rattle.possible_callees.proofs.Numbers.TableLemmas.{at-other, at-same, length-with, nothing_past, set-length, set-other}
use Rattle.call_revelation.specs.declared.uses.Use.{Use}
use Rattle.call_revelation.specs.Books.{Codes, HasMore, IsBook, IsListed, code_at, has_use, is_noted, is_use, use_of, with_noted, with_use, with_uses}

any-append : {A : Type 0} (test : A → Bool) (xs ys : List A) → list_any test (xs ++ ys) ≡ (list_any test xs || list_any test ys)
any-append test [] ys = refl
any-append test (x ∷ xs) ys = ap (λ b. test x || b) (any-append test xs ys) ∙ sym (or_assoc (test x) (list_any test xs) (list_any test ys))

-- ---- one more in a list

use-kept : (caller at class n : ℕ) (u : Use) (lists : List (List Use)) → has_use caller at (list_at lists class) ≡ true
    → has_use caller at (list_at (with_item n u lists) class) ≡ true
use-kept caller at class n u lists h = by (class == n) refl
  where
    there : class ≡ n → (n < length lists) ⊎ (length lists ≤ n) → has_use caller at (list_at (with_item n u lists) class) ≡ true
    there same (inl within) =
        ap (λ j. has_use caller at (list_at (with_item n u lists) j)) same
        ∙ (ap (has_use caller at) (at-same u n lists within) ∙ (any-append (is_use caller at) (list_at lists n) (u ∷ [])
        ∙ or_left (has_use caller at (list_at lists n)) (has_use caller at (u ∷ [])) (ap (λ j. has_use caller at (list_at lists j)) (sym same) ∙ h)))
    there same (inr past) = sym (ap (λ l. has_use caller at (list_at l class)) (nothing_past u n lists past)) ∙ h

    by : (b : Bool) → (class == n) ≡ b → has_use caller at (list_at (with_item n u lists) class) ≡ true
    by true e = there (eqb-true class n e) (below-or-past n (length lists))
    by false e = ap (has_use caller at) (at-other u n class lists e) ∙ h

use-there : (caller at n : ℕ) (lists : List (List Use)) → n < length lists → has_use caller at (list_at (with_item n (use_of caller at) lists) n) ≡ true
use-there caller at n lists within =
    ap (has_use caller at) (at-same (use_of caller at) n lists within)
    ∙ (any-append (is_use caller at) (list_at lists n) (use_of caller at ∷ [])
    ∙ or_right (has_use caller at (list_at lists n)) (has_use caller at (use_of caller at ∷ []))
    (or_left (is_use caller at (use_of caller at)) false (and_from (caller == caller) (at == at) (equals_itself caller) (equals_itself at))))

pub more-same : (lists : List (List Use)) → HasMore lists lists
more-same lists = record { places = refl; kept = λ caller at class h. h }

pub more-then : (a b c : List (List Use)) → HasMore a b → HasMore b c → HasMore a c
more-then a b c first second = record {
  places = second.places ∙ first.places;
  kept = λ caller at class h. second.kept caller at class (first.kept caller at class h);
}

-- ---- an instruction, by the class that it names

module _ (p : Program) where
  use-more : (u : Use) (n : SymbolicReference) (lists : List (List Use)) → HasMore lists (with_use p u n lists)
  use-more u n lists = by (class_named p (resolved_name n))
    where
      by : (o : Option ℕ) → HasMore lists (option_map_or (λ class. with_item class u lists) o lists)
      by None = more-same lists
      by (Some class) = record { places = length-with u class lists; kept = λ caller at k h. use-kept caller at k class u lists h }

  pub noted-more : (calls : Bool) (u : Use) (n : SymbolicReference) (lists : List (List Use)) → HasMore lists (with_noted p calls u n lists)
  noted-more calls u n lists = by (is_noted calls n)
    where
      by : (b : Bool) → HasMore lists (if b then with_use p u n lists else lists)
      by true = use-more u n lists
      by false = more-same lists

  uses-more : (calls : Bool) (caller at : ℕ) (ns : List SymbolicReference) (lists : List (List Use)) → HasMore lists (with_uses p calls caller at ns lists)
  uses-more calls caller at [] lists = more-same lists
  uses-more calls caller at (n ∷ rest) lists =
      let one = with_noted p calls (use_of caller at) n lists in
      more-then lists one (with_uses p calls caller (at + 1) rest one) (noted-more calls (use_of caller at) n lists) (uses-more calls caller (at + 1) rest one)

  use-listed : (caller at : ℕ) (n : SymbolicReference) (lists : List (List Use)) → length lists ≡ length p.classes
      → IsListed p (with_use p (use_of caller at) n lists) caller at n
  use-listed caller at n lists places class e =
      ap (λ o. has_use caller at (list_at (option_map_or (λ k. with_item k (use_of caller at) lists) o lists) class)) e
      ∙ use-there caller at class lists (subst (λ k. class < k) (sym places) (named-class (has_name (resolved_name n)) p.classes class e))

  noted-listed : (calls : Bool) (caller at : ℕ) (n : SymbolicReference) (lists : List (List Use)) → length lists ≡ length p.classes → is_noted calls n ≡ true
      → IsListed p (with_noted p calls (use_of caller at) n lists) caller at n
  noted-listed calls caller at n lists places noted class e =
      ap (λ b. has_use caller at (list_at (if b then with_use p (use_of caller at) n lists else lists) class)) noted
      ∙ use-listed caller at n lists places class e

  -- each of a method's instructions that is noted
  uses-listed : (calls : Bool) (caller at : ℕ) (ns : List SymbolicReference) (lists : List (List Use)) → length lists ≡ length p.classes
      → (i k : ℕ) (n : SymbolicReference) → slice_get ns i ≡ Some n → is_noted calls n ≡ true → k ≡ at + i → IsListed p (with_uses p calls caller at ns lists) caller k n
  uses-listed calls caller at [] lists places i k n e noted is = absurd (none-some n e)
  uses-listed calls caller at (x ∷ rest) lists places zero k n e noted is = λ class named.
      let one = with_noted p calls (use_of caller at) x lists in
      (uses-more calls caller (at + 1) rest one).kept caller k class
      (ap (λ j. has_use caller j (list_at one class)) (let same : k ≡ at = omega (arith, is) in same)
      ∙ noted-listed calls caller at x lists places (ap (is_noted calls) (same_Some x n e) ∙ noted) class
      (ap (λ y. class_named p (resolved_name y)) (same_Some x n e) ∙ named))
  uses-listed calls caller at (x ∷ rest) lists places (suc i) k n e noted is = λ class named.
      let one = with_noted p calls (use_of caller at) x lists in
      uses-listed calls caller (at + 1) rest one ((noted-more calls (use_of caller at) x lists).places ∙ places) i k n e noted (omega (arith, is)) class named

  -- ---- the book

  -- where memory ran out there are more of them
  pub book-more : (codes : Codes) (waiting calls waiting_more calls_more : List (List Use)) → IsBook p codes waiting calls
      → HasMore waiting waiting_more → HasMore calls calls_more → IsBook p codes waiting_more calls_more
  book-more codes waiting calls waiting_more calls_more book first second = record {
    methods = book.methods;
    places = first.places ∙ book.places;
    call_places = second.places ∙ book.call_places;
    read = book.read;
    waits = λ method at ns n c e class named. first.kept method at class (book.waits method at ns n c e class named);
    called = λ method at ns n c e call class named. second.kept method at class (book.called method at ns n c e call class named);
  }

-- ---- what was read of a method

module _ (p : Program) (codes : Codes) (waiting calls : List (List Use)) (book : IsBook p codes waiting calls) (method : ℕ) (ns : List SymbolicReference)
    (within : method < length codes) (read : ns ≡ symbolic_references_of (operations_of p method)) where
  abbrev more : Codes
  more = slice_set codes method (Some ns)

  abbrev waiting_more : List (List Use)
  waiting_more = with_uses p false method 0 ns waiting

  abbrev calls_more : List (List Use)
  calls_more = with_uses p true method 0 ns calls

  here : code_at more method ≡ Some ns
  here = ap option_flatten (slice_get-set_same codes method (Some ns) within)

  -- of the method itself, or of another
  which : (k : ℕ) (xs : List SymbolicReference) → code_at more k ≡ Some xs → ((k ≡ method) × (xs ≡ ns)) ⊎ (code_at codes k ≡ Some xs)
  which k xs e = by (k == method) refl
    where
      by : (b : Bool) → (k == method) ≡ b → ((k ≡ method) × (xs ≡ ns)) ⊎ (code_at codes k ≡ Some xs)
      by true h = let same = eqb-true k method h in inl (same, same_Some xs ns (sym e ∙ (ap (code_at more) same ∙ here)))
      by false h = inr (sym (ap option_flatten (set-other codes method k (Some ns) h)) ∙ e)

  pub book-read : IsBook p more waiting_more calls_more
  book-read = record {
    methods = set-length codes method (Some ns) ∙ book.methods;
    places = (uses-more p false method 0 ns waiting).places ∙ book.places;
    call_places = (uses-more p true method 0 ns calls).places ∙ book.call_places;
    read = λ k xs e. elim (which k xs e) [
      | inl h ↦ h.1 ∙ (read ∙ ap (λ j. symbolic_references_of (operations_of p j)) (sym h.0))
      | inr h ↦ book.read k xs h
    ];
    waits = λ k at xs n e there class named. elim (which k xs e) [
      | inl h ↦
          ap (λ j. has_use j at (list_at waiting_more class)) h.0
          ∙ uses-listed p false method 0 ns waiting book.places at at n
          ((ap (λ l. slice_get l at) (sym h.1) ∙ there)) refl (omega arith) class named
      | inr h ↦ (uses-more p false method 0 ns waiting).kept k at class (book.waits k at xs n h there class named)
    ];
    called = λ k at xs n e there call class named. elim (which k xs e) [
      | inl h ↦
          ap (λ j. has_use j at (list_at calls_more class)) h.0
          ∙ uses-listed p true method 0 ns calls book.call_places at at n
          ((ap (λ l. slice_get l at) (sym h.1) ∙ there)) call (omega arith) class named
      | inr h ↦ (uses-more p true method 0 ns calls).kept k at class (book.called k at xs n h there call class named)
    ];
  }

  -- with what it was noted in
  pub book-kept : (new_codes : Codes) (new_waiting new_calls : List (List Use)) → new_codes ≡ more → new_waiting ≡ waiting_more → new_calls ≡ calls_more
      → IsBook p new_codes new_waiting new_calls
  book-kept new_codes new_waiting new_calls first second third =
      subst (λ c. IsBook p c new_waiting new_calls) (sym first)
      (subst (λ w. IsBook p more w new_calls) (sym second) (subst (λ k. IsBook p more waiting_more k) (sym third) book-read))

  pub has-read : is_some (code_at more method) ≡ true
  has-read = ap is_some here

  pub still-read : (k : ℕ) → is_some (code_at codes k) ≡ true → is_some (code_at more k) ≡ true
  still-read k h = by (k == method) refl
    where
      by : (b : Bool) → (k == method) ≡ b → is_some (code_at more k) ≡ true
      by true e = ap (λ j. is_some (code_at more j)) (eqb-true k method e) ∙ has-read
      by false e = ap (λ o. is_some (option_flatten o)) (set-other codes method k (Some ns) e) ∙ h

-- ---- at first

empty-at : {A : Type 0} (n k : ℕ) → option_flatten (slice_get (replicate {A = Option A} n None) k) ≡ None
empty-at zero k = refl
empty-at (suc n) zero = refl
empty-at (suc n) (suc k) = empty-at n k

replicate-length : {A : Type 0} (n : ℕ) (x : A) → length (replicate n x) ≡ n
replicate-length zero x = refl
replicate-length (suc n) x = ap suc (replicate-length n x)

pub nothing-read : (p : Program) (codes : Codes) (waiting calls : List (List Use)) → codes ≡ replicate (length p.methods) None
    → waiting ≡ replicate (length p.classes) [] → calls ≡ replicate (length p.classes) [] → IsBook p codes waiting calls
nothing-read p codes waiting calls none first second = record {
  methods = ap length none ∙ replicate-length (length p.methods) None;
  places = ap length first ∙ replicate-length (length p.classes) [];
  call_places = ap length second ∙ replicate-length (length p.classes) [];
  read = λ k xs e. absurd (none-some xs (nothing k xs e));
  waits = λ k at xs n e there. absurd (none-some xs (nothing k xs e));
  called = λ k at xs n e there call. absurd (none-some xs (nothing k xs e));
}
  where
    nothing : (k : ℕ) (xs : List SymbolicReference) → code_at codes k ≡ Some xs → None ≡ Some xs
    nothing k xs e = sym (ap (λ l. code_at l k) none ∙ empty-at (length p.methods) k) ∙ e
