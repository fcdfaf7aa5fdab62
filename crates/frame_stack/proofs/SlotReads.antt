-- The topmost slots, by their places, and what they hold.
use Rattle.std.proofs.Common.{◌≡◌, ℕ, zero, suc, ◌+◌, ◌-◌, ◌≤◌, ◌<◌, List, [], ◌∷◌, ◌++◌, length, take, drop, refl, sym, ap, ◌∙◌, arith}
use Rattle.std.specs.Prelude.{reverse, slice_get, Option, Some, None}
use Rattle.std.specs.Option.{option_flatten}
use Rattle.std.proofs.lemmas.List.{reverse-append, append_assoc, append-nil, length-drop, length-reverse, length-take-le}
use Rattle.std.proofs.lemmas.Bool.{false≢true}
use Rattle.heap_objects.specs.declared.Value.{Value}
use Rattle.heap_objects.specs.declared.Value.TheVariants.{Int, Long, Ref, Addr}
use Rattle.frame_stack.specs.Cuts.{operands_of, AreOperands}
use Rattle.frame_stack.specs.Rooms.{int_in, reference_in, both_in}
use Rattle.frame_stack.specs.Tops.{int_of, ints_of, reference_of, references_of, reference_and_int_of}

pub ap2 : {A B C : Type 0} (f : A → B → C) {a c : A} {b d : B} → a ≡ c → b ≡ d → f a b ≡ f c d
ap2 f p q = rw (p, q) refl

module _ {X : Type 0} where
  reverse-onto : (x : X) (xs tail : List X) → reverse (x ∷ xs) ++ tail ≡ reverse xs ++ x ∷ tail
  reverse-onto x xs tail = ap (λ ys. ys ++ tail) (reverse-append (x ∷ []) xs) ∙ append_assoc (reverse xs) (x ∷ []) tail

  last-is : (x : X) (xs tail : List X) → slice_get (x ∷ xs) (length xs) ≡ slice_get (reverse (x ∷ xs) ++ tail) 0
  last-is x [] tail = refl
  last-is x (y ∷ ys) tail = last-is y ys (x ∷ tail) ∙ ap (λ zs. slice_get zs 0) (sym (reverse-onto x (y ∷ ys) tail))

  second-is : (x y : X) (ys tail : List X) → slice_get (x ∷ y ∷ ys) (length ys) ≡ slice_get (reverse (x ∷ y ∷ ys) ++ tail) 1
  second-is x y [] tail = refl
  second-is x y (z ∷ zs) tail = second-is y z zs (x ∷ tail) ∙ ap (λ zs. slice_get zs 1) (sym (reverse-onto x (y ∷ z ∷ zs) tail))

  pub read-first : (low k : ℕ) (xs : List X) → low ≤ k → length xs ≡ k + 1 → slice_get xs k ≡ slice_get (reverse (drop low xs)) 0
  read-first low k [] le long = absurd (omega arith)
  read-first zero k (x ∷ xs) le long =
      let at : k ≡ length xs = omega arith in
      ap (slice_get (x ∷ xs)) at ∙ (last-is x xs [] ∙ ap (λ ys. slice_get ys 0) (append-nil (reverse (x ∷ xs))))
  read-first (suc low) zero (x ∷ xs) le long = absurd (omega arith)
  read-first (suc low) (suc k) (x ∷ xs) le long = read-first low k xs (omega arith) (omega arith)

  pub read-second : (low k : ℕ) (xs : List X) → low ≤ k → length xs ≡ k + 2 → slice_get xs k ≡ slice_get (reverse (drop low xs)) 1
  read-second low k [] le long = absurd (omega arith)
  read-second low k (x ∷ []) le long = absurd (omega arith)
  read-second zero k (x ∷ y ∷ ys) le long =
      let at : k ≡ length ys = omega arith in
      ap (slice_get (x ∷ y ∷ ys)) at ∙ (second-is x y ys [] ∙ ap (λ zs. slice_get zs 1) (append-nil (reverse (x ∷ y ∷ ys))))
  read-second (suc low) zero (x ∷ y ∷ ys) le long = absurd (omega arith)
  read-second (suc low) (suc k) (x ∷ xs) le long = read-second low k xs (omega arith) (omega arith)

  pub get-take : (n k : ℕ) (xs : List X) → k < n → slice_get (take n xs) k ≡ slice_get xs k
  get-take zero k xs less = absurd (omega arith)
  get-take (suc n) k [] less = refl
  get-take (suc n) zero (x ∷ xs) less = refl
  get-take (suc n) (suc k) (x ∷ xs) less = get-take n k xs (omega arith)

-- ---- what operands are on top

some-none : {A : Type 0} {x : A} → None ≡ Some x → ⊥
some-none e = cc

pub int-is : (slots : List (Option Value)) → AreOperands slots → int_in (slice_get slots 0) ≡ int_of (operands_of slots)
int-is [] h = refl
int-is (Some (Int n) ∷ slots) h = refl
int-is (Some (Long n) ∷ slots) h = refl
int-is (Some (Ref n) ∷ slots) h = refl
int-is (Some (Addr n) ∷ slots) h = refl
int-is (None ∷ []) h = absurd h
int-is (None ∷ Some (Int n) ∷ slots) h = absurd (false≢true h.0)
int-is (None ∷ Some (Long n) ∷ slots) h = refl
int-is (None ∷ Some (Ref n) ∷ slots) h = absurd (false≢true h.0)
int-is (None ∷ Some (Addr n) ∷ slots) h = absurd (false≢true h.0)
int-is (None ∷ None ∷ slots) h = absurd h

pub reference-is : (slots : List (Option Value)) → AreOperands slots → reference_in (slice_get slots 0) ≡ reference_of (operands_of slots)
reference-is [] h = refl
reference-is (Some (Int n) ∷ slots) h = refl
reference-is (Some (Long n) ∷ slots) h = refl
reference-is (Some (Ref n) ∷ slots) h = refl
reference-is (Some (Addr n) ∷ slots) h = refl
reference-is (None ∷ []) h = absurd h
reference-is (None ∷ Some (Int n) ∷ slots) h = absurd (false≢true h.0)
reference-is (None ∷ Some (Long n) ∷ slots) h = refl
reference-is (None ∷ Some (Ref n) ∷ slots) h = absurd (false≢true h.0)
reference-is (None ∷ Some (Addr n) ∷ slots) h = absurd (false≢true h.0)
reference-is (None ∷ None ∷ slots) h = absurd h

-- the two on top, where each is of its kind
pub ints-are : (slots : List (Option Value)) → AreOperands slots → both_in (int_in (slice_get slots 1)) (int_in (slice_get slots 0)) ≡ ints_of (operands_of slots)
ints-are [] h = refl
ints-are (Some (Int n) ∷ []) h = refl
ints-are (Some (Int n) ∷ Some (Int m) ∷ slots) h = refl
ints-are (Some (Int n) ∷ Some (Long m) ∷ slots) h = refl
ints-are (Some (Int n) ∷ Some (Ref m) ∷ slots) h = refl
ints-are (Some (Int n) ∷ Some (Addr m) ∷ slots) h = refl
ints-are (Some (Int n) ∷ None ∷ []) h = absurd h.1
ints-are (Some (Int n) ∷ None ∷ Some (Int m) ∷ slots) h = absurd (false≢true h.1.0)
ints-are (Some (Int n) ∷ None ∷ Some (Long m) ∷ slots) h = refl
ints-are (Some (Int n) ∷ None ∷ Some (Ref m) ∷ slots) h = absurd (false≢true h.1.0)
ints-are (Some (Int n) ∷ None ∷ Some (Addr m) ∷ slots) h = absurd (false≢true h.1.0)
ints-are (Some (Int n) ∷ None ∷ None ∷ slots) h = absurd h.1
ints-are (Some (Long n) ∷ slots) h = refl
ints-are (Some (Ref n) ∷ slots) h = refl
ints-are (Some (Addr n) ∷ slots) h = refl
ints-are (None ∷ []) h = absurd h
ints-are (None ∷ Some (Int m) ∷ slots) h = absurd (false≢true h.0)
ints-are (None ∷ Some (Long m) ∷ slots) h = refl
ints-are (None ∷ Some (Ref m) ∷ slots) h = absurd (false≢true h.0)
ints-are (None ∷ Some (Addr m) ∷ slots) h = absurd (false≢true h.0)
ints-are (None ∷ None ∷ slots) h = absurd h

-- the two on top, where each is of its kind
pub references-are : (slots : List (Option Value)) → AreOperands slots → both_in (reference_in (slice_get slots 1)) (reference_in (slice_get slots 0)) ≡ references_of (operands_of slots)
references-are [] h = refl
references-are (Some (Int n) ∷ slots) h = refl
references-are (Some (Long n) ∷ slots) h = refl
references-are (Some (Ref n) ∷ []) h = refl
references-are (Some (Ref n) ∷ Some (Int m) ∷ slots) h = refl
references-are (Some (Ref n) ∷ Some (Long m) ∷ slots) h = refl
references-are (Some (Ref n) ∷ Some (Ref m) ∷ slots) h = refl
references-are (Some (Ref n) ∷ Some (Addr m) ∷ slots) h = refl
references-are (Some (Ref n) ∷ None ∷ []) h = absurd h.1
references-are (Some (Ref n) ∷ None ∷ Some (Int m) ∷ slots) h = absurd (false≢true h.1.0)
references-are (Some (Ref n) ∷ None ∷ Some (Long m) ∷ slots) h = refl
references-are (Some (Ref n) ∷ None ∷ Some (Ref m) ∷ slots) h = absurd (false≢true h.1.0)
references-are (Some (Ref n) ∷ None ∷ Some (Addr m) ∷ slots) h = absurd (false≢true h.1.0)
references-are (Some (Ref n) ∷ None ∷ None ∷ slots) h = absurd h.1
references-are (Some (Addr n) ∷ slots) h = refl
references-are (None ∷ []) h = absurd h
references-are (None ∷ Some (Int m) ∷ slots) h = absurd (false≢true h.0)
references-are (None ∷ Some (Long m) ∷ slots) h = refl
references-are (None ∷ Some (Ref m) ∷ slots) h = absurd (false≢true h.0)
references-are (None ∷ Some (Addr m) ∷ slots) h = absurd (false≢true h.0)
references-are (None ∷ None ∷ slots) h = absurd h

-- the two on top, where each is of its kind
pub reference-and-int-are : (slots : List (Option Value)) → AreOperands slots → both_in (reference_in (slice_get slots 1)) (int_in (slice_get slots 0)) ≡ reference_and_int_of (operands_of slots)
reference-and-int-are [] h = refl
reference-and-int-are (Some (Int n) ∷ []) h = refl
reference-and-int-are (Some (Int n) ∷ Some (Int m) ∷ slots) h = refl
reference-and-int-are (Some (Int n) ∷ Some (Long m) ∷ slots) h = refl
reference-and-int-are (Some (Int n) ∷ Some (Ref m) ∷ slots) h = refl
reference-and-int-are (Some (Int n) ∷ Some (Addr m) ∷ slots) h = refl
reference-and-int-are (Some (Int n) ∷ None ∷ []) h = absurd h.1
reference-and-int-are (Some (Int n) ∷ None ∷ Some (Int m) ∷ slots) h = absurd (false≢true h.1.0)
reference-and-int-are (Some (Int n) ∷ None ∷ Some (Long m) ∷ slots) h = refl
reference-and-int-are (Some (Int n) ∷ None ∷ Some (Ref m) ∷ slots) h = absurd (false≢true h.1.0)
reference-and-int-are (Some (Int n) ∷ None ∷ Some (Addr m) ∷ slots) h = absurd (false≢true h.1.0)
reference-and-int-are (Some (Int n) ∷ None ∷ None ∷ slots) h = absurd h.1
reference-and-int-are (Some (Long n) ∷ slots) h = refl
reference-and-int-are (Some (Ref n) ∷ slots) h = refl
reference-and-int-are (Some (Addr n) ∷ slots) h = refl
reference-and-int-are (None ∷ []) h = absurd h
reference-and-int-are (None ∷ Some (Int m) ∷ slots) h = absurd (false≢true h.0)
reference-and-int-are (None ∷ Some (Long m) ∷ slots) h = refl
reference-and-int-are (None ∷ Some (Ref m) ∷ slots) h = absurd (false≢true h.0)
reference-and-int-are (None ∷ Some (Addr m) ∷ slots) h = absurd (false≢true h.0)
reference-and-int-are (None ∷ None ∷ slots) h = absurd h

no-first : {A B : Type 0} (x : Option B) → both_in {A = A} None x ≡ None
no-first None = refl
no-first (Some b) = refl

few-ints : (slots : List (Option Value)) → AreOperands slots → length slots < 2 → None ≡ ints_of (operands_of slots)
few-ints [] h few = refl
few-ints (x ∷ []) h few = sym (no-first (int_in (Some x))) ∙ ints-are (x ∷ []) h
few-ints (x ∷ y ∷ slots) h few = absurd (omega arith)

few-references : (slots : List (Option Value)) → AreOperands slots → length slots < 2 → None ≡ references_of (operands_of slots)
few-references [] h few = refl
few-references (x ∷ []) h few = sym (no-first (reference_in (Some x))) ∙ references-are (x ∷ []) h
few-references (x ∷ y ∷ slots) h few = absurd (omega arith)

few-reference-and-int : (slots : List (Option Value)) → AreOperands slots → length slots < 2 → None ≡ reference_and_int_of (operands_of slots)
few-reference-and-int [] h few = refl
few-reference-and-int (x ∷ []) h few = sym (no-first (int_in (Some x))) ∙ reference-and-int-are (x ∷ []) h
few-reference-and-int (x ∷ y ∷ slots) h few = absurd (omega arith)

-- ---- by where they stand among all slots

pub int-read : (low k : ℕ) (xs : List (Option Value)) → low ≤ k → length xs ≡ k + 1 → AreOperands (reverse (drop low xs))
    → int_in (slice_get xs k) ≡ int_of (operands_of (reverse (drop low xs)))
int-read low k xs le long h = ap int_in (read-first low k xs le long) ∙ int-is (reverse (drop low xs)) h

pub reference-read : (low k : ℕ) (xs : List (Option Value)) → low ≤ k → length xs ≡ k + 1 → AreOperands (reverse (drop low xs))
    → reference_in (slice_get xs k) ≡ reference_of (operands_of (reverse (drop low xs)))
reference-read low k xs le long h = ap reference_in (read-first low k xs le long) ∙ reference-is (reverse (drop low xs)) h

pub ints-read : (low k : ℕ) (xs : List (Option Value)) → low ≤ k → length xs ≡ k + 2 → AreOperands (reverse (drop low xs))
    → both_in (int_in (slice_get xs k)) (int_in (slice_get xs (k + 1))) ≡ ints_of (operands_of (reverse (drop low xs)))
ints-read low k xs le long h =
    ap2 both_in (ap int_in (read-second low k xs le long)) (ap int_in (read-first low (k + 1) xs (omega arith) (omega arith))) ∙ ints-are (reverse (drop low xs)) h

pub references-read : (low k : ℕ) (xs : List (Option Value)) → low ≤ k → length xs ≡ k + 2 → AreOperands (reverse (drop low xs))
    → both_in (reference_in (slice_get xs k)) (reference_in (slice_get xs (k + 1))) ≡ references_of (operands_of (reverse (drop low xs)))
references-read low k xs le long h =
    ap2 both_in (ap reference_in (read-second low k xs le long)) (ap reference_in (read-first low (k + 1) xs (omega arith) (omega arith))) ∙ references-are (reverse (drop low xs)) h

pub reference-and-int-read : (low k : ℕ) (xs : List (Option Value)) → low ≤ k → length xs ≡ k + 2 → AreOperands (reverse (drop low xs))
    → both_in (reference_in (slice_get xs k)) (int_in (slice_get xs (k + 1))) ≡ reference_and_int_of (operands_of (reverse (drop low xs)))
reference-and-int-read low k xs le long h =
    ap2 both_in (ap reference_in (read-second low k xs le long)) (ap int_in (read-first low (k + 1) xs (omega arith) (omega arith))) ∙ reference-and-int-are (reverse (drop low xs)) h

pub no-ints : (low : ℕ) (xs : List (Option Value)) → length xs - low < 2 → AreOperands (reverse (drop low xs))
    → None ≡ ints_of (operands_of (reverse (drop low xs)))
no-ints low xs few h = few-ints (reverse (drop low xs)) h (omega (arith, length-reverse (drop low xs), length-drop low xs))

pub no-references : (low : ℕ) (xs : List (Option Value)) → length xs - low < 2 → AreOperands (reverse (drop low xs))
    → None ≡ references_of (operands_of (reverse (drop low xs)))
no-references low xs few h = few-references (reverse (drop low xs)) h (omega (arith, length-reverse (drop low xs), length-drop low xs))

pub no-reference-and-int : (low : ℕ) (xs : List (Option Value)) → length xs - low < 2 → AreOperands (reverse (drop low xs))
    → None ≡ reference_and_int_of (operands_of (reverse (drop low xs)))
no-reference-and-int low xs few h = few-reference-and-int (reverse (drop low xs)) h (omega (arith, length-reverse (drop low xs), length-drop low xs))

-- ---- the topmost value

head-some : (slots : List (Option Value)) (v : Value) → AreOperands slots → option_flatten (slice_get slots 0) ≡ Some v → Some v ≡ slice_get (operands_of slots) 0
head-some [] v h e = absurd (some-none e)
head-some (Some w ∷ slots) v h e = sym e
head-some (None ∷ slots) v h e = absurd (some-none e)

two-there : (slots : List (Option Value)) → AreOperands slots → option_flatten (slice_get slots 0) ≡ None → 0 < length slots → 2 ≤ length slots
two-there [] h e some = absurd (omega arith)
two-there (Some w ∷ slots) h e some = absurd (some-none (sym e))
two-there (None ∷ []) h e some = absurd h
two-there (None ∷ x ∷ slots) h e some = omega arith

head-long : (slots : List (Option Value)) → AreOperands slots → option_flatten (slice_get slots 0) ≡ None → option_flatten (slice_get slots 1) ≡ slice_get (operands_of slots) 0
head-long [] h e = refl
head-long (Some w ∷ slots) h e = absurd (some-none (sym e))
head-long (None ∷ []) h e = absurd h
head-long (None ∷ Some w ∷ slots) h e = refl
head-long (None ∷ None ∷ slots) h e = absurd h

-- those that stand from `low` on and before `end`
module _ (low k : ℕ) (xs : List (Option Value)) where
  first-of : (end : ℕ) → low ≤ k → end ≡ k + 1 → end ≤ length xs → slice_get xs k ≡ slice_get (reverse (drop low (take end xs))) 0
  first-of end le at within =
      sym (get-take end k xs (omega arith)) ∙ read-first low k (take end xs) le (omega (arith, length-take-le end xs within))

  second-of : (end : ℕ) → low ≤ k → end ≡ k + 2 → end ≤ length xs → slice_get xs k ≡ slice_get (reverse (drop low (take end xs))) 1
  second-of end le at within =
      sym (get-take end k xs (omega arith)) ∙ read-second low k (take end xs) le (omega (arith, length-take-le end xs within))

pub top-some : (low end : ℕ) (xs : List (Option Value)) (v : Value) → low < end → end ≤ length xs → AreOperands (reverse (drop low (take end xs)))
    → option_flatten (slice_get xs (end - 1)) ≡ Some v → Some v ≡ slice_get (operands_of (reverse (drop low (take end xs)))) 0
top-some low end xs v some within h e =
    head-some (reverse (drop low (take end xs))) v h (ap option_flatten (sym (first-of low (end - 1) xs end (omega arith) (omega arith) within)) ∙ e)

pub top-long : (low end : ℕ) (xs : List (Option Value)) → low < end → end ≤ length xs → AreOperands (reverse (drop low (take end xs)))
    → option_flatten (slice_get xs (end - 1)) ≡ None → option_flatten (slice_get xs (end - 2)) ≡ slice_get (operands_of (reverse (drop low (take end xs)))) 0
top-long low end xs some within h e =
    let slots = reverse (drop low (take end xs)) in
    let none : option_flatten (slice_get slots 0) ≡ None = ap option_flatten (sym (first-of low (end - 1) xs end (omega arith) (omega arith) within)) ∙ e in
    let long : length slots ≡ end - low = omega (arith, length-reverse (drop low (take end xs)), length-drop low (take end xs), length-take-le end xs within) in
    let two : 2 ≤ length slots = two-there slots h none (omega arith) in
    ap option_flatten (second-of low (end - 2) xs end (omega arith) (omega arith) within) ∙ head-long slots h none
