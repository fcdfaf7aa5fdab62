-- Looking through lists that follow one another.
use Rattle.std.proofs.Common.{◌≡◌, ℕ, zero, suc, ◌+◌, ◌-◌, ◌<◌, List, [], ◌∷◌, ◌++◌, length, Some, None, slice_get, get_or, drop, add-one, sym, ap, ◌∙◌, arith}
use Rattle.std.specs.List.{flat_map}
use Rattle.std.proofs.Math.Seq.{drop-cons}
use Rattle.jf_bytes.proofs.Lists.{slice_get-front}

pub slice_get-behind : {A : Type 0} (xs ys : List A) (i : ℕ) → slice_get xs i ≡ None → slice_get (xs ++ ys) i ≡ slice_get ys (i - length xs)
slice_get-behind [] ys i h = ap (slice_get ys) (omega arith)
slice_get-behind (y ∷ xs) ys zero h = absurd cc
slice_get-behind (y ∷ xs) ys (suc i) h =
    let less : i - length xs ≡ suc i - length (y ∷ xs) = omega arith in
    slice_get-behind xs ys i h ∙ ap (slice_get ys) less

-- ---- lists that a function gives

section_of : {G A : Type 0} (f : G → List A) (groups : List G) (i : ℕ) (d : G) → i < length groups
    → flat_map f (drop i groups) ≡ f (get_or groups i d) ++ flat_map f (drop (i + 1) groups)
section_of f groups i d h = rw (add-one, drop-cons groups i d)

pub found_among : {G A : Type 0} (f : G → List A) (groups : List G) (i : ℕ) (d : G) (place first : ℕ) (x : A) → i < length groups
    → slice_get (flat_map f (drop i groups)) place ≡ slice_get (flat_map f groups) first
    → slice_get (f (get_or groups i d)) place ≡ Some x
    → Some x ≡ slice_get (flat_map f groups) first
found_among f groups i d place first x h same here =
    sym (slice_get-front (f (get_or groups i d)) (flat_map f (drop (i + 1) groups)) place x here)
    ∙ ap (λ (xs : List _). slice_get xs place) (sym (section_of f groups i d h)) ∙ same

pub passed_one : {G A : Type 0} (f : G → List A) (groups : List G) (i : ℕ) (d : G) (place first n : ℕ) → i < length groups
    → slice_get (flat_map f (drop i groups)) place ≡ slice_get (flat_map f groups) first
    → slice_get (f (get_or groups i d)) place ≡ None → length (f (get_or groups i d)) ≡ n
    → slice_get (flat_map f (drop (i + 1) groups)) (place - n) ≡ slice_get (flat_map f groups) first
passed_one f groups i d place first n h same here long =
    ap (λ (k : ℕ). slice_get (flat_map f (drop (i + 1) groups)) (place - k)) (sym long)
    ∙ sym (slice_get-behind (f (get_or groups i d)) (flat_map f (drop (i + 1) groups)) place here)
    ∙ ap (λ (xs : List _). slice_get xs place) (sym (section_of f groups i d h)) ∙ same
