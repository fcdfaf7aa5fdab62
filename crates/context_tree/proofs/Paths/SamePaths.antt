-- Paths that are the same, and a path that goes on by one method.
use Rattle.std.proofs.Common.{◌≡◌, ℕ, true, false, ◌&&◌, List, [], ◌∷◌, ◌++◌, refl, ap, sym, ◌∙◌, nat_eq, length, arith}
use Rattle.std.specs.Bool.{Decides}
use Rattle.std.proofs.lemmas.Bool.{false_from_ne_true, ne_eqb}
use Rattle.std.proofs.lemmas.Bool.Decides.{same_from_decides, Decides-eqb, Decides-and, Decides-like}
use Rattle.std.proofs.lemmas.List.{same_from_push, length_push}
use Rattle.std.proofs.lemmas.Slice.Eq.{bytes_eq-Decides}
use Rattle.jvm_model.specs.Profiling.Paths.{same_path, is_outside}
use Rattle.context_tree.specs.Profiles.{parent_path, last_method}

pub same_path-is : (p q : List ℕ) → same_path p q ≡ true → p ≡ q
same_path-is p q h = (bytes_eq-Decides p q).0 h

pub same_path-refl : (p : List ℕ) → same_path p p ≡ true
same_path-refl p = (bytes_eq-Decides p p).1 refl

pub same_path-sym : (p q : List ℕ) → same_path p q ≡ same_path q p
same_path-sym p q = same_from_decides _ _ (bytes_eq-Decides p q) (Decides-like _ (λ e. sym e) (λ e. sym e) (bytes_eq-Decides q p))

pub same_path-apart : (p q : List ℕ) → (p ≡ q → ⊥) → same_path p q ≡ false
same_path-apart p q h = false_from_ne_true (same_path p q) (λ e. h (same_path-is p q e))

pub same_path-push : (p q : List ℕ) (m n : ℕ) → same_path (p ++ m ∷ []) (q ++ n ∷ []) ≡ (same_path p q && nat_eq m n)
same_path-push p q m n =
    let both : Decides (same_path p q && nat_eq m n) ((p ≡ q) × (m ≡ n)) = Decides-and _ _ (bytes_eq-Decides p q) (Decides-eqb m n) in
    same_from_decides _ _ (bytes_eq-Decides (p ++ m ∷ []) (q ++ n ∷ []))
    (Decides-like _ (λ h. ap (λ r. r ++ m ∷ []) h.0 ∙ ap (λ k. q ++ k ∷ []) h.1) (λ e. same_from_push p q m n e) both)

pub parent_path-push : (p : List ℕ) (m : ℕ) → parent_path (p ++ m ∷ []) ≡ p
parent_path-push [] m = refl
parent_path-push (x ∷ []) m = refl
parent_path-push (x ∷ y ∷ rest) m = ap (λ r. x ∷ r) (parent_path-push (y ∷ rest) m)

pub last_method-push : (p : List ℕ) (m : ℕ) → last_method (p ++ m ∷ []) ≡ m
last_method-push [] m = refl
last_method-push (x ∷ []) m = refl
last_method-push (x ∷ y ∷ rest) m = last_method-push (y ∷ rest) m

pub is_outside-cons : (m : ℕ) (p : List ℕ) → is_outside (m ∷ p) ≡ false
is_outside-cons m p = ne_eqb (length (m ∷ p)) 0 (λ e. absurd (omega (arith, e)))

pub is_outside-push : (p : List ℕ) (m : ℕ) → is_outside (p ++ m ∷ []) ≡ false
is_outside-push [] m = refl
is_outside-push (x ∷ p) m = is_outside-cons x (p ++ m ∷ [])

-- a path with a method is its parent's path and its last method
pub path-split : (p : List ℕ) → is_outside p ≡ false → parent_path p ++ last_method p ∷ [] ≡ p
path-split [] h = cc
path-split (x ∷ []) h = refl
path-split (x ∷ y ∷ rest) h = ap (λ r. x ∷ r) (path-split (y ∷ rest) (is_outside-cons y rest))

-- a path that goes on is another one
pub path-goes_on : (p : List ℕ) (m : ℕ) → same_path p (p ++ m ∷ []) ≡ false
path-goes_on p m = same_path-apart p (p ++ m ∷ []) (λ e. absurd (omega (arith, ap length e, length_push p m)))
