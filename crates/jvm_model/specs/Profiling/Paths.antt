-- Paths and contexts: activations are merged exactly where they have the same path, the list of methods from the
-- outermost root activation down (a calling-context tree, Ammons, Ball and Larus 1997, in which recursion is not
-- folded).
use Rattle.std.specs.Prelude.{ℕ, Bool, not, List, [], ◌∷◌, length, map, filter, count_by, nat_eq, ◌==◌}
use Rattle.std.specs.List.{starts_with}
use Rattle.std.specs.Str.{bytes_eq}

abbrev pub same_path : List ℕ → List ℕ → Bool
same_path = bytes_eq

-- of no activation, or of one that is not profiled
abbrev pub is_outside : List ℕ → Bool
is_outside path = length path == 0

abbrev pub is_inside : List ℕ → Bool
is_inside path = not (is_outside path)

-- each path once, in order of its first place
abbrev pub distinct : List (List ℕ) → List (List ℕ)
distinct [] = []
distinct (p ∷ ps) = p ∷ filter (λ q. not (same_path p q)) (distinct ps)

-- A path with its counts: how many activations had it, and how many steps those made.
pub record Context : Type 0 where
  pub path : List ℕ
  pub calls : ℕ
  pub own : ℕ

-- the context of a path, counted over the path of each activation and over the path of each step
abbrev pub context_of : List (List ℕ) → List (List ℕ) → List ℕ → Context
context_of begun made path = record { path = path; calls = count_by (same_path path) begun; own = count_by (same_path path) made }

-- the contexts of all paths that activations had, in order of first begin
abbrev pub contexts_of : List (List ℕ) → List (List ℕ) → List Context
contexts_of begun made = map (context_of begun made) (distinct (filter is_inside begun))

-- the steps of a path and of all that go on from it
abbrev pub is_within : List ℕ → Context → Bool
is_within path c = starts_with nat_eq c.path path
