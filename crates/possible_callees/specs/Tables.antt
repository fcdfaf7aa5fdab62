-- Lists that are kept by number, and numbers that are gathered.
use Rattle.std.specs.Prelude.{◌≡◌, ◌<◌, ℕ, zero, suc, List, [], ◌∷◌, ◌++◌, replicate, slice_get, unwrap_or, ◌||◌}
use Rattle.std.specs.List.{AllByRecursion}
use Rattle.jvm_model.specs.Classes.Load.{is_among}

-- the list with this number; there is nothing in others
abbrev pub list_at : {A : Type 0} → List (List A) → ℕ → List A
list_at lists n = unwrap_or (slice_get lists n) []

-- an item more in the list with this number, where there is one
abbrev pub with_item : {A : Type 0} → ℕ → A → List (List A) → List (List A)
with_item n item [] = []
with_item zero item (list ∷ lists) = (list ++ item ∷ []) ∷ lists
with_item (suc n) item (list ∷ lists) = list ∷ with_item n item lists

-- the second list is the first with so many of an item behind it
pub record IsPadded {A : Type 0} (item : A) (before after : List A) : Type 0 where
  pub count : ℕ
  pub is : after ≡ before ++ replicate count item

-- the second list has what the first one and these have
abbrev pub Adds : List ℕ → List ℕ → List ℕ → Type 0
Adds before after more = (m : ℕ) → is_among m after ≡ (is_among m before || is_among m more)

-- each number is below those behind it
abbrev pub IsRising : List ℕ → Type 0
IsRising [] = Unit {0}
IsRising (n ∷ rest) = AllByRecursion (λ m. n < m) rest × IsRising rest

-- the second list begins with the first
pub record IsPrefix (xs ys : List ℕ) : Type 0 where
  pub rest : List ℕ
  pub is : ys ≡ xs ++ rest
