-- Keys that are seen as the names that they hold.
use Rattle.std.proofs.Common.{◌≡◌, Bool, true, false, List, [], ◌∷◌, ◌++◌, refl, ap, ◌∙◌, ℕ}
use Rattle.std.specs.Prelude.{map, ◌||◌, if◌then◌else◌}
use Rattle.std.specs.List.{list_any}
use Rattle.std.proofs.lemmas.List.{map-append}
use Rattle.jvm_model.specs.Basis.Descriptors.{same_text}
use Rattle.admit_check.specs.Stages.{with_name}

-- a test of what the keys hold
pub any_seen : {K : Type 0} (g : K → List ℕ) (test : List ℕ → Bool) (keys : List K) → list_any (λ key. test (g key)) keys ≡ list_any test (map g keys)
any_seen g test [] = refl
any_seen g test (key ∷ keys) = ap (λ b. test (g key) || b) (any_seen g test keys)

put_last : {K : Type 0} (g : K → List ℕ) (is_there : Bool) (keys : List K) (key : K)
    → map g (if is_there then keys else keys ++ key ∷ []) ≡ (if is_there then map g keys else map g keys ++ g key ∷ [])
put_last g true keys key = refl
put_last g false keys key = map-append g keys (key ∷ [])

-- a key more, if none is equal to it
pub key_seen : {K : Type 0} (g : K → List ℕ) (keys : List K) (key : K) (names : List (List ℕ)) (name : List ℕ) → g key ≡ name → map g keys ≡ names
    → map g (if list_any (λ other. same_text (g key) (g other)) keys then keys else keys ++ key ∷ []) ≡ with_name names name
key_seen g keys key names name is view =
    put_last g (list_any (λ other. same_text (g key) (g other)) keys) keys key
    ∙ (ap (λ (b : Bool). if b then map g keys else map g keys ++ g key ∷ []) (any_seen g (same_text (g key)) keys)
    ∙ (ap (λ (seen : List (List ℕ)). with_name seen (g key)) view ∙ ap (with_name names) is))
