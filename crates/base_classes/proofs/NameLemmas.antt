-- The names of the built-in classes and their hashes.
use Rattle.std.proofs.Common.{◌≡◌, ℕ, zero, suc, ◌+◌, Bool, true, false, List, [], ◌∷◌, map, Option, Some, None, IfSome, is_some, slice_get, ⊎_elim, refl, sym, ap, subst, ◌∙◌, arith}
use Rattle.std.specs.Prelude.{◌==◌}
use Rattle.std.specs.List.{list_any}
use Rattle.std.specs.Str.{bytes_eq}
use Rattle.std.specs.Option.{option_map, option_map_or}
use Rattle.std.proofs.lemmas.Bool.{and_parts, or_cases, eqb-true}
use Rattle.std.proofs.lemmas.Slice.Eq.{bytes_eq-Decides}
use Rattle.std.proofs.Math.Bool.{or-true}
use Rattle.const_pool.specs.BuiltIn.{built_in_names}
use Rattle.base_classes.specs.Declarations.{ClassDeclaration}
use Rattle.base_classes.specs.BuiltInClasses.{built_in_classes}
use Rattle.base_classes.specs.ObjectClasses.{object_classes}
use Rattle.base_classes.specs.TextClasses.{text_classes}
use Rattle.base_classes.specs.StreamClasses.{stream_classes}
use Rattle.base_classes.specs.ValueClasses.{value_classes}
use Rattle.base_classes.specs.ThrowableClasses.{throwable_classes}
use Rattle.base_classes.specs.Hashes.{hash_of, finds_from, finds_each}
use Rattle.std.proofs.lemmas.Option.{slice_get-map}

pub names_are : map (λ d. d.name) built_in_classes ≡ built_in_names
unfolding built_in_classes object_classes text_classes stream_classes value_classes throwable_classes
names_are = refl

mapped_name : (place : ℕ) → option_map (λ d. d.name) (slice_get built_in_classes place) ≡ slice_get built_in_names place
mapped_name place = sym (slice_get-map (λ d. d.name) built_in_classes place) ∙ ap (λ (names : List (List ℕ)). slice_get names place) names_are

-- the name of what stands at a place
pub name_found : (place : ℕ) (d : ClassDeclaration) → Some d ≡ slice_get built_in_classes place → Some d.name ≡ slice_get built_in_names place
name_found place d e = ap (option_map (λ d. d.name)) e ∙ mapped_name place

pub name_missed : (place : ℕ) → None ≡ slice_get built_in_classes place → None ≡ slice_get built_in_names place
name_missed place e = ap (option_map (λ d. d.name)) e ∙ mapped_name place

some_from : (o : Option ℕ) (n : ℕ) → option_map_or (λ found. found == n) o false ≡ true → o ≡ Some n
some_from (Some m) n h = ap (λ (k : ℕ). Some k) (eqb-true m n h)
some_from None n h = absurd cc

found_from : (slots : List ℕ) (from : ℕ) (names : List (List ℕ)) (k : ℕ) (name : List ℕ) → finds_from slots from names ≡ true
    → slice_get names k ≡ Some name → slice_get slots (hash_of name) ≡ Some (from + k)
found_from slots from [] k name h at = absurd cc
found_from slots from (first ∷ names) zero name h at =
    let parts = and_parts (option_map_or (λ found. found == from) (slice_get slots (hash_of first)) false) (finds_from slots (from + 1) names) h in
    let same : first ≡ name = cc in
    let end : from ≡ from + zero = omega arith in
    subst (λ n. slice_get slots (hash_of n) ≡ Some (from + zero)) same (some_from _ from parts.0 ∙ ap (λ (k : ℕ). Some k) end)
found_from slots from (first ∷ names) (suc k) name h at =
    let parts = and_parts (option_map_or (λ found. found == from) (slice_get slots (hash_of first)) false) (finds_from slots (from + 1) names) h in
    let end : (from + 1) + k ≡ from + suc k = omega arith in
    found_from slots (from + 1) names k name parts.1 at ∙ ap (λ (k : ℕ). Some k) end

pub place_found : (slots : List ℕ) (slot place : ℕ) (name : List ℕ) → finds_each slots ≡ true → Some slot ≡ slice_get slots (hash_of name)
    → slice_get built_in_names place ≡ Some name → Some slot ≡ Some place
place_found slots slot place name h here at = here ∙ found_from slots 0 built_in_names place name h at ∙ ap (λ (k : ℕ). Some k) (omega arith)

pub place_missed : (slots : List ℕ) (place : ℕ) (name : List ℕ) → finds_each slots ≡ true → None ≡ slice_get slots (hash_of name)
    → slice_get built_in_names place ≡ Some name → None ≡ Some place
place_missed slots place name h here at = here ∙ found_from slots 0 built_in_names place name h at ∙ ap (λ (k : ℕ). Some k) (omega arith)

-- ---- whether a name is one of them

any_at : (name : List ℕ) (names : List (List ℕ)) (k : ℕ) → slice_get names k ≡ Some name → list_any (bytes_eq name) names ≡ true
any_at name [] k at = absurd cc
any_at name (first ∷ names) zero at = let same : name ≡ first = cc in rw ((bytes_eq-Decides name first).1 same) refl
any_at name (first ∷ names) (suc k) at = rw (any_at name names k at) (or-true (bytes_eq name first))

any_found : (name : List ℕ) (names : List (List ℕ)) → list_any (bytes_eq name) names ≡ true → (k : ℕ) × (slice_get names k ≡ Some name)
any_found name [] h = absurd cc
any_found name (first ∷ names) h =
    ⊎_elim
    (λ here. (zero, ap (λ (t : List ℕ). Some t) (sym ((bytes_eq-Decides name first).0 here))))
    (λ there. let found = any_found name names there in (suc found.0, found.1))
    (or_cases (bytes_eq name first) (list_any (bytes_eq name) names) h)

pub is_among : (name : List ℕ) (place : Option ℕ) → IfSome place (λ k. slice_get built_in_names k ≡ Some name)
    → ((k : ℕ) → slice_get built_in_names k ≡ Some name → place ≡ Some k) → is_some place ≡ list_any (bytes_eq name) built_in_names
is_among name (Some k) found only = sym (any_at name built_in_names k found)
is_among name None found only = by_test (list_any (bytes_eq name) built_in_names) refl
  where
    by_test : (b : Bool) → list_any (bytes_eq name) built_in_names ≡ b → false ≡ list_any (bytes_eq name) built_in_names
    by_test false is = sym is
    by_test true is = let found = any_found name built_in_names is in let at = only found.0 found.1 in absurd cc
