-- The table of families is the definition's, row by row.
use Rattle.std.proofs.Common.{◌≡◌, ℕ, ◌<◌, map, Some, sym, ◌∙◌, subst, refl, arith}
use Rattle.std.specs.Prelude.{slice_get}
use Rattle.std.specs.List.{range_with_len}
use Rattle.std.proofs.lemmas.List.FromFn.{length-map-range_with_len, get_or-map-range_with_len}
use Rattle.std.proofs.lemmas.Option.{slice_get_within, get_or_from_slice_get}
use Rattle.jvm_model.specs.declared.family.Family.{Family}
use Rattle.jvm_model.specs.declared.families.TheConstants.{FAMILIES}
use Rattle.jvm_model.specs.Basis.Families.{rows, family_of}

families_are : FAMILIES ≡ map family_of (range_with_len 0 256)
unfolding family_of rows
families_are = refl

entry_of : (f : ℕ → Family) (n i : ℕ) (r : Family) → slice_get (map f (range_with_len 0 n)) i ≡ Some r → r ≡ f i
entry_of f n i r h =
    let within = slice_get_within (map f (range_with_len 0 n)) i r h in
    let below : i < n = subst (λ k. i < k) (length-map-range_with_len f 0 n) within in
    sym (get_or_from_slice_get (map f (range_with_len 0 n)) i r r h) ∙ get_or-map-range_with_len f 0 n i i r below (omega arith)

pub family_at : (op : ℕ) (r : Family) → slice_get FAMILIES op ≡ Some r → r ≡ family_of op
family_at op r h = entry_of family_of 256 op r (subst (λ rows. slice_get rows op ≡ Some r) families_are h)
