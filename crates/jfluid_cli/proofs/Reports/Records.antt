-- The records of swaps, one after another.
use Rattle.std.proofs.Common.{◌≡◌, ℕ, zero, suc, List, [], ◌∷◌, ◌++◌, take, Some, None, refl, sym, ap, ◌∙◌}
use Rattle.std.specs.Prelude.{slice_get}
use Rattle.std.proofs.lemmas.List.{append_assoc}
use Rattle.std.proofs.lemmas.Option.{same_Some}
use Rattle.jvm_model.specs.Running.Growth.{Extends}
use Rattle.profile_session.specs.declared.swap.Swap.{Swap}
use Rattle.jfluid_cli.specs.Images.{swap_record, swap_records}

-- the record of a swap comes behind those before it
pub records-more : (swaps : List Swap) (at : ℕ) (swap : Swap) → slice_get swaps at ≡ Some swap
    → swap_records (take (suc at) swaps) ≡ swap_records (take at swaps) ++ swap_record swap
records-more [] at swap there = absurd (let no : None ≡ Some swap → ⊥ = λ e. cc in no there)
records-more (x ∷ more) zero swap there =
    append_nothing (swap_record x) ∙ ap swap_record (same_Some x swap there)
  where
    append_nothing : (bytes : List ℕ) → bytes ++ [] ≡ bytes
    append_nothing [] = refl
    append_nothing (b ∷ rest) = ap (λ bs. b ∷ bs) (append_nothing rest)
records-more (x ∷ more) (suc at) swap there =
    ap (λ bytes. swap_record x ++ bytes) (records-more more at swap there)
    ∙ sym (append_assoc (swap_record x) (swap_records (take at more)) (swap_record swap))

-- and behind it come those of the other swaps
pub records-front : (swaps : List Swap) (at : ℕ) (swap : Swap) → slice_get swaps at ≡ Some swap
    → Extends (swap_records (take at swaps) ++ swap_record swap) (swap_records swaps)
records-front [] at swap there = absurd (let no : None ≡ Some swap → ⊥ = λ e. cc in no there)
records-front (x ∷ more) zero swap there = record {
  more = swap_records more;
  longer = ap (λ (s : Swap). swap_record s ++ swap_records more) (same_Some x swap there);
}
records-front (x ∷ more) (suc at) swap there =
    let rest = records-front more at swap there in
    let first = swap_record x in
    let front = swap_records (take at more) in
    record {
      more = rest.more;
      longer = ap (λ bytes. first ++ bytes) rest.longer
          ∙ (sym (append_assoc first (front ++ swap_record swap) rest.more)
          ∙ ap (λ bytes. bytes ++ rest.more) (sym (append_assoc first front (swap_record swap))));
    }
