-- The texts of a member that has a wanted name and descriptor.
use Rattle.std.proofs.Common.{◌≡◌, ℕ, true, false, List, ap, refl, ◌∙◌}
use Rattle.std.specs.Prelude.{Option, Some, None}
use Rattle.std.specs.Option.{option_map_or}
use Rattle.std.proofs.lemmas.Slice.Eq.{bytes_eq-Decides}
use Rattle.std.proofs.lemmas.Bool.{false≢true}
use Rattle.const_pool.specs.declared.pool.Const.{Const}
use Rattle.const_pool.specs.References.{named_text, same_text_at}
use Rattle.jvm_model.specs.Basis.Descriptors.{same_text}

pub text_is : (pool : List Const) (i : ℕ) (text : List ℕ) → same_text_at pool i text ≡ true → named_text pool i ≡ Some text
text_is pool i text h = by (named_text pool i) refl h
  where
    by : (o : Option (List ℕ)) → named_text pool i ≡ o → option_map_or (λ found. same_text found text) o false ≡ true → named_text pool i ≡ Some text
    by None is k = absurd (false≢true k)
    by (Some found) is k = is ∙ ap Some ((bytes_eq-Decides found text).0 k)
