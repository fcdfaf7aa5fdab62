-- Arguments that are missing.
use Rattle.std.proofs.Common.{◌≡◌, ℕ, ◌<◌, ◌≤◌, List, [], false, length, refl, ap, ◌∙◌, drop, get_or}
use Rattle.std.proofs.lemmas.List.{drop_all}
use Rattle.heap_objects.specs.declared.datum.Datum.{Datum}
use Rattle.heap_objects.specs.Heaps.{HeapView}
use Rattle.native_ops.specs.declared.methods.signature.Parameter.{Parameter}
use Rattle.native_ops.specs.declared.methods.signature.Parameter.TheVariants as parameter
use Rattle.native_effects.specs.Inputs.KindsViews.{KindsView}
use Rattle.native_ops.specs.Methods.Signatures.{fit_all}
use Rattle.native_effects.proofs.ListLemmas.{drop_is}

-- a parameter is left and no argument
pub missing : (i : ℕ) (parameters : List Parameter) (kinds : KindsView) (args : List Datum) (h : HeapView) → i < length parameters
    → length args ≤ i → fit_all (drop i parameters) kinds (drop i args) h ≡ false
missing i parameters kinds args h within past =
    ap (λ vs. fit_all (drop i parameters) kinds vs h) (drop_all i args past)
    ∙ ap (λ ps. fit_all ps kinds [] h) (drop_is i parameters (get_or parameters i parameter.Int) parameter.Int within refl)
