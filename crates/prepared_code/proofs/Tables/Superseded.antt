-- A version in which its method begins.
use Rattle.std.proofs.Common.{◌≡◌, ℕ, true, false, List, Option, Some, ap, ◌∙◌}
use Rattle.std.specs.Prelude.{not, ◌==◌}
use Rattle.std.specs.Option.{option_map}
use Rattle.method_versions.specs.Tables.{current_in, held_in, is_number, is_old, is_superseded_in}
use Rattle.prepared_code.specs.Tables.{Version}

-- a version that is held, and in which its method begins, is not superseded
pub is_current : (slots : List (Option Version)) (current : List ℕ) (version : ℕ) (held : Version) (now : ℕ) → held_in slots version ≡ Some held
    → current_in current held.method ≡ Some now → (now == version) ≡ true → is_superseded_in slots current version ≡ false
is_current slots current version held now there begins same =
    ap (λ o. is_old current version (option_map (λ (x : Version). x.method) o)) there
    ∙ (ap (λ o. not (is_number version o)) begins ∙ ap not same)
