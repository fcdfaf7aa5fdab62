-- The table of the native methods is the definition's.
use Rattle.std.proofs.Common.{◌≡◌, ℕ, Some, subst, refl}
use Rattle.std.specs.Prelude.{slice_get}
use Rattle.native_ops.specs.declared.methods.rows.Row.{Row}
use Rattle.native_ops.specs.declared.methods.rows.TheConstants.{ROWS}
use Rattle.native_ops.specs.Methods.Rows.{rows}

rows_are : ROWS ≡ rows
unfolding rows
rows_are = refl

pub row_at : (number : ℕ) (r : Row) → slice_get ROWS number ≡ Some r → slice_get rows number ≡ Some r
row_at number r h = subst (λ rs. slice_get rs number ≡ Some r) rows_are h
