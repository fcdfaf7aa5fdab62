-- The kinds of classes and arrays, and what they are of, over a linker.
use Rattle.std.proofs.Common.{◌≡◌, ℕ, ◌+◌, ◌-◌, ◌*◌, ◌<◌, ◌≤◌, sym, subst, lit<, arith}
use Rattle.std.proofs.Math.Nat.{mod-add-div', mod-lt}
use Rattle.std.specs.Prelude.{Some, ◌/◌, ◌%◌, ◌^◌}
use Rattle.jvm_model.specs.Basis.KindNumbers.{class_of_base, user_count}
use Rattle.jvm_model.specs.Soundness.Sound.{IsPrimitiveArray}
use Rattle.jvm_model.proofs.Soundness.SoundKinds as kinds
use Rattle.class_linker.specs.Linkers.{IsLoaded, LinkerView}
use Rattle.member_selection.specs.Objects.{IsUsable}

module _ (l : LinkerView) (root : IsLoaded l (user_count l.program)) where
  pub of-class : (dimensions base class : ℕ) → base < 16777216 → class_of_base l.program base ≡ Some class → IsLoaded l class
      → IsUsable l (dimensions * 16777216 + base)
  of-class dimensions base class small is there = kinds.of-class l.program l.loaded root dimensions base class small is there

  pub of-primitive : (dimensions base : ℕ) → 1 ≤ dimensions → base < 16 → IsUsable l (dimensions * 16777216 + base)
  of-primitive dimensions base deep small = kinds.of-primitive l.program l.loaded root dimensions base deep small

  pub primitive : (kind : ℕ) → IsPrimitiveArray kind → IsUsable l kind
  primitive kind is = kinds.primitive l.program l.loaded root kind is

  -- an array over a kind
  pub over : (kind : ℕ) → IsUsable l kind → IsUsable l (16777216 + kind)
  over kind is = kinds.over l.program l.loaded root kind is

  -- what an array of at least two dimensions has as elements
  pub under_usable : (kind : ℕ) → 2 * 16777216 ≤ kind → IsUsable l kind → IsUsable l (kind - 16777216)
  under_usable kind deep is = kinds.under_usable l.program l.loaded root kind deep is

-- an array over one of fewer than 255 dimensions has a number
pub few_over : (kind dimensions : ℕ) → kind / 16777216 ≡ dimensions → dimensions < 255 → kind + 16777216 < 2 ^ 32
few_over kind dimensions is few =
    let whole : kind % 16777216 + kind / 16777216 * 16777216 ≡ kind = mod-add-div' kind 16777216 in
    let small : kind % 16777216 < 16777216 = mod-lt kind (lit< tt) in
    let deep : kind / 16777216 < 255 = subst (λ n. n < 255) (sym is) few in
    omega (arith, whole, small, deep)
