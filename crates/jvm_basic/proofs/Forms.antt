-- Whether operands have a form, one after another.
use Rattle.std.proofs.Common.{◌≡◌, ℕ, ◌+◌, Bool, true, false, List, drop, refl, sym}
use Rattle.std.specs.Prelude.{Some, None, slice_get, ◌&&◌}
use Rattle.std.proofs.lemmas.Bool.{false≢true}
use Rattle.heap_objects.specs.declared.Value.{Value}
use Rattle.frame_stack.specs.Widths.{is_long}
use Rattle.jvm_model.specs.Basis.Data.{Operands}
use Rattle.jvm_model.specs.Basis.Values.{same_width, has_form}
use Rattle.jvm_basic.proofs.Keys.{drop-at, drop-past}

unlike : (b c more : Bool) → (b ≡ c → ⊥) → (same_width b c && more) ≡ false
unlike true true more apart = absurd (apart refl)
unlike true false more apart = refl
unlike false true more apart = refl
unlike false false more apart = absurd (apart refl)

alike : (b c more : Bool) → b ≡ c → (same_width b c && more) ≡ more
alike true true more e = refl
alike true false more e = absurd (false≢true (sym e))
alike false true more e = absurd (false≢true e)
alike false false more e = refl

-- this operand is of another width
pub differs : (longs : List Bool) (o : Operands) (i : ℕ) (long : Bool) (v : Value) → Some long ≡ slice_get longs i → Some v ≡ slice_get o i
    → (long ≡ is_long v → ⊥) → has_form (drop i longs) (drop i o) ≡ false
differs longs o i long v a b apart = rw (drop-at longs i long a, drop-at o i v b) (unlike long (is_long v) _ apart)

-- this one is not
pub agrees : (longs : List Bool) (o : Operands) (i : ℕ) (long : Bool) (v : Value) → Some long ≡ slice_get longs i → Some v ≡ slice_get o i
    → long ≡ is_long v → has_form (drop i longs) (drop i o) ≡ has_form (drop (i + 1) longs) (drop (i + 1) o)
agrees longs o i long v a b same = rw (drop-at longs i long a, drop-at o i v b) (alike long (is_long v) _ same)

-- it is not there
pub misses : (longs : List Bool) (o : Operands) (i : ℕ) (long : Bool) → Some long ≡ slice_get longs i → None ≡ slice_get o i
    → has_form (drop i longs) (drop i o) ≡ false
misses longs o i long a b = rw (drop-at longs i long a, drop-past i o b) refl

pub ruleset fitting = (differs, agrees, misses)
