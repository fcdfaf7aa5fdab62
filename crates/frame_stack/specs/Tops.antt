-- What stands on top of operands, the topmost one last.
use Rattle.std.specs.Prelude.{◌≡◌, ℕ, zero, suc, false, List, [], ◌∷◌, Option, Some, None, ℤ}
use Rattle.heap_objects.specs.declared.Value.{Value}
use Rattle.heap_objects.specs.declared.Value.TheVariants.{Int, Ref}
use Rattle.frame_stack.specs.Widths.{is_long}

abbrev pub int_of : List Value → Option ℤ
int_of (Int n ∷ below) = Some n
int_of _ = None

abbrev pub ints_of : List Value → Option (ℤ × ℤ)
ints_of (Int b ∷ Int a ∷ below) = Some (a, b)
ints_of _ = None

abbrev pub reference_of : List Value → Option ℕ
reference_of (Ref r ∷ below) = Some r
reference_of _ = None

abbrev pub references_of : List Value → Option (ℕ × ℕ)
references_of (Ref b ∷ Ref a ∷ below) = Some (a, b)
references_of _ = None

abbrev pub reference_and_int_of : List Value → Option (ℕ × ℤ)
reference_and_int_of (Int n ∷ Ref r ∷ below) = Some (r, n)
reference_and_int_of _ = None

-- so many of the topmost take a slot each
abbrev pub AreNarrow : ℕ → List Value → Type 0
AreNarrow zero o = Unit {0}
AreNarrow (suc n) [] = ⊥
AreNarrow (suc n) (v ∷ o) = (is_long v ≡ false) × AreNarrow n o
