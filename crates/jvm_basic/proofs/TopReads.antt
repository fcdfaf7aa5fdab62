-- What stands on top, as the frames read it and as the rules do; and that it takes a slot each.
use Rattle.std.proofs.Common.{◌≡◌, ℕ, ℤ, Bool, [], ◌∷◌, refl}
use Rattle.std.specs.Prelude.{Option, Some, None, pos, ◌==◌}
use Rattle.std.specs.Option.{option_map}
use Rattle.heap_objects.specs.declared.Value.TheVariants.{Int, Long, Ref, Addr}
use Rattle.frame_stack.specs.Tops as tops
use Rattle.frame_stack.specs.Tops.{AreNarrow}
use Rattle.jvm_model.specs.Basis.Data.{Operands}
use Rattle.jvm_model.specs.Basis.Values.{int_of, ref_of, ints_of, refs_of}
use Rattle.jvm_model.specs.declared.family.Test.{Test}
use Rattle.jvm_model.specs.declared.family.Test.TheVariants.{WithZero, OfInts, OfReferences, IsNull}
use Rattle.jvm_model.specs.Instructions.LocalRules.{compares, holds, is_same, tests}

pub int-is : (o : Operands) → tops.int_of o ≡ int_of o
int-is [] = refl
int-is (Int n ∷ o) = refl
int-is (Long n ∷ o) = refl
int-is (Ref n ∷ o) = refl
int-is (Addr n ∷ o) = refl

pub reference-is : (o : Operands) → tops.reference_of o ≡ ref_of o
reference-is [] = refl
reference-is (Int n ∷ o) = refl
reference-is (Long n ∷ o) = refl
reference-is (Ref n ∷ o) = refl
reference-is (Addr n ∷ o) = refl

pub ints-are : (o : Operands) → tops.ints_of o ≡ ints_of o
ints-are [] = refl
ints-are (Int n ∷ []) = refl
ints-are (Int n ∷ Int m ∷ o) = refl
ints-are (Int n ∷ Long m ∷ o) = refl
ints-are (Int n ∷ Ref m ∷ o) = refl
ints-are (Int n ∷ Addr m ∷ o) = refl
ints-are (Long n ∷ o) = refl
ints-are (Ref n ∷ o) = refl
ints-are (Addr n ∷ o) = refl

pub references-are : (o : Operands) → tops.references_of o ≡ refs_of o
references-are [] = refl
references-are (Int n ∷ o) = refl
references-are (Long n ∷ o) = refl
references-are (Ref n ∷ []) = refl
references-are (Ref n ∷ Int m ∷ o) = refl
references-are (Ref n ∷ Long m ∷ o) = refl
references-are (Ref n ∷ Ref m ∷ o) = refl
references-are (Ref n ∷ Addr m ∷ o) = refl
references-are (Addr n ∷ o) = refl

pub ruleset top_reads = (int-is, reference-is, ints-are, references-are)

-- ---- each takes a slot

none-some : {A : Type 0} {x : A} → Some x ≡ None → ⊥
none-some e = cc

pub int_narrow : (o : Operands) (n : ℤ) → Some n ≡ int_of o → AreNarrow 1 o
int_narrow (Int m ∷ o) n e = (refl, tt)
int_narrow _ n e = absurd (none-some e)

pub ints_narrow : (o : Operands) (p : ℤ × ℤ) → Some p ≡ ints_of o → AreNarrow 2 o
ints_narrow (Int m ∷ Int k ∷ o) p e = (refl, (refl, tt))
ints_narrow _ p e = absurd (none-some e)

pub reference-narrow : (o : Operands) (r : ℕ) → Some r ≡ ref_of o → AreNarrow 1 o
reference-narrow (Ref m ∷ o) r e = (refl, tt)
reference-narrow _ r e = absurd (none-some e)

pub references-narrow : (o : Operands) (p : ℕ × ℕ) → Some p ≡ refs_of o → AreNarrow 2 o
references-narrow (Ref m ∷ Ref k ∷ o) p e = (refl, (refl, tt))
references-narrow _ p e = absurd (none-some e)

-- what a test takes off is of a slot each
module _ {A B : Type 0} (f : A → B) where
  mapped-some : (x : Option A) (b : B) {P : Type 0} → Some b ≡ option_map f x → ((a : A) → Some a ≡ x → P) → P
  mapped-some None b e k = absurd (none-some e)
  mapped-some (Some a) b e k = k a refl

pub test-narrow : (test : Test) (o : Operands) (b : Bool) → Some b ≡ holds test o → AreNarrow (tests test) o
test-narrow (WithZero c) o b e = mapped-some (λ n. compares c n (pos 0)) (int_of o) b e (λ n at. int_narrow o n at)
test-narrow (OfInts c) o b e = mapped-some (λ (p : ℤ × ℤ). compares c p.0 p.1) (ints_of o) b e (λ p at. ints_narrow o p at)
test-narrow (OfReferences same) o b e = mapped-some (λ (p : ℕ × ℕ). is_same same (p.0 == p.1)) (refs_of o) b e (λ p at. references-narrow o p at)
test-narrow (IsNull null) o b e = mapped-some (λ r. is_same null (r == 0)) (ref_of o) b e (λ r at. reference-narrow o r at)
