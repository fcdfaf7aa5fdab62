-- What is read of descriptors, by computing.
use Rattle.std.proofs.Common.{◌≡◌, [], ◌∷◌, ◌++◌, Some, None, codes, refl}
use Rattle.std.specs.Prelude.{replicate}
use Rattle.const_pool.specs.declared.descriptor.Kind.TheVariants.{Int, Long, Ref, Byte, Bool as boolean, Char, Short, Float, Double}
use Rattle.jvm_model.specs.Basis.Descriptors.{shape_of, shape_with}

void : shape_of (codes "()V") ≡ Some (shape_with [] None)
void = refl

letters : shape_of (codes "(BCDFIJSZ)J") ≡ Some (shape_with (Byte ∷ Char ∷ Double ∷ Float ∷ Int ∷ Long ∷ Short ∷ boolean ∷ []) (Some Long))
letters = refl

references : shape_of (codes "([ILjava/lang/String;[[LA;D)[Z") ≡ Some (shape_with (Ref ∷ Ref ∷ Ref ∷ Double ∷ []) (Some Ref))
references = refl

-- ---- texts that are none

no_result : shape_of (codes "()") ≡ None
no_result = refl

void_param : shape_of (codes "(V)V") ≡ None
void_param = refl

void_array : shape_of (codes "()[V") ≡ None
void_array = refl

empty_name : shape_of (codes "(L;)V") ≡ None
empty_name = refl

open_name : shape_of (codes "(LA)V") ≡ None
open_name = refl

no_element : shape_of (codes "([)V") ≡ None
no_element = refl

further : shape_of (codes "()II") ≡ None
further = refl

no_close : shape_of (codes "(I") ≡ None
no_close = refl

no_open : shape_of (codes "I)V") ≡ None
no_open = refl

-- ---- limits: 255 slots, 255 dimensions

most_slots : shape_of (codes "(" ++ (replicate 255 73 ++ codes ")V")) ≡ Some (shape_with (replicate 255 Int) None)
most_slots = refl

too_many_slots : shape_of (codes "(" ++ (replicate 256 73 ++ codes ")V")) ≡ None
too_many_slots = refl

wide_slots : shape_of (codes "(" ++ (replicate 128 74 ++ codes ")V")) ≡ None
wide_slots = refl

most_dimensions : shape_of (codes "()" ++ (replicate 255 91 ++ codes "I")) ≡ Some (shape_with [] (Some Ref))
most_dimensions = refl

too_many_dimensions : shape_of (codes "()" ++ (replicate 256 91 ++ codes "I")) ≡ None
too_many_dimensions = refl
