-- What is told of bytes, by computing.
use Rattle.std.proofs.Common.{List, ℕ, ◌<◌, get_or, true, zero, suc, ◌∷◌, Ok, codes, nat_lt, ◌≡◌, [], Err, refl, rules}
use Rattle.const_pool.specs.declared.class.ClassFile.{ClassFile}
use Rattle.class_reader.specs.declared.error.ReadError.TheVariants.{Truncated}
use Rattle.class_reader.specs.Reading.{image_of, class_at, magic_at, major_at, tested_at, number_at, body_at, pool_at, all_entries_at, entries_at, entry_at, tag_at, utf8_at, text_at, pair_at, single_at, many_at, counted_at, member_at, method_attribute_at, field_attribute_at, class_attribute_at, run_at, sized_at, enclosed_at, contents_at}
use Rattle.class_reader.specs.Decoding.{text_decoded, decoded_from}
use Rattle.const_pool.specs.ClassFile.{class_bytes, Spells}
use Rattle.const_pool.specs.declared.pool.Const.{Const}
use Rattle.const_pool.specs.declared.pool.Const.TheVariants.{Gap, Utf8, Class}
use Rattle.std.specs.List.{list_all}
use Rattle.std.proofs.lemmas.Bool.{and_parts, ltb-true}
use Rattle.class_shape.proofs.ShapeLaws.{told-fault, none-same}
use Rattle.class_reader.proofs.Files.{image_faults, image_spells}
use Rattle.class_shape.specs.declared.error.SwapError.TheVariants.{Unreadable, NotSameShape}
use Rattle.class_shape.specs.Swaps.{IsSwap, IsSwapFault}

-- no bytes at all: the magic number does not fit
nothing : image_of [] ≡ Err (Truncated 0)
unfolding image_of class_at magic_at tested_at number_at
nothing = refl

no_bytes : (original : ClassFile) → IsSwapFault original [] (Unreadable (Truncated 0))
no_bytes original = (image_faults [] (Truncated 0) (λ i. search rules) nothing, λ e. cc)

-- ---- bytes of a class with another method

abbrev entries : List ℕ → List Const
entries method =
    Gap ∷ Utf8 (codes "A") ∷ Class 1 ∷ Utf8 (codes "java/lang/Object") ∷ Class 3 ∷ Utf8 (codes "f") ∷ Utf8 method ∷ Utf8 (codes "()V") ∷ []

abbrev abstract_class : List ℕ → ClassFile
abstract_class method = record {
  minor = 0;
  major = 50;
  pool = entries method;
  access = 1056;
  this_class = 2;
  super_class = 4;
  interfaces = [];
  fields = [];
  methods = record { access = 1025; name = 5; descriptor = 7; attributes = [] } ∷ record { access = 1025; name = 6; descriptor = 7; attributes = [] } ∷ [];
  attributes = [];
}

-- what is read of the bytes of a class is the class
read : image_of (class_bytes (abstract_class (codes "h"))) ≡ Ok (abstract_class (codes "h"))
unfolding image_of class_at magic_at major_at tested_at number_at body_at pool_at all_entries_at entries_at entry_at tag_at utf8_at text_at pair_at single_at many_at counted_at member_at method_attribute_at field_attribute_at class_attribute_at run_at text_decoded decoded_from sized_at enclosed_at contents_at
read = refl

are_bytes : list_all (λ b. nat_lt b 256) (class_bytes (abstract_class (codes "h"))) ≡ true
are_bytes = refl

below : (bytes : List ℕ) → list_all (λ b. nat_lt b 256) bytes ≡ true → (i : ℕ) → get_or bytes i 0 < 256
below [] e i = search rules
below (b ∷ bytes) e zero = ltb-true b 256 (and_parts (nat_lt b 256) _ e).0
below (b ∷ bytes) e (suc i) = below bytes (and_parts (nat_lt b 256) _ e).1 i

spelled : Spells (class_bytes (abstract_class (codes "h"))) (abstract_class (codes "h"))
spelled =
    let c = abstract_class (codes "h") in
    image_spells (class_bytes c) c (below (class_bytes c) are_bytes) read

-- the position of the second method is told
renamed : IsSwapFault (abstract_class (codes "g")) (class_bytes (abstract_class (codes "h"))) (NotSameShape 1)
renamed = record {
  image = abstract_class (codes "h");
  spelled = spelled;
  shape = told-fault (abstract_class (codes "g")) (abstract_class (codes "h")) 1 refl;
}

-- with its own name the class is taken
taken : IsSwap (abstract_class (codes "h")) (class_bytes (abstract_class (codes "h"))) (abstract_class (codes "h"))
taken = record { spelled = spelled; shape = none-same (abstract_class (codes "h")) (abstract_class (codes "h")) refl }
