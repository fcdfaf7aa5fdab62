-- Worked answers of loads over small class lists: each way to answer. No class stands before the built-in ones here, so
-- a class's kind is 16 and its position.
use Rattle.std.specs.Prelude.{◌≡◌, ℕ, List, [], ◌∷◌, Some, None, codes, refl}
use Rattle.class_index.proofs.WorkedClasses.{class_shape, interface_shape, object, program_of, root_class}
use Rattle.class_linker.specs.Linkers.{LinkerView, load_answer}
use Rattle.class_linker.specs.declared.answers.Loaded.TheVariants.{New, Already, Throws}

-- A extends B and implements I; C extends C; D extends I; E extends the absent F
abbrev when_loaded : List ℕ → LinkerView
when_loaded loaded = record {
  program = program_of (
      root_class
      ∷ class_shape (codes "A") (codes "B") (codes "I" ∷ [])
      ∷ class_shape (codes "B") object []
      ∷ interface_shape (codes "I") []
      ∷ class_shape (codes "C") (codes "C") []
      ∷ class_shape (codes "D") (codes "I") []
      ∷ class_shape (codes "E") (codes "F") []
      ∷ []);
  loaded = loaded;
}

pub new : load_answer (when_loaded (0 ∷ [])) (codes "A") ≡ New 17 (2 ∷ 3 ∷ 1 ∷ [])
new = refl

pub new_by_an_array : load_answer (when_loaded (0 ∷ [])) (codes "[LB;") ≡ New 16777234 (2 ∷ [])
new_by_an_array = refl

pub already : load_answer (when_loaded (0 ∷ 2 ∷ [])) (codes "B") ≡ Already 18
already = refl

pub already_by_an_array : load_answer (when_loaded []) (codes "[[I") ≡ Already 33554442
already_by_an_array = refl

pub absent : load_answer (when_loaded (0 ∷ [])) (codes "E") ≡ Throws 42 [] (Some (codes "F"))
absent = refl

pub circular : load_answer (when_loaded (0 ∷ [])) (codes "C") ≡ Throws 45 [] None
circular = refl

pub incompatible : load_answer (when_loaded (0 ∷ [])) (codes "D") ≡ Throws 44 (3 ∷ []) None
incompatible = refl
