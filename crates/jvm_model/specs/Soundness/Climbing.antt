-- What the law of calls asks of a program and of its loaded classes: walks upwards go on, and java/lang/Object has
-- nothing above it and no method with Code.
use Rattle.std.specs.Prelude.{◌≡◌, ℕ, true, List, [], None, Some, is_some}
use Rattle.jvm_model.specs.Basis.Data.{Program, Outcome, Invokes, Initializes}
use Rattle.jvm_model.specs.Basis.KindNumbers.{user_count}
use Rattle.jvm_model.specs.Classes.Load.{is_among}
use Rattle.jvm_model.specs.Classes.Lookup.{interfaces_of, is_subtype, superclass_of, superclasses, superinterfaces}
use Rattle.jvm_model.specs.Basis.Programs.{initializer_of, number_of_method, place_of_method, super_of}
use Rattle.jvm_model.specs.Soundness.Sound.{IsLoaded}

-- where no loaded class is above itself, the bound of the walks cuts none
pub record Climbs (p : Program) (loaded : List ℕ) : Type 0 where
  pub own : (c : ℕ) → IsLoaded loaded c → is_subtype p c c ≡ true
  pub further : (c x y : ℕ) → IsLoaded loaded c → is_subtype p c x ≡ true → is_subtype p x y ≡ true → is_subtype p c y ≡ true
  pub superclass : (c d : ℕ) → IsLoaded loaded c → super_of p c ≡ Some d → is_subtype p c d ≡ true
  pub superclasses : (c x : ℕ) → IsLoaded loaded c → is_among x (superclasses p c) ≡ true → is_subtype p c x ≡ true
  pub superinterfaces : (c x : ℕ) → IsLoaded loaded c → is_among x (superinterfaces p c) ≡ true → is_subtype p c x ≡ true

-- java/lang/Object is the class of arrays
pub record HasBareObject (p : Program) : Type 0 where
  pub superclass : superclass_of p (user_count p) ≡ []
  pub interfaces : interfaces_of p (user_count p) ≡ []
  pub methods : (at : ℕ) → number_of_method p (user_count p) at ≡ None

-- whatever the initialization of a class begins is among these methods
abbrev pub IsDue : Program → List ℕ → List ℕ → ℕ → Type 0
IsDue p loaded ms c = (d m : ℕ) → IsLoaded loaded d → is_subtype p c d ≡ true → initializer_of p d ≡ Some m → is_among m ms ≡ true

-- and what an instruction asks for
abbrev pub Begins : Program → List ℕ → List ℕ → Outcome → Type 0
Begins p loaded ms (Invokes m args below) = (is_among m ms ≡ true) × (is_some (place_of_method p m) ≡ true)
Begins p loaded ms (Initializes c) = IsDue p loaded ms c
Begins p loaded ms o = Unit {0}
