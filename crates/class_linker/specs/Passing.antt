-- When no method passes another one on to a class (JVM Specification 5.4.5), and classes each below those behind it.
use Rattle.std.specs.Prelude.{◌≡◌, ℕ, true, false, List, [], ◌∷◌, ◌==◌}
use Rattle.jvm_model.specs.declared.program.Program.{Program}
use Rattle.jvm_model.specs.Classes.Load.{is_among}
use Rattle.jvm_model.specs.Classes.Lookup.{MemberPlace, is_subtype}
use Rattle.jvm_model.specs.Classes.Selection.{is_open, is_private, is_reached, stands_below}

-- a third method, above the class, that passes the method on to what overrides the third one
pub record IsBetween (p : Program) (m : MemberPlace) (class : ℕ) : Type 0 where
  pub third : MemberPlace
  pub other : (class == third.class) ≡ false
  pub above : is_subtype p class third.class ≡ true
  pub below : stands_below p third m ≡ true
  pub own : is_private p third ≡ false
  pub free : is_open p third ≡ true
  pub reaches : is_reached p third.class m ≡ true

abbrev pub IsUnpassed : Program → MemberPlace → ℕ → Type 0
IsUnpassed p m class = IsBetween p m class → ⊥

-- nothing passes the method on to any of the classes, where a search has come to know it
abbrev pub AreUnpassed : Program → MemberPlace → List ℕ → Type 0
AreUnpassed p m classes = (class : ℕ) → is_among class classes ≡ true → IsUnpassed p m class

-- each class is a subtype of those behind it
abbrev pub IsChain : Program → List ℕ → Type 0
IsChain p [] = Unit {0}
IsChain p (class ∷ rest) = ((above : ℕ) → is_among above rest ≡ true → is_subtype p class above ≡ true) × IsChain p rest
