-- What is made at most once: the Class object of each kind, and the objects that valueOf gives for small values.
use Rattle.std.specs.Prelude.{ℕ, ◌==◌, List, [], ◌∷◌, ◌++◌, Option, Some, None, if◌then◌else◌, ◌&&◌}
use Rattle.native_effects.specs.declared.effects.kept.ClassObject.{ClassObject}
use Rattle.native_effects.specs.declared.effects.kept.BoxObject.{BoxObject}

pub record MadeView : Type 0 where
  pub classes : List ClassObject
  pub boxes : List BoxObject

abbrev pub nothing_made : MadeView
nothing_made = record { classes = []; boxes = [] }

-- the Class object of a kind
abbrev pub object_of_class : ℕ → List ClassObject → Option ℕ
object_of_class kind [] = None
object_of_class kind (c ∷ classes) = if c.kind == kind then Some c.object else object_of_class kind classes

-- the kind whose Class object this is
abbrev pub class_of_object : ℕ → List ClassObject → Option ℕ
class_of_object object [] = None
class_of_object object (c ∷ classes) = if c.object == object then Some c.kind else class_of_object object classes

-- the object that was made of a class for the value with this place among those that are made once
abbrev pub object_of_box : ℕ → ℕ → List BoxObject → Option ℕ
object_of_box kind place [] = None
object_of_box kind place (b ∷ boxes) =
    if b.kind == kind && b.place == place then Some b.object else object_of_box kind place boxes

abbrev pub class_made : ℕ → ℕ → MadeView → MadeView
class_made kind object m = record m { classes = m.classes ++ (record { kind = kind; object = object }) ∷ [] }

abbrev pub box_made : ℕ → ℕ → ℕ → MadeView → MadeView
box_made kind place object m = record m { boxes = m.boxes ++ (record { kind = kind; place = place; object = object }) ∷ [] }
