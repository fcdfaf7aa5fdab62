-- What the code finds in a name, seen as the definitions have it.
use Rattle.std.specs.Prelude.{ℕ, List, Option, None, nat_le, if◌then◌else◌}
use Rattle.std.specs.Option.{option_map}
use Rattle.class_index.specs.declared.meaning.Element.{Element}
use Rattle.class_index.specs.declared.meaning.Element.TheVariants as code
use Rattle.class_index.specs.declared.meaning.Meaning.{Meaning}
use Rattle.jvm_model.specs.Classes.Kinds as kinds

abbrev pub element_view : Element → kinds.Element
element_view (code.Primitive number) = kinds.Primitive number
element_view (code.Named name) = kinds.Named name.now

abbrev pub meaning_view : Meaning → kinds.Meaning
meaning_view m = record { dimensions = m.dimensions; element = element_view m.element }

-- an array of so many dimensions, with the element that is left
abbrev pub array_behind : ℕ → List ℕ → Option kinds.Meaning
array_behind dimensions units = if nat_le dimensions 255 then option_map (kinds.array_meaning dimensions) (kinds.element_of units) else None
