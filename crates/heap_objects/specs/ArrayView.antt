-- What a clause sees of an array.
use Rattle.std.specs.Prelude.{ℕ, List, slice_set}
use Rattle.heap_objects.specs.declared.datum.Datum.{Datum}
use Rattle.heap_objects.specs.Kinds.{element_of}
use Rattle.heap_objects.specs.Kept.{element_kept}

-- its kind and its values
pub record ArrayView : Type 0 where
  pub kind : ℕ
  pub items : List Datum

-- a value was put into an element, which keeps of it what elements of this kind keep
abbrev pub with_element : ℕ → Datum → ArrayView → ArrayView
with_element slot v a = record a { items = slice_set a.items slot (element_kept (element_of a.kind) v) }
