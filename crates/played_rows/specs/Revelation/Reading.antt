-- What a row says: `WORD.. => MARKED.. | CLASS..`.
use Rattle.std.specs.Prelude.{◌≡◌, ◌==◌, ℕ, true, false, List, [], ◌∷◌, ◌++◌, length, map, Option, Some, None, codes, nat_lt, slice_set, if◌then◌else◌}
use Rattle.std.specs.Option.{option_and_then, option_map}
use Rattle.std.specs.Str.{bytes_eq}
use Rattle.std.specs.Str.Pattern.{FindsText, SplitsAroundMatch}
use Rattle.jf_bytes.specs.Unicode.{utf16_of}
use Rattle.jvm_model.specs.declared.event.Mark.{Mark}
use Rattle.jvm_model.specs.declared.event.Mark.TheVariants.{Off, Plain, Root}
use Rattle.jvm_model.specs.declared.program.Program.{Program}
use Rattle.played_rows.specs.declared.revelation.item.Fact.TheVariants.{Begins, Changed, IsSelected, Marks, SelectsAny}
use Rattle.played_rows.specs.declared.revelation.item.Happening.{Happening}
use Rattle.played_rows.specs.declared.revelation.item.Happening.TheVariants.{Deselected, Entered, Loaded, Quiet, Selected, Shown}
use Rattle.played_rows.specs.declared.revelation.item.Item.{Item}
use Rattle.played_rows.specs.declared.revelation.item.Item.TheVariants.{Happens, Is}
use Rattle.played_rows.specs.Revelation.Names.{method_called}
use Rattle.played_rows.specs.Names.{classes_called}
use Rattle.played_rows.specs.Words.{all_found, front_of, rest_after, words_in}

-- ---- marks and classes

-- a `!` is behind the name of a root
abbrev pub mark_said : List ℕ → Mark
mark_said word = if length (front_of 33 word) == length word then Plain else Root

-- marks, with that of the method that a word names
abbrev pub with_mark : Program → List Mark → List ℕ → Option (List Mark)
with_mark p marks word =
    option_and_then (λ m. if nat_lt m (length marks) then Some (slice_set marks m (mark_said word)) else None)
    (method_called p (front_of 33 word))

abbrev pub marks_with : Program → List Mark → List (List ℕ) → Option (List Mark)
marks_with p marks [] = Some marks
marks_with p marks (word ∷ more) = option_and_then (λ ms. marks_with p ms more) (with_mark p marks word)

abbrev pub no_marks : Program → List Mark
no_marks p = map (λ place. Off) p.methods

-- which marks there must be, and which classes must have others than those that were shown
abbrev pub due_items : Program → List ℕ → Option (List Item)
due_items p due =
    option_and_then (λ marks.
    option_map (λ classes. Is (Marks marks) ∷ Is (Changed classes) ∷ [])
    (classes_called p (rest_after 124 due)))
    (marks_with p (no_marks p) (words_in 32 (front_of 124 due)))

-- ---- words

-- what happens to a method
abbrev pub happening_said : List ℕ → ℕ → Option Happening
happening_said verb method =
    if bytes_eq verb (codes "enter") then Some (Entered method 1)
    else if bytes_eq verb (codes "again") then Some (Entered method 10000000)
    else if bytes_eq verb (codes "select") then Some (Selected method)
    else if bytes_eq verb (codes "deselect") then Some (Deselected method)
    else None

abbrev pub method_item : List ℕ → ℕ → Option Item
method_item verb method =
    if bytes_eq verb (codes "selected") then Some (Is (IsSelected method true))
    else if bytes_eq verb (codes "unselected") then Some (Is (IsSelected method false))
    else option_map (λ happening. Happens happening) (happening_said verb method)

-- the methods that the words of a text name, between commas
abbrev pub methods_called : Program → List ℕ → Option (List ℕ)
methods_called p words = all_found (method_called p) (words_in 44 words)

-- the methods that a method can begin: `begins:METHOD=METHOD,..`
abbrev pub begins_item : Program → List ℕ → Option Item
begins_item p words =
    option_and_then (λ method.
    option_map (λ methods. Is (Begins method methods)) (methods_called p (rest_after 61 words)))
    (method_called p (front_of 61 words))

-- what a verb and what stands behind its colon say
abbrev pub verb_item : Program → List ℕ → List ℕ → Option Item
verb_item p verb name =
    if bytes_eq verb (codes "load") then Some (Happens (Loaded (utf16_of name)))
    else if bytes_eq verb (codes "begins") then begins_item p name
    else if bytes_eq verb (codes "quiet") then Some (Happens Quiet)
    else if bytes_eq verb (codes "show") then Some (Happens Shown)
    else if bytes_eq verb (codes "any_selected") then Some (Is (SelectsAny true))
    else if bytes_eq verb (codes "none_selected") then Some (Is (SelectsAny false))
    else option_and_then (method_item verb) (method_called p name)

abbrev pub word_item : Program → List ℕ → Option Item
word_item p word = verb_item p (front_of 58 word) (rest_after 58 word)

abbrev pub word_items : Program → List ℕ → Option (List Item)
word_items p words = all_found (word_item p) (words_in 32 words)

-- ---- rows

-- what stands before the first `=>` of a row, and behind it
abbrev pub IsHalved : List ℕ → Option (List ℕ × List ℕ) → Type 0
IsHalved row None = FindsText (codes "=>") row None
IsHalved row (Some (words, due)) = SplitsAroundMatch (FindsText (codes "=>")) row words due

abbrev pub row_items : Program → List ℕ → Option (List ℕ × List ℕ) → Option (List Item)
row_items p row None = word_items p row
row_items p row (Some (words, due)) =
    option_and_then (λ items. option_map (λ more. items ++ more) (due_items p due)) (word_items p words)

-- what a row says, where each of its words says something
pub record IsRead (p : Program) (row : List ℕ) (items : Option (List Item)) : Type 0 where
  pub halves : Option (List ℕ × List ℕ)
  pub halved : IsHalved row halves
  pub read : items ≡ row_items p row halves
