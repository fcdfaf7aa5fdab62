-- Worked starts: arguments of `main` that fit, and such that do not (JVM Specification 5.2).
use Rattle.std.specs.Prelude.{◌≡◌, ℕ, List, [], ◌∷◌, Some, None, refl, codes}
use Rattle.std.specs.Fmt.{digits}
use Rattle.heap_objects.specs.declared.datum.Datum.TheVariants as datum
use Rattle.heap_objects.specs.Heaps.{kind_at, length_at, slot_at, units_at}
use Rattle.jf_bytes.specs.Unicode.{utf8_of}
use Rattle.base_classes.specs.BuiltInClasses.{built_in_classes}
use Rattle.base_classes.specs.ObjectClasses.{object_classes}
use Rattle.base_classes.specs.TextClasses.{text_classes}
use Rattle.base_classes.specs.StreamClasses.{stream_classes}
use Rattle.base_classes.specs.ValueClasses.{value_classes}
use Rattle.base_classes.specs.ThrowableClasses.{throwable_classes}
use Rattle.base_classes.specs.Natives.{native_methods}
use Rattle.native_effects.specs.Inputs.KindsViews.{is_among}
use Rattle.native_ops.specs.Methods.Rows.{rows}
use Rattle.jvm_model.specs.Basis.Data.{Arraylength, Returned, State, Loads, Began, Turn, World}
use Rattle.jvm_model.specs.Running.Run.{turn_in}
use Rattle.jvm_model.specs.Basis.SharedState.{out_of_memory, strings_kind}
use Rattle.jvm_model.proofs.Worked.WorkedPrograms.{Sketches, aload_0, alone, at, get_out, main_routine, places_of, println, returns, listing_by, uncaught_of, with_heap, world_by}

-- main writes how many arguments there are
abbrev pub counts : Sketches
counts = record {
  classes = alone (codes "A") (main_routine 2 (at 0 3 get_out ∷ at 3 1 aload_0 ∷ at 4 1 Arraylength ∷ at 5 3 println ∷ at 8 1 returns ∷ []) ∷ []) ∷ [];
  main = 0;
}

-- with these arguments, in a heap of so many slots
abbrev pub given : List (List ℕ) → ℕ → World
given args slots = let w = with_heap slots (world_by counts) in record w { program = record w.program { args = args } }

abbrev pub two : List (List ℕ)
two = codes "ab" ∷ codes "" ∷ []

abbrev pub turn_with : List (List ℕ) → ℕ → ℕ → Turn
turn_with args slots n = turn_in (given args slots) (listing_by counts) n

abbrev pub after_with : List (List ℕ) → ℕ → ℕ → State
after_with args slots n = (turn_with args slots n).after

-- ---- they fit: six slots of the objects before, three of the array, and three and one of the texts

pub fits-begins : (turn_with two 13 0).changes ≡ Loads (0 ∷ []) ∷ Began 0 ∷ []
unfolding turn_in
fits-begins = refl

pub fits-fills : (after_with two 13 0).shared.heap.used ≡ 13
unfolding turn_in
fits-fills = refl

pub fits-kind : kind_at 5 (after_with two 13 0).shared.heap ≡ Some (strings_kind (given two 13).program)
unfolding turn_in
fits-kind = refl

pub fits-length : length_at 5 (after_with two 13 0).shared.heap ≡ Some 2
unfolding turn_in
fits-length = refl

-- each text behind the array, in order
pub fits-first : slot_at 5 0 (after_with two 13 0).shared.heap ≡ Some (datum.Ref 6)
unfolding turn_in
fits-first = refl

pub fits-second : slot_at 5 1 (after_with two 13 0).shared.heap ≡ Some (datum.Ref 7)
unfolding turn_in
fits-second = refl

pub fits-text : units_at 6 (after_with two 13 0).shared.heap ≡ Some (codes "ab")
unfolding turn_in
fits-text = refl

pub fits-empty : units_at 7 (after_with two 13 0).shared.heap ≡ Some []
unfolding turn_in
fits-empty = refl

pub fits-writes : (after_with two 13 4).output ≡ utf8_of (codes "2\n")
unfolding turn_in digits native_methods rows built_in_classes object_classes text_classes stream_classes value_classes throwable_classes is_among
fits-writes = refl

pub fits-returns : (after_with two 13 5).ending ≡ Some Returned
unfolding turn_in digits native_methods rows built_in_classes object_classes text_classes stream_classes value_classes throwable_classes is_among
fits-returns = refl

-- ---- they do not: the run ends in the start, and nothing was made or loaded

pub unfit-ends : (after_with two 12 0).ending ≡ uncaught_of counts out_of_memory
unfolding turn_in
unfit-ends = refl

pub unfit-throws : (after_with two 12 0).thrown ≡ Some 1
unfolding turn_in
unfit-throws = refl

pub unfit-stack : places_of (after_with two 12 0).stack ≡ []
unfolding turn_in
unfit-stack = refl

pub unfit-changes : (turn_with two 12 0).changes ≡ []
unfolding turn_in
unfit-changes = refl

pub unfit-fills : (after_with two 12 0).shared.heap.used ≡ 6
unfolding turn_in
unfit-fills = refl

pub unfit-makes : kind_at 5 (after_with two 12 0).shared.heap ≡ None
unfolding turn_in
unfit-makes = refl
