-- What a native method may change, and what becomes of it by an effect. Where the heap is full nothing changes.
use Rattle.std.specs.Prelude.{ℕ, List, [], None}
use Rattle.heap_objects.specs.Heaps.{HeapView}
use Rattle.native_effects.specs.declared.effects.answer.Answer.{Answer}
use Rattle.native_effects.specs.declared.effects.answer.Answer.TheVariants.{Value}
use Rattle.native_effects.specs.declared.effects.effect.NativeEffect.{NativeEffect}
use Rattle.native_effects.specs.declared.effects.effect.NativeEffect.TheVariants.{Answers, MakesText, MakesArray, MakesInstance, Appends, Replaces, PutsUnit, Resizes, Interns, Prints, Reads, Stores, SetsFields, GivesClass, GivesBox}
use Rattle.native_effects.specs.Inputs.MadeViews.{MadeView}
use Rattle.native_effects.specs.Effects.Ports.{answer_of_read, after_read, with_output}
use Rattle.native_effects.specs.Effects.Making.{answer_of_text, heap_with_text, answer_of_array, heap_with_array, answer_of_instance, heap_with_instance, answer_of_append, heap_with_append, answer_of_replace, heap_with_replace, answer_of_unit, heap_with_unit, answer_of_resize, heap_with_resize, answer_of_intern, heap_with_interned, with_values, with_fields, answer_of_class, heap_after_class, made_after_class, answer_of_box, heap_after_box, made_after_box}

-- the heap, what was made once, the input, how many of its bytes were read, and the bytes that were written since the
-- call began
pub record World : Type 0 where
  pub heap : HeapView
  pub made : MadeView
  pub input : List ℕ
  pub read : ℕ
  pub wrote : List ℕ

-- where a call begins
abbrev pub world : HeapView → MadeView → List ℕ → ℕ → World
world heap made input read = record { heap = heap; made = made; input = input; read = read; wrote = [] }

-- what is answered
abbrev pub answer_of : NativeEffect → World → Answer
answer_of (Answers answer) w = answer
answer_of (MakesText units) w = answer_of_text units w.heap
answer_of (MakesArray kind values) w = answer_of_array values w.heap
answer_of (MakesInstance kind fields) w = answer_of_instance fields w.heap
answer_of (Appends object units) w = answer_of_append object units w.heap
answer_of (Replaces object units value) w = answer_of_replace object units value w.heap
answer_of (PutsUnit object at unit) w = answer_of_unit object at w.heap
answer_of (Resizes object size) w = answer_of_resize object size w.heap
answer_of (Interns units) w = answer_of_intern units w.heap
answer_of (Prints units) w = Value None
answer_of Reads w = answer_of_read w.input w.read
answer_of (Stores array place values answer) w = answer
answer_of (SetsFields object first second) w = Value None
answer_of (GivesClass kind) w = answer_of_class kind w.made w.heap
answer_of (GivesBox kind place value) w = answer_of_box kind place w.made w.heap

-- what is changed
abbrev pub after : NativeEffect → World → World
after (Answers answer) w = w
after (MakesText units) w = record w { heap = heap_with_text units w.heap }
after (MakesArray kind values) w = record w { heap = heap_with_array kind values w.heap }
after (MakesInstance kind fields) w = record w { heap = heap_with_instance kind fields w.heap }
after (Appends object units) w = record w { heap = heap_with_append object units w.heap }
after (Replaces object units value) w = record w { heap = heap_with_replace object units w.heap }
after (PutsUnit object at unit) w = record w { heap = heap_with_unit object at unit w.heap }
after (Resizes object size) w = record w { heap = heap_with_resize object size w.heap }
after (Interns units) w = record w { heap = heap_with_interned units w.heap }
after (Prints units) w = record w { wrote = with_output units w.wrote }
after Reads w = record w { read = after_read w.input w.read }
after (Stores array place values answer) w = record w { heap = with_values array place values w.heap }
after (SetsFields object first second) w = record w { heap = with_fields object first second w.heap }
after (GivesClass kind) w =
    record w { heap = heap_after_class kind w.made w.heap; made = made_after_class kind w.heap w.made }
after (GivesBox kind place value) w =
    record w { heap = heap_after_box kind place value w.made w.heap; made = made_after_box kind place w.heap w.made }
