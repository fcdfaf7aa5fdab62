-- What the heap becomes by what a rule asks of it, and what the call answers. Where the heap is full nothing changes.
use Rattle.std.specs.Prelude.{◌≡◌, ◌≢◌, Result, Ok, Err, ℕ, ◌+◌, ◌-◌, pos, Bool, List, [], ◌∷◌, ◌++◌, Option, Some, None, length, take, replicate, nat_lt, is_some, unwrap_or, if◌then◌else◌}
use Rattle.heap_objects.specs.declared.datum.Datum.{Datum}
use Rattle.heap_objects.specs.declared.datum.Datum.TheVariants.{Int, Ref}
use Rattle.heap_objects.specs.declared.error.HeapError.{HeapError}
use Rattle.heap_objects.specs.declared.error.HeapError.TheVariants.{HeapFull, NoMemory}
use Rattle.heap_objects.specs.Changes.{changed_if}
use Rattle.heap_objects.specs.Interning.{number_of}
use Rattle.heap_objects.specs.Heaps.{HeapView, ExceedsLimit, IsFullExactly, next_number, with_text, with_array, with_instance, with_units_added, with_units_replaced, with_interned, growth_of, units_at, has_slot_at, with_slot_at, has_unit_at, with_unit_at}
use Rattle.native_effects.specs.declared.effects.answer.Answer.{Answer}
use Rattle.native_effects.specs.declared.effects.answer.Answer.TheVariants.{Value, Throws, Bad}
use Rattle.native_effects.specs.Inputs.Numbers.{out_of_memory_error, string_kind, class_kind}
use Rattle.native_effects.specs.Inputs.Objects.{text_at, size_at}
use Rattle.native_effects.specs.Inputs.MadeViews.{MadeView, object_of_class, object_of_box, class_made, box_made}

-- so many slots more pass the limit
abbrev pub is_full : ℕ → HeapView → Bool
is_full asked h = nat_lt h.limit (h.used + asked)

-- an answer, or what a full heap throws
abbrev pub unless_full : ℕ → Answer → HeapView → Answer
unless_full asked answer h = if is_full asked h then Throws out_of_memory_error else answer

-- a reference to the object that is made next, where it costs so much
abbrev pub new_object : ℕ → HeapView → Answer
new_object asked h = unless_full asked (Value (Some (Ref (next_number h)))) h

-- what is answered where an object was made or found, and where something was changed; nothing where memory was wanting
abbrev pub object_answer : Result ℕ HeapError → Option Answer
object_answer (Ok object) = Some (Value (Some (Ref object)))
object_answer (Err HeapFull) = Some (Throws out_of_memory_error)
object_answer (Err NoMemory) = None

abbrev pub change_answer : Result (Unit {0}) HeapError → Option Datum → Option Answer
change_answer (Ok done) value = Some (Value value)
change_answer (Err HeapFull) value = Some (Throws out_of_memory_error)
change_answer (Err NoMemory) value = None

-- ---- new objects

abbrev pub answer_of_text : List ℕ → HeapView → Answer
answer_of_text units h = new_object (1 + length units) h

abbrev pub heap_with_text : List ℕ → HeapView → HeapView
heap_with_text units h = if is_full (1 + length units) h then h else with_text string_kind units h

abbrev pub answer_of_instance : List Datum → HeapView → Answer
answer_of_instance fields h = new_object (1 + length fields) h

abbrev pub heap_with_instance : ℕ → List Datum → HeapView → HeapView
heap_with_instance kind fields h = if is_full (1 + length fields) h then h else with_instance kind fields h

-- a value in a slot, where there is one
abbrev pub put_at : ℕ → ℕ → Datum → HeapView → HeapView
put_at object slot v h = changed_if (has_slot_at object slot h) (with_slot_at object slot v) h

-- Values are put into the slots from one on, as far as there are any.
abbrev pub with_values : ℕ → ℕ → List Datum → HeapView → HeapView
with_values object slot [] h = h
with_values object slot (v ∷ values) h =
    if nat_lt slot (size_at object h) then with_values object (slot + 1) values (put_at object slot v h) else h

abbrev pub answer_of_array : List Datum → HeapView → Answer
answer_of_array values h = new_object (1 + length values) h

abbrev pub heap_with_array : ℕ → List Datum → HeapView → HeapView
heap_with_array kind values h =
    if is_full (1 + length values) h then h
    else with_values (next_number h) 0 values (with_array kind (Int (pos 0)) (length values) h)

-- ---- texts that change; what is no text does not fit

abbrev pub if_text : ℕ → Answer → HeapView → Answer
if_text object answer h = if is_some (units_at object h) then answer else Bad

abbrev pub answer_of_append : ℕ → List ℕ → HeapView → Answer
answer_of_append object units h = if_text object (unless_full (length units) (Value (Some (Ref object))) h) h

abbrev pub heap_with_append : ℕ → List ℕ → HeapView → HeapView
heap_with_append object units h =
    if is_some (units_at object h)
    then (if is_full (length units) h then h else with_units_added object units h)
    else h

abbrev pub answer_of_replace : ℕ → List ℕ → Option Datum → HeapView → Answer
answer_of_replace object units value h = if_text object (unless_full (growth_of object units h) (Value value) h) h

abbrev pub heap_with_replace : ℕ → List ℕ → HeapView → HeapView
heap_with_replace object units h =
    if is_some (units_at object h)
    then (if is_full (growth_of object units h) h then h else with_units_replaced object units h)
    else h

abbrev pub answer_of_unit : ℕ → ℕ → HeapView → Answer
answer_of_unit object at h = if has_unit_at object at h then Value None else Bad

abbrev pub heap_with_unit : ℕ → ℕ → ℕ → HeapView → HeapView
heap_with_unit object at unit h = changed_if (has_unit_at object at h) (with_unit_at object at unit) h

-- the first so many units, with units of 0 behind them where there are fewer
abbrev pub units_resized : ℕ → List ℕ → List ℕ
units_resized size units = take size units ++ replicate (size - length units) 0

abbrev pub answer_of_resize : ℕ → ℕ → HeapView → Answer
answer_of_resize object size h = answer_of_replace object (units_resized size (text_at object h)) None h

abbrev pub heap_with_resize : ℕ → ℕ → HeapView → HeapView
heap_with_resize object size h = heap_with_replace object (units_resized size (text_at object h)) h

-- ---- what is made once

-- where memory was enough, the answer is that the heap is full exactly where there is none yet and one of this cost
-- passes the limit
abbrev pub IsFullFor : Result ℕ HeapError → Option ℕ → ℕ → HeapView → Type 0
IsFullFor result found asked h = result ≢ Err NoMemory → IsFullExactly result ((found ≡ None) × ExceedsLimit asked h)

-- the one there is, or the one that is made at this cost
abbrev pub found_or_new : Option ℕ → ℕ → HeapView → Answer
found_or_new found asked h = if is_some found then Value (Some (Ref (unwrap_or found 0))) else new_object asked h

abbrev pub answer_of_intern : List ℕ → HeapView → Answer
answer_of_intern units h = found_or_new (number_of units h.interned) (1 + length units) h

abbrev pub heap_with_interned : List ℕ → HeapView → HeapView
heap_with_interned units h =
    if is_some (number_of units h.interned) then h else
    if is_full (1 + length units) h then h else with_interned string_kind units h

abbrev pub class_number : ℕ → MadeView → HeapView → ℕ
class_number kind m h = unwrap_or (object_of_class kind m.classes) (next_number h)

abbrev pub heap_with_class : ℕ → MadeView → HeapView → HeapView
heap_with_class kind m h = if is_some (object_of_class kind m.classes) then h else with_instance class_kind [] h

abbrev pub made_with_class : ℕ → HeapView → MadeView → MadeView
made_with_class kind h m = if is_some (object_of_class kind m.classes) then m else class_made kind (next_number h) m

abbrev pub box_number : ℕ → ℕ → MadeView → HeapView → ℕ
box_number kind place m h = unwrap_or (object_of_box kind place m.boxes) (next_number h)

abbrev pub heap_with_box : ℕ → ℕ → Datum → MadeView → HeapView → HeapView
heap_with_box kind place value m h =
    if is_some (object_of_box kind place m.boxes) then h else with_instance kind (value ∷ []) h

abbrev pub made_with_box : ℕ → ℕ → HeapView → MadeView → MadeView
made_with_box kind place h m =
    if is_some (object_of_box kind place m.boxes) then m else box_made kind place (next_number h) m

-- ---- what a call leaves of these

abbrev pub answer_of_class : ℕ → MadeView → HeapView → Answer
answer_of_class kind m h = found_or_new (object_of_class kind m.classes) 1 h

abbrev pub heap_after_class : ℕ → MadeView → HeapView → HeapView
heap_after_class kind m h =
    if is_some (object_of_class kind m.classes) then h else
    if is_full 1 h then h else with_instance class_kind [] h

abbrev pub made_after_class : ℕ → HeapView → MadeView → MadeView
made_after_class kind h m =
    if is_some (object_of_class kind m.classes) then m else
    if is_full 1 h then m else class_made kind (next_number h) m

abbrev pub answer_of_box : ℕ → ℕ → MadeView → HeapView → Answer
answer_of_box kind place m h = found_or_new (object_of_box kind place m.boxes) 2 h

abbrev pub heap_after_box : ℕ → ℕ → Datum → MadeView → HeapView → HeapView
heap_after_box kind place value m h =
    if is_some (object_of_box kind place m.boxes) then h else
    if is_full 2 h then h else with_instance kind (value ∷ []) h

abbrev pub made_after_box : ℕ → ℕ → HeapView → MadeView → MadeView
made_after_box kind place h m =
    if is_some (object_of_box kind place m.boxes) then m else
    if is_full 2 h then m else box_made kind place (next_number h) m

-- the first two fields of an object
abbrev pub with_fields : ℕ → Datum → Datum → HeapView → HeapView
with_fields object first second h = put_at object 1 second (put_at object 0 first h)
