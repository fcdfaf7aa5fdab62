-- Frames by hand: what is there without a frame, operands up to the limit, longs over two locals, arguments; and how
-- long a version stays.
use Rattle.std.proofs.Common.{◌≡◌, ℕ, Bool, true, false, List, [], ◌∷◌, Some, None, refl, map, ◌+◌}
use Rattle.std.specs.Prelude.{pos, negsuc, Option, slice_get}
use Rattle.heap_objects.specs.declared.Value.{Value}
use Rattle.heap_objects.specs.declared.Value.TheVariants.{Int, Long, Ref, Addr}
use Rattle.frame_stack.specs.FrameLists.{PlacedFrame, FramesView, no_frames, top_of, place_of, top_height, has_frame, with_place, top_operands, can_push, with_pushed, without_operand, with_frames, local_of, has_slot, with_written, can_enter, version_of, pins_of, without_frame, with_new_frame}

-- ---- without a frame

nothing : top_of [] ≡ None
nothing = refl

no_place : place_of [] ≡ None
no_place = refl

no_height : top_height [] ≡ None
no_height = refl

no_operand : slice_get (top_operands []) 0 ≡ None
no_operand = refl

no_local : local_of 0 [] ≡ None
no_local = refl

no_version : version_of [] ≡ None
no_version = refl

-- it goes nowhere, takes no operand and no local, and has no argument
refused : has_frame [] ∷ can_push (Int (pos 1)) [] ∷ has_slot 0 (Int (pos 1)) [] ∷ can_enter 4 1 [] ∷ [] ≡ false ∷ false ∷ false ∷ false ∷ []
refused = refl

-- of the version 3 of the method 7, without locals and operands
abbrev one : FramesView
one = with_new_frame 3 7 0 0 0 no_frames

begun : top_of one.frames ≡ Some (3, 7)
begun = refl

at_0 : place_of one.frames ≡ Some 0
at_0 = refl

gone : place_of (with_place 65535 one.frames) ≡ Some 65535
gone = refl

no_room : can_push (Addr 9) one.frames ≡ false
no_room = refl

left : version_of one.frames ≡ Some 3
left = refl

none_left : (without_frame one).frames ≡ []
none_left = refl

-- ---- operands of four slots

abbrev two_pushed : FramesView
two_pushed = with_pushed (Addr 6) (with_pushed (Long (pos 5)) (with_new_frame 0 7 1 4 0 no_frames))

-- two slots more than three of four
long_too_wide : can_push (Long (pos 7)) two_pushed.frames ≡ false
long_too_wide = refl

one_fits : can_push (Ref 8) two_pushed.frames ≡ true
one_fits = refl

abbrev three_pushed : FramesView
three_pushed = with_pushed (Ref 8) two_pushed

full : can_push (Int (pos 9)) three_pushed.frames ≡ false
full = refl

height : top_height three_pushed.frames ≡ Some 4
height = refl

operands : map (slice_get (top_operands three_pushed.frames)) (0 ∷ 1 ∷ 2 ∷ 3 ∷ []) ≡ Some (Ref 8) ∷ Some (Addr 6) ∷ Some (Long (pos 5)) ∷ None ∷ []
operands = refl

popped : top_operands (without_operand (without_operand three_pushed.frames)) ≡ Long (pos 5) ∷ []
popped = refl

height_of_none : top_height (without_operand (without_operand (without_operand three_pushed.frames))) ≡ Some 0
height_of_none = refl

-- ---- a long over two of three locals

abbrev three_locals : FramesView
three_locals = with_new_frame 0 7 3 0 0 no_frames

abbrev locals : FramesView → List (Option Value)
locals s = map (λ slot. local_of slot s.frames) (0 ∷ 1 ∷ 2 ∷ 3 ∷ [])

abbrev l : Value
l = Long (negsuc 0)

abbrev i : Value
i = Int (pos 2)

unwritten : locals three_locals ≡ None ∷ None ∷ None ∷ None ∷ []
unwritten = refl

abbrev long_first : FramesView
long_first = with_written 0 l three_locals

long_in_0 : locals long_first ≡ Some l ∷ None ∷ None ∷ None ∷ []
long_in_0 = refl

-- a write to its second slot takes it away
int_in_1 : locals (with_written 1 i long_first) ≡ None ∷ Some i ∷ None ∷ None ∷ []
int_in_1 = refl

long_again : locals (with_written 0 l (with_written 1 i long_first)) ≡ Some l ∷ None ∷ None ∷ None ∷ []
long_again = refl

int_in_0 : locals (with_written 0 i long_first) ≡ Some i ∷ None ∷ None ∷ None ∷ []
int_in_0 = refl

abbrev long_behind : FramesView
long_behind = with_written 1 l (with_written 0 i long_first)

long_in_1 : locals long_behind ≡ Some i ∷ Some l ∷ None ∷ None ∷ []
long_in_1 = refl

long_over_long : locals (with_written 0 l long_behind) ≡ Some l ∷ None ∷ None ∷ None ∷ []
long_over_long = refl

abbrev int_last : FramesView
int_last = with_written 2 i (with_written 0 l long_behind)

int_in_2 : locals int_last ≡ Some l ∷ None ∷ Some i ∷ None ∷ []
int_in_2 = refl

long_between : locals (with_written 1 l int_last) ≡ None ∷ Some l ∷ None ∷ None ∷ []
long_between = refl

-- there is no slot behind the last
past_the_end : has_slot 2 l int_last.frames ∷ has_slot 3 i int_last.frames ∷ has_slot 1 l int_last.frames ∷ [] ≡ false ∷ false ∷ true ∷ []
past_the_end = refl

-- ---- arguments are the first locals

abbrev caller : FramesView
caller = with_pushed (Ref 3) (with_pushed (Long (pos 2)) (with_pushed (Int (pos 1)) (with_new_frame 1 7 0 9 0 no_frames)))

-- an argument too few, a slot too few, and exactly enough of both
enough : can_enter 9 4 caller.frames ∷ can_enter 2 2 caller.frames ∷ can_enter 3 2 caller.frames ∷ [] ≡ false ∷ false ∷ true ∷ []
enough = refl

abbrev called : FramesView
called = with_new_frame 2 7 3 0 2 caller

arguments_first : locals called ≡ Some (Long (pos 2)) ∷ None ∷ Some (Ref 3) ∷ None ∷ []
arguments_first = refl

callee : version_of called.frames ≡ Some 2
callee = refl

below : (without_frame called).frames ≡ (with_pushed (Int (pos 1)) (with_new_frame 1 7 0 9 0 no_frames)).frames
below = refl

-- what an ended frame wrote is gone
anew : locals (with_new_frame 2 7 3 0 0 (without_frame (with_written 1 (Int (pos 4)) called))) ≡ None ∷ None ∷ None ∷ None ∷ []
anew = refl

-- ---- frames in a version

abbrev two_in_0 : FramesView
two_in_0 = with_new_frame 0 0 0 0 0 (with_new_frame 0 0 0 0 0 no_frames)

pins : pins_of 0 two_in_0.frames ∷ pins_of 1 two_in_0.frames ∷ pins_of 0 (without_frame two_in_0).frames ∷ [] ≡ 2 ∷ 0 ∷ 1 ∷ []
pins = refl
