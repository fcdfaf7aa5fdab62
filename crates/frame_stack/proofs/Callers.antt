-- The frame below the top one.
use Rattle.std.proofs.Common.{◌≡◌, ℕ, ◌+◌, ◌-◌, ◌≤◌, true, false, List, [], ◌∷◌, length, take, drop, refl, sym, ap, subst, ◌∙◌, arith}
use Rattle.std.specs.Prelude.{reverse, slice_get, nat_le, Option, Some, None}
use Rattle.std.specs.Option.{option_map}
use Rattle.std.proofs.lemmas.List.{length-drop, length-take-le}
use Rattle.heap_objects.specs.declared.Value.{Value}
use Rattle.frame_stack.specs.declared.entry.Entry.{Entry}
use Rattle.frame_stack.specs.Widths.{width, height_of}
use Rattle.frame_stack.specs.FrameLists.{FramesView, caller_of, can_give}
use Rattle.frame_stack.specs.Cuts.{operands_of, operand_slots, floor, frames_of, AreFrames, entries_in, IsBottom}
use Rattle.frame_stack.specs.Entries.{base_in}
use Rattle.frame_stack.proofs.Cutting.{top-height-is}
use Rattle.frame_stack.proofs.SlotReads.{read-first}

pub last_read : {A : Type 0} (xs : List A) → slice_get xs (length xs - 1) ≡ slice_get (reverse xs) 0
last_read [] = refl
last_read (x ∷ xs) =
    let at : length (x ∷ xs) - 1 ≡ length xs = omega arith in
    ap (slice_get (x ∷ xs)) at ∙ read-first 0 (length xs) (x ∷ xs) (omega arith) (omega arith)

abbrev pub told : Entry → ℕ × ℕ
told e = (e.version, e.place)

pub caller-is : (top : Option Entry) (below : List Entry) (slots : List (Option Value)) → IsBottom top below
    → caller_of (frames_of (entries_in top below) slots) ≡ option_map told (slice_get (reverse below) 0)
caller-is None below slots bottom = rw bottom refl
caller-is (Some e) below slots bottom = by (reverse below)
  where
    by : (es : List Entry) → caller_of (frames_of (e ∷ es) slots) ≡ option_map told (slice_get es 0)
    by [] = refl
    by (g ∷ es) = refl

-- without one nothing is given
pub gives-none : (top : Option Entry) (below : List Entry) (slots : List (Option Value)) (v : Option Value) → slice_get (reverse below) 0 ≡ None
    → can_give v (frames_of (entries_in top below) slots) ≡ false
gives-none None below slots None none = refl
gives-none None below slots (Some v) none = refl
gives-none (Some e) below slots v none = by (reverse below) v none
  where
    by : (es : List Entry) (v : Option Value) → slice_get es 0 ≡ None → can_give v (frames_of (e ∷ es) slots) ≡ false
    by [] None none = refl
    by [] (Some v) none = refl
    by (g ∷ es) v none = absurd (some-none none)
      where
        some-none : Some g ≡ None → ⊥
        some-none e = cc

pub record HasCaller (g : Entry) (base : ℕ) (s : FramesView) : Type 0 where
  pub above : floor g ≤ base
  pub within : base - floor g ≤ g.max_stack
  pub bare : can_give None s.frames ≡ true
  pub can : (v : Value) → can_give (Some v) s.frames ≡ nat_le (base - floor g + width v) g.max_stack

pub has-caller : (top : Option Entry) (below : List Entry) (capacity : ℕ) (slots : List (Option Value)) (g : Entry) (room : Option ℕ)
    → AreFrames capacity (entries_in top below) slots → IsBottom top below → slice_get (reverse below) 0 ≡ Some g
    → HasCaller g (base_in top) (record { frames = frames_of (entries_in top below) slots; room = room })
has-caller None below capacity slots g room h bottom is = absurd (none-some (sym (ap (λ (es : List Entry). slice_get (reverse es) 0) bottom) ∙ is))
  where
    none-some : None ≡ Some g → ⊥
    none-some e = cc
has-caller (Some e) below capacity slots g room h bottom is = by (reverse below) h is
  where
    none-some : None ≡ Some g → ⊥
    none-some e = cc

    same : (x : Entry) → Some x ≡ Some g → x ≡ g
    same x e = cc

    there : (x : Entry) (es : List Entry) → AreFrames capacity (e ∷ x ∷ es) slots
        → HasCaller x e.base (record { frames = frames_of (e ∷ x ∷ es) slots; room = room })
    there x es h =
        let own = drop x.base (take e.base slots) in
        let height : height_of (operands_of (operand_slots x own)) + floor x ≡ length (take e.base slots) = top-height-is capacity x es (take e.base slots) h.2 in
        let long : length (take e.base slots) ≡ e.base = length-take-le e.base slots h.0 in
        let is : height_of (operands_of (operand_slots x own)) ≡ e.base - floor x = omega arith in
        record {
          above = omega arith;
          within = omega (arith, h.2.1.within, h.2.1.has_locals, h.2.0, length-drop x.base (take e.base slots));
          bare = refl;
          can = λ v. ap (λ n. nat_le (n + width v) x.max_stack) is;
        }

    by : (es : List Entry) → AreFrames capacity (e ∷ es) slots → slice_get es 0 ≡ Some g
        → HasCaller g e.base (record { frames = frames_of (e ∷ es) slots; room = room })
    by [] h is = absurd (none-some is)
    by (x ∷ es) h is = subst (λ y. HasCaller y e.base (record { frames = frames_of (e ∷ x ∷ es) slots; room = room })) (same x is) (there x es h)
