-- A frame that begins on its caller's operands.
use Rattle.std.proofs.Common.{◌≡◌, ℕ, zero, suc, ◌+◌, ◌-◌, ◌≤◌, ◌<◌, Bool, true, List, [], ◌∷◌, ◌++◌, length, take, drop, replicate, refl, sym, ap, subst, ◌∙◌, arith}
use Rattle.std.specs.Prelude.{reverse, Option, Some, None, IfSome, IsTrue, ◌&&◌}
use Rattle.std.proofs.lemmas.List.{length-drop, length-reverse, length-append, length-replicate, take-append-le, drop-append-le, take_all, drop_all, drop-drop, reverse-append, reverse-reverse, append_assoc, append-nil}
use Rattle.std.proofs.lemmas.Bool.{leb-true, le-leb, false≢true}
use Rattle.jf_bytes.proofs.Reversed.{take-reverse}
use Rattle.heap_objects.specs.declared.Value.{Value}
use Rattle.frame_stack.specs.declared.entry.Entry.{Entry}
use Rattle.frame_stack.specs.Widths.{width, height_of, slots_of, slots_of_all}
use Rattle.frame_stack.specs.FrameLists.{without_arguments, can_enter, new_frame, with_new_frame, has_room, top_operands}
use Rattle.frame_stack.specs.Cuts.{operands_of, AreOperands, operand_slots, limit, floor, frame_of, frames_of, IsFrame, AreFrames, IsFlat, entries_in, view_of, with_below, top_limit, top_floor, IsBottom}
use Rattle.frame_stack.proofs.OperandSlots.{AreBelow, below-is}
use Rattle.frame_stack.proofs.Cutting.{roomier, length-frames_of, length-below-limit}
use Rattle.frame_stack.proofs.CutBack.{IsCutBack, is-cut-back, operand-slots-is}
use Rattle.frame_stack.proofs.Passing.{operands_from, HasPassed}
use Rattle.frame_stack.proofs.Floors.{HasFloor, has-floor}

-- ---- the arguments' slots

reverse-cons : {X : Type 0} (x : X) (xs : List X) → reverse (x ∷ xs) ≡ reverse xs ++ x ∷ []
reverse-cons x xs = reverse-append (x ∷ []) xs

slots_of_all-push : (vs : List Value) (v : Value) → slots_of_all (vs ++ v ∷ []) ≡ slots_of_all vs ++ slots_of v
slots_of_all-push [] v = append-nil (slots_of v)
slots_of_all-push (w ∷ vs) v = ap (λ xs. slots_of w ++ xs) (slots_of_all-push vs v) ∙ sym (append_assoc (slots_of w) (slots_of_all vs) (slots_of v))

slots_of_all-reverse : (v : Value) (vs : List Value) → slots_of_all (reverse (v ∷ vs)) ≡ slots_of_all (reverse vs) ++ slots_of v
slots_of_all-reverse v vs = ap slots_of_all (reverse-cons v vs) ∙ slots_of_all-push (reverse vs) v

-- the topmost slots, the lowest first, are the topmost operands, the lowest first
pub arguments-are : (count k : ℕ) (slots : List (Option Value)) → AreOperands slots → k ≡ height_of (take count (operands_of slots))
    → reverse (take k slots) ≡ slots_of_all (reverse (take count (operands_of slots)))
arguments-are zero k slots h e = rw e refl
arguments-are (suc count) k [] h e = rw e refl
arguments-are (suc count) k (Some v ∷ slots) h e =
    let vs = take count (operands_of slots) in
    let k' : ℕ = height_of vs in
    let one : width v ≡ 1 = rw h.0 refl in
    let slot : slots_of v ≡ Some v ∷ [] = rw h.0 refl in
    let at : k ≡ suc k' = omega (arith, e, one) in
    rw at (reverse-cons (Some v) (take k' slots) ∙ (ap (λ xs. xs ++ Some v ∷ []) (arguments-are count k' slots h.1 refl)
    ∙ (ap (λ xs. slots_of_all (reverse vs) ++ xs) (sym slot) ∙ sym (slots_of_all-reverse v vs))))
arguments-are (suc count) k (None ∷ []) h e = absurd h
arguments-are (suc count) k (None ∷ Some v ∷ slots) h e =
    let vs = take count (operands_of slots) in
    let k' : ℕ = height_of vs in
    let two : width v ≡ 2 = rw h.0 refl in
    let slot : slots_of v ≡ Some v ∷ None ∷ [] = rw h.0 refl in
    let at : k ≡ suc (suc k') = omega (arith, e, two) in
    rw at (reverse-append (None ∷ Some v ∷ []) (take k' slots) ∙ (ap (λ xs. xs ++ Some v ∷ None ∷ []) (arguments-are count k' slots h.1 refl)
    ∙ (ap (λ xs. slots_of_all (reverse vs) ++ xs) (sym slot) ∙ sym (slots_of_all-reverse v vs))))
arguments-are (suc count) k (None ∷ None ∷ slots) h e = absurd h

-- the end of a list, by its reverse
end-is : (slots : List (Option Value)) (low base k : ℕ) → low ≤ base → base + k ≡ length slots → drop base slots ≡ reverse (take k (reverse (drop low slots)))
end-is slots low base k le at =
    let own = drop low slots in
    let long : length own ≡ length slots - low = length-drop low slots in
    let n : ℕ = length own - k in
    let there : low + n ≡ base = omega arith in
    ap (λ m. drop m slots) (sym there) ∙ (sym (drop-drop n low slots) ∙ (sym (reverse-reverse (drop n own)) ∙ ap reverse (sym (take-reverse own k (omega arith)))))

-- ---- the frames below

pub entries-below : (top : Option Entry) (below : List Entry) → IsBottom top below → reverse (with_below top below) ≡ entries_in top below
entries-below None below h = ap reverse h
entries-below (Some e) below h = reverse-append below (e ∷ [])

take-nil : (n : ℕ) → take {A = Option Value} n [] ≡ []
take-nil zero = refl
take-nil (suc n) = refl

-- the caller keeps what stands below the arguments
pub record IsCaller (capacity args base : ℕ) (top : Option Entry) (below : List Entry) (slots : List (Option Value)) : Type 0 where
  pub frames : AreFrames capacity (entries_in top below) (take base slots)
  pub seen : frames_of (entries_in top below) (take base slots) ≡ without_arguments args (frames_of (entries_in top below) slots)

pub is-caller : (capacity args base : ℕ) (top : Option Entry) (below : List Entry) (slots : List (Option Value))
    → AreFrames capacity (entries_in top below) slots → HasPassed (top_floor top) base args slots
    → IsCaller capacity args base top below slots
is-caller capacity args base None below slots h passed = record { frames = rw h (take-nil base); seen = refl }
is-caller capacity args base (Some e) below slots h passed =
    let own = operand_slots e (drop e.base slots) in
    let k : ℕ = height_of (take args (operands_of own)) in
    let same : operands_of own ≡ operands_from (floor e) slots = ap operands_of (operand-slots-is e slots) in
    let at : base + k ≡ length slots = subst (λ vs. base + height_of (take args vs) ≡ length slots) (sym same) passed.at in
    let b : AreBelow args k own = below-is args k own h.1.operands refl in
    let back : IsCutBack capacity k e (reverse below) slots = is-cut-back capacity k e (reverse below) slots h b.within b.are in
    let ends : base ≡ length slots - k = omega arith in
    rw ends (record { frames = back.frames; seen = back.seen ∙ rw b.operands refl })

-- ---- the new frame

spare-fits : (spare : Option ℕ) (at count capacity low n : ℕ) → IfSome spare (λ m. (at + m ≤ capacity) × (count < low)) → IsTrue (has_room n spare) → at + n ≤ capacity
spare-fits None at count capacity low n h t = absurd (false≢true t)
spare-fits (Some m) at count capacity low n h t = omega (arith, leb-true n m t, h.0)

-- what begins above the caller's operands is within the room that was made
pub new-limit : (top : Option Entry) (below : List Entry) (below_capacity : ℕ) (slots : List (Option Value)) (capacity : ℕ) (spare : Option ℕ) (base n : ℕ)
    → IsFlat top below below_capacity slots capacity spare → IsTrue (has_room n spare) → base ≤ length slots → base + n ≤ capacity
new-limit top below below_capacity slots capacity spare base n h room le =
    omega (arith, spare-fits spare (top_limit top) (length below) capacity below_capacity n h.room room, length-below-limit top below capacity slots h.frames)

abbrev pub new_entry : ℕ → ℕ → ℕ → ℕ → ℕ → Entry
new_entry version method base max_locals max_stack =
    record { version = version; method = method; place = 0; base = base; max_locals = max_locals; max_stack = max_stack }

-- the slots with the new frame's locals
abbrev pub filled : ℕ → List (Option Value) → List (Option Value)
filled n slots = slots ++ replicate (n - length slots) None

pub record IsEntered (version method base max_locals max_stack args : ℕ) (top : Option Entry) (below : List Entry) (below_capacity : ℕ) (slots : List (Option Value)) (capacity : ℕ) (spare : Option ℕ) : Type 0 where
  pub flat : IsFlat (Some (new_entry version method base max_locals max_stack)) (with_below top below) below_capacity (filled (base + max_locals) slots) capacity None
  pub seen : view_of (Some (new_entry version method base max_locals max_stack)) (with_below top below) (filled (base + max_locals) slots) None
      ≡ with_new_frame version method max_locals max_stack args (view_of top below slots spare)
  pub can : can_enter max_locals args (frames_of (entries_in top below) slots) ≡ true

pub is-entered : (version method base max_locals max_stack args : ℕ) (top : Option Entry) (below : List Entry) (low below_capacity : ℕ) (slots : List (Option Value)) (capacity higher : ℕ) (spare : Option ℕ)
    → IsFlat top below low slots capacity spare → IsTrue (has_room (max_locals + max_stack) spare)
    → length (frames_of (entries_in top below) slots) < 4294967295
    → HasPassed (top_floor top) base args slots → length slots - base ≤ max_locals
    → capacity ≤ higher
    → IsEntered version method base max_locals max_stack args top below below_capacity slots higher spare
is-entered version method base max_locals max_stack args top below low below_capacity slots capacity higher spare h room few passed fits more =
    let e = new_entry version method base max_locals max_stack in
    let es = entries_in top below in
    let ops = operands_from (top_floor top) slots in
    let k : ℕ = height_of (take args ops) in
    let floor-is : HasFloor (top_floor top) slots (top_operands (frames_of es slots)) = has-floor top below capacity slots h.frames in
    let b : AreBelow args k (reverse (drop (top_floor top) slots)) = below-is args k (reverse (drop (top_floor top) slots)) floor-is.are refl in
    let at : base + k ≡ length slots = passed.at in
    let caller : IsCaller capacity args base top below slots = is-caller capacity args base top below slots h.frames passed in
    let front : base ≤ length slots = omega arith in
    let above : top_floor top ≤ base = omega (arith, b.within, length-reverse (drop (top_floor top) slots), length-drop (top_floor top) slots, floor-is.within) in
    let pad : ℕ = base + max_locals - length slots in
    let padding : List (Option Value) = replicate pad None in
    let new = filled (base + max_locals) slots in
    let own : drop base new ≡ drop base slots ++ padding = drop-append-le base slots padding front in
    let kept : take base new ≡ take base slots = take-append-le base slots padding front in
    let own-long : length (drop base new) ≡ max_locals = omega (arith, length-drop base new, length-append slots padding, length-replicate {A = Option Value} pad None) in
    let locals-given : drop base slots ≡ slots_of_all (reverse (take args ops)) =
    end-is slots (top_floor top) base k above at ∙ arguments-are args k (reverse (drop (top_floor top) slots)) floor-is.are refl in
    let below-are : reverse (with_below top below) ≡ es = entries-below top below h.bottom in
    let limit-fits : limit e ≤ higher = omega (arith, spare-fits spare (top_limit top) (length below) capacity low (max_locals + max_stack) h.room room, length-below-limit top below capacity slots h.frames) in
    let pads : pad ≡ max_locals - k = omega arith in
    let frame : IsFrame higher e (drop base new) = record {
      has_locals = omega arith;
      within = omega arith;
      room = limit-fits;
      operands = rw (drop_all max_locals (drop base new) (omega arith)) tt;
    } in
    let first : frame_of e (drop base new) ≡ new_frame version method max_locals max_stack (take args ops) =
    frame-is e (drop base new) (take args ops) (omega arith)
    (own ∙ (ap (λ xs. xs ++ padding) locals-given ∙ ap (λ n. slots_of_all (reverse (take args ops)) ++ replicate n None) pads)) refl in
    record {
      flat = record {
        frames = rw below-are (
          omega (arith, length-append slots padding),
          frame,
          rw kept (roomier capacity higher es (take base slots) more caller.frames),
        );
        bottom = tt;
        few = omega (arith, few, length-frames_of es slots, length-reverse (with_below top below), ap length below-are);
        room = tt;
      };
      seen = rw (below-are, first, kept, caller.seen, floor-is.seen) refl;
      can = rw floor-is.seen (both (le-leb args (length ops) passed.there) (le-leb k max_locals (omega arith)));
    }
  where
    frame-is : (e : Entry) (own : List (Option Value)) (taken : List Value) → length own ≤ e.max_locals
        → own ≡ slots_of_all (reverse taken) ++ replicate (e.max_locals - height_of taken) None → e.place ≡ 0
        → frame_of e own ≡ new_frame e.version e.method e.max_locals e.max_stack taken
    frame-is e own taken le is at = rw (take_all e.max_locals own le, drop_all e.max_locals own le, is, at) refl

    both : {a b : Bool} → a ≡ true → b ≡ true → (a && b) ≡ true
    both p q = rw (p, q) refl
