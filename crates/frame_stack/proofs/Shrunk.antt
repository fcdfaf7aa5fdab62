-- Without the topmost operands, where each takes one slot; and with a value of one slot in their place.
use Rattle.std.proofs.Common.{◌≡◌, ℕ, zero, suc, ◌+◌, ◌-◌, ◌≤◌, ◌<◌, false, List, [], ◌∷◌, ◌++◌, length, take, drop, refl, sym, ap, subst, ◌∙◌, arith}
use Rattle.std.specs.Prelude.{reverse, Option, Some, None}
use Rattle.std.proofs.lemmas.List.{length-take-le, drop-append-le, take-append-le}
use Rattle.heap_objects.specs.declared.Value.{Value}
use Rattle.heap_objects.specs.declared.Value.TheVariants.{Int, Long, Ref, Addr}
use Rattle.frame_stack.specs.declared.entry.Entry.{Entry}
use Rattle.frame_stack.specs.Widths.{is_long, width, height_of, slots_of}
use Rattle.frame_stack.specs.FrameLists.{FramesView, with_frames, top_operands, with_operand, without_arguments}
use Rattle.frame_stack.specs.Tops.{AreNarrow, ints_of}
use Rattle.frame_stack.specs.Cuts.{operands_of, AreOperands, operand_slots, frame_of, limit, frames_of, AreFrames, IsFlat, entries_in, view_of}
use Rattle.frame_stack.proofs.OperandSlots.{AreBelow, below-is, operands-put}
use Rattle.frame_stack.proofs.Cutting.{flat-put, length-below-limit}
use Rattle.frame_stack.proofs.CutBack.{IsCutBack, is-cut-back, flat-back, length-operand-slots}

narrow-height : (n : ℕ) (o : List Value) → AreNarrow n o → n ≡ height_of (take n o)
narrow-height zero o h = refl
narrow-height (suc n) [] h = absurd h
narrow-height (suc n) (v ∷ o) h =
    let one : width v ≡ 1 = rw h.0 refl in
    omega (arith, narrow-height n o h.1, one)

-- fewer than two slots hold fewer than two ints
pub few-ints : (slots : List (Option Value)) → AreOperands slots → length slots < 2 → None ≡ ints_of (operands_of slots)
few-ints [] h few = refl
few-ints (Some (Int n) ∷ []) h few = refl
few-ints (Some (Long n) ∷ []) h few = refl
few-ints (Some (Ref n) ∷ []) h few = refl
few-ints (Some (Addr n) ∷ []) h few = refl
few-ints (None ∷ []) h few = absurd h
few-ints (x ∷ y ∷ slots) h few = absurd (omega arith)

pub record IsShrunk (n : ℕ) (top : Option Entry) (below : List Entry) (below_capacity : ℕ) (slots : List (Option Value)) (capacity : ℕ) (spare : Option ℕ) : Type 0 where
  pub fits : n ≤ length slots
  pub flat : IsFlat top below below_capacity (take (length slots - n) slots) capacity spare
  pub seen : view_of top below (take (length slots - n) slots) spare ≡ with_frames (without_arguments n (frames_of (entries_in top below) slots)) (view_of top below slots spare)

no-slots : (below : List Entry) (below_capacity : ℕ) (capacity : ℕ) (spare : Option ℕ) (slots : List (Option Value))
    → IsFlat None below below_capacity slots capacity spare → slots ≡ [] → IsShrunk 0 None below below_capacity slots capacity spare
no-slots below below_capacity capacity spare slots h e = subst (λ (s : List (Option Value)). IsShrunk 0 None below below_capacity s capacity spare) (sym e)
    (record { fits = omega arith; flat = subst (λ (s : List (Option Value)). IsFlat None below below_capacity s capacity spare) e h; seen = refl })

pub is-shrunk : (n : ℕ) (top : Option Entry) (below : List Entry) (below_capacity : ℕ) (slots : List (Option Value)) (capacity : ℕ) (spare : Option ℕ)
    → IsFlat top below below_capacity slots capacity spare → AreNarrow n (top_operands (frames_of (entries_in top below) slots))
    → IsShrunk n top below below_capacity slots capacity spare
is-shrunk zero None below below_capacity slots capacity spare h narrow = no-slots below below_capacity capacity spare slots h h.frames
is-shrunk (suc n) None below below_capacity slots capacity spare h narrow = absurd narrow
is-shrunk n (Some e) below below_capacity slots capacity spare h narrow =
    let own = operand_slots e (drop e.base slots) in
    let b : AreBelow n n own = below-is n n own h.frames.1.operands (narrow-height n (operands_of own) narrow) in
    let back : IsCutBack capacity n e (reverse below) slots = is-cut-back capacity n e (reverse below) slots h.frames b.within b.are in
    record {
      fits = omega (arith, b.within, length-operand-slots capacity e (reverse below) slots h.frames);
      flat = flat-back n e below below_capacity slots capacity spare h back;
      seen = rw (back.seen, b.operands) refl;
    }

-- ---- with a value in their place

put-own : (e : Entry) (own : List (Option Value)) (v : Value) → e.max_locals ≤ length own
    → frame_of e (own ++ slots_of v) ≡ record (frame_of e own) { operands = v ∷ operands_of (operand_slots e own) }
put-own e own v le = rw (take-append-le e.max_locals own (slots_of v) le, drop-append-le e.max_locals own (slots_of v) le, operands-put (drop e.max_locals own) v) refl

put-seen : (capacity : ℕ) (e : Entry) (es : List Entry) (slots : List (Option Value)) (v : Value) → AreFrames capacity (e ∷ es) slots
    → frames_of (e ∷ es) (slots ++ slots_of v) ≡ with_operand v (frames_of (e ∷ es) slots)
put-seen capacity e es slots v h =
    rw (drop-append-le e.base slots (slots_of v) h.0, take-append-le e.base slots (slots_of v) h.0, put-own e (drop e.base slots) v h.1.has_locals) refl

pub record IsExchanged (n : ℕ) (v : Value) (top : Option Entry) (below : List Entry) (below_capacity : ℕ) (slots : List (Option Value)) (capacity : ℕ) (spare : Option ℕ) : Type 0 where
  pub fits : n ≤ length slots
  pub flat : IsFlat top below below_capacity (take (length slots - n) slots ++ Some v ∷ []) capacity spare
  pub seen : view_of top below (take (length slots - n) slots ++ Some v ∷ []) spare ≡ with_frames (with_operand v (without_arguments n (frames_of (entries_in top below) slots))) (view_of top below slots spare)

pub is-exchanged : (n : ℕ) (v : Value) (top : Option Entry) (below : List Entry) (below_capacity : ℕ) (slots : List (Option Value)) (capacity : ℕ) (spare : Option ℕ)
    → IsFlat top below below_capacity slots capacity spare → AreNarrow n (top_operands (frames_of (entries_in top below) slots)) → 0 < n → is_long v ≡ false
    → IsExchanged n v top below below_capacity slots capacity spare
is-exchanged zero v None below below_capacity slots capacity spare h narrow some one = absurd (omega arith)
is-exchanged (suc n) v None below below_capacity slots capacity spare h narrow some one = absurd narrow
is-exchanged n v (Some e) below below_capacity slots capacity spare h narrow some one =
    let cut : IsShrunk n (Some e) below below_capacity slots capacity spare = is-shrunk n (Some e) below below_capacity slots capacity spare h narrow in
    let left = take (length slots - n) slots in
    let slot : slots_of v ≡ Some v ∷ [] = rw one refl in
    let width-is : width v ≡ 1 = rw one refl in
    let fits : length left + width v ≤ limit e = omega (arith, length-take-le (length slots - n) slots (omega arith), length-below-limit (Some e) below capacity slots h.frames, cut.fits, width-is) in
    record {
      fits = cut.fits;
      flat = subst (λ (x : List (Option Value)). IsFlat (Some e) below below_capacity (left ++ x) capacity spare) slot (flat-put e below below_capacity left capacity capacity spare v cut.flat fits (omega arith));
      seen = subst (λ (x : List (Option Value)). view_of (Some e) below (left ++ x) spare ≡ with_frames (with_operand v (without_arguments n (frames_of (entries_in (Some e) below) slots))) (view_of (Some e) below slots spare)) slot
          (ap (λ fs. record { frames = fs; room = spare }) (put-seen capacity e (reverse below) left v cut.flat.frames ∙ ap (λ (s : FramesView). with_operand v s.frames) cut.seen));
    }
