-- Locals that are written where they stand among all slots.
use Rattle.std.proofs.Common.{◌≡◌, ℕ, zero, suc, ◌+◌, ◌≤◌, ◌<◌, Bool, true, false, List, [], ◌∷◌, ◌++◌, length, take, drop, refl, sym, ap, subst, ◌∙◌, arith}
use Rattle.std.specs.Prelude.{reverse, slice_get, slice_set, Option, Some, None, if◌then◌else◌}
use Rattle.std.specs.Option.{option_flatten}
use Rattle.std.proofs.lemmas.List.{length-append, length-take-le, length-set, drop-append-le, take-append-le, drop_all, take_all}
use Rattle.heap_objects.specs.declared.Value.{Value}
use Rattle.frame_stack.specs.declared.entry.Entry.{Entry}
use Rattle.frame_stack.specs.Widths.{is_long, width}
use Rattle.frame_stack.specs.Entries.{base_in, locals_in}
use Rattle.frame_stack.specs.FrameLists.{is_long_slot, without_long_before, with_value, with_written}
use Rattle.frame_stack.specs.Cuts.{AreOperands, IsFlat, view_of}
use Rattle.frame_stack.proofs.SlotReads.{get-take}

module _ {X : Type 0} where
  take-set-both : (n k : ℕ) (xs : List X) (y : X) → take n (slice_set xs k y) ≡ slice_set (take n xs) k y
  take-set-both zero k xs y = refl
  take-set-both (suc n) k [] y = refl
  take-set-both (suc n) zero (x ∷ xs) y = refl
  take-set-both (suc n) (suc k) (x ∷ xs) y = ap (λ ys. x ∷ ys) (take-set-both n k xs y)

  drop-set-before : (n k : ℕ) (xs : List X) (y : X) → k < n → drop n (slice_set xs k y) ≡ drop n xs
  drop-set-before zero k xs y less = absurd (omega arith)
  drop-set-before (suc n) k [] y less = refl
  drop-set-before (suc n) zero (x ∷ xs) y less = refl
  drop-set-before (suc n) (suc k) (x ∷ xs) y less = drop-set-before n k xs y (omega arith)

-- new locals stand where the old ones did, before what stands behind them
record AreLocals (n : ℕ) (old new locals : List (Option Value)) : Type 0 where
  long : length new ≡ length old
  front : take n new ≡ locals
  back : drop n new ≡ drop n old

are-set : (n k : ℕ) (xs : List (Option Value)) (y : Option Value) → k < n → AreLocals n xs (slice_set xs k y) (slice_set (take n xs) k y)
are-set n k xs y less = record { long = length-set xs k y; front = take-set-both n k xs y; back = drop-set-before n k xs y less }

are-chosen : (b : Bool) (n : ℕ) (old if_so if_not if_so_locals if_not_locals : List (Option Value)) → AreLocals n old if_so if_so_locals → AreLocals n old if_not if_not_locals
    → AreLocals n old (if b then if_so else if_not) (if b then if_so_locals else if_not_locals)
are-chosen true n old if_so if_not if_so_locals if_not_locals h g = h
are-chosen false n old if_so if_not if_so_locals if_not_locals h g = g

are-unpaired : (n slot : ℕ) (xs : List (Option Value)) → slot ≤ n → AreLocals n xs (without_long_before slot xs) (without_long_before slot (take n xs))
are-unpaired n zero xs le = record { long = refl; front = refl; back = refl }
are-unpaired n (suc k) xs le =
    let same : slice_get (take n xs) k ≡ slice_get xs k = get-take n k xs (omega arith) in
    rw same (are-chosen (is_long_slot (option_flatten (slice_get xs k))) n xs (slice_set xs k None) xs (slice_set (take n xs) k None) (take n xs)
    (are-set n k xs None (omega arith)) (record { long = refl; front = refl; back = refl }))

are-written : (long : Bool) (n slot : ℕ) (v : Value) (xs : List (Option Value)) → slot + (if long then 2 else 1) ≤ n
    → AreLocals n xs (if long then slice_set (slice_set xs slot (Some v)) (slot + 1) None else slice_set xs slot (Some v))
    (if long then slice_set (slice_set (take n xs) slot (Some v)) (slot + 1) None else slice_set (take n xs) slot (Some v))
are-written true n slot v xs le =
    let first = are-set n slot xs (Some v) (omega arith) in
    let second = are-set n (slot + 1) (slice_set xs slot (Some v)) None (omega arith) in
    record { long = second.long ∙ first.long; front = second.front ∙ ap (λ ys. slice_set ys (slot + 1) None) first.front; back = second.back ∙ first.back }
are-written false n slot v xs le = are-set n slot xs (Some v) (omega arith)

are-stored : (n slot : ℕ) (v : Value) (xs : List (Option Value)) → slot + width v ≤ n
    → AreLocals n xs (with_value slot v (without_long_before slot xs)) (with_value slot v (without_long_before slot (take n xs)))
are-stored n slot v xs le =
    let mid = are-unpaired n slot xs (omega arith) in
    let last = are-written (is_long v) n slot v (without_long_before slot xs) le in
    record { long = last.long ∙ mid.long; front = last.front ∙ ap (with_value slot v) mid.front; back = last.back ∙ mid.back }

pub record IsWritten (slot : ℕ) (v : Value) (top : Option Entry) (below : List Entry) (below_capacity : ℕ) (slots : List (Option Value)) (capacity : ℕ) (spare : Option ℕ) : Type 0 where
  pub flat : IsFlat top below below_capacity (take (base_in top) slots ++ with_value slot v (without_long_before slot (drop (base_in top) slots))) capacity spare
  pub seen : view_of top below (take (base_in top) slots ++ with_value slot v (without_long_before slot (drop (base_in top) slots))) spare
      ≡ with_written slot v (view_of top below slots spare)

pub is-written : (slot : ℕ) (v : Value) (top : Option Entry) (below : List Entry) (below_capacity : ℕ) (slots : List (Option Value)) (capacity : ℕ) (spare : Option ℕ)
    → IsFlat top below below_capacity slots capacity spare → slot + width v ≤ locals_in top → 0 < width v → IsWritten slot v top below below_capacity slots capacity spare
is-written slot v None below below_capacity slots capacity spare h le some = absurd (omega arith)
is-written slot v (Some e) below below_capacity slots capacity spare h le some =
    let own = drop e.base slots in
    let new_own = with_value slot v (without_long_before slot own) in
    let front = take e.base slots in
    let new = front ++ new_own in
    let are = are-stored e.max_locals slot v own le in
    let at : length front ≡ e.base = length-take-le e.base slots h.frames.0 in
    let own-is : drop e.base new ≡ new_own = drop-front e.base front new_own at in
    let below-is : take e.base new ≡ front = take-front e.base front new_own at in
    record {
      flat = record {
        frames = (
          omega (arith, length-append front new_own, at),
          rw own-is (record {
            has_locals = omega (arith, are.long, h.frames.1.has_locals);
            within = omega (arith, are.long, h.frames.1.within);
            room = h.frames.1.room;
            operands = subst (λ xs. AreOperands (reverse xs)) (sym are.back) h.frames.1.operands;
          }),
          rw below-is h.frames.2,
        );
        bottom = tt;
        few = h.few;
        room = h.room;
      };
      seen = rw (own-is, below-is, are.front, are.back) refl;
    }
  where
    drop-front : (b : ℕ) (xs ys : List (Option Value)) → length xs ≡ b → drop b (xs ++ ys) ≡ ys
    drop-front b xs ys at = drop-append-le b xs ys (omega arith) ∙ ap (λ zs. zs ++ ys) (drop_all b xs (omega arith))

    take-front : (b : ℕ) (xs ys : List (Option Value)) → length xs ≡ b → take b (xs ++ ys) ≡ xs
    take-front b xs ys at = take-append-le b xs ys (omega arith) ∙ take_all b xs (omega arith)
