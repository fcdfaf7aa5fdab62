-- The locals of the top frame.
use Rattle.std.proofs.Common.{◌≡◌, ℕ, ◌+◌, ◌≤◌, ◌<◌, ℤ, true, List, [], ◌∷◌, length, refl, ap, sym, arith}
use Rattle.std.specs.Prelude.{nat_le, Option, Some, None, slice_get}
use Rattle.std.specs.Option.{option_flatten}
use Rattle.std.proofs.lemmas.Bool.{le-leb, lt-leb}
use Rattle.std.proofs.lemmas.Option.{slice_get_within}
use Rattle.heap_objects.specs.declared.Value.{Value}
use Rattle.heap_objects.specs.declared.Value.TheVariants.{Int, Long, Ref, Addr}
use Rattle.frame_stack.specs.Widths.{width}
use Rattle.frame_stack.specs.FrameLists.{PlacedFrame, AreSound, local_of, has_slot, with_local, top_operands}
use Rattle.jvm_basic.proofs.Tops.{tops, dropped}
use Rattle.jvm_basic.proofs.TopReads.{int_narrow}
use Rattle.jvm_basic.proofs.Exchanged.{shrunk}
use Rattle.jvm_model.specs.Basis.Data.{Locals, Operands}
use Rattle.jvm_basic.specs.Outcomes.{top_locals, can_hold, with_top}
use Rattle.jvm_model.specs.Basis.Values.{local_in, has_slots, local_stored}

pub local_of-is : (slot : ℕ) (fs : List PlacedFrame) → local_of slot fs ≡ local_in (top_locals fs) slot
local_of-is slot [] = refl
local_of-is slot (f ∷ fs) = refl

positive : (v : Value) → 1 ≤ width v
positive (Int n) = omega arith
positive (Long n) = omega arith
positive (Ref n) = omega arith
positive (Addr n) = omega arith

pub has_slot-is : (slot : ℕ) (v : Value) (fs : List PlacedFrame) → AreSound fs → has_slot slot v fs ≡ has_slots (top_locals fs) slot v
has_slot-is slot v [] h = sym (lt-leb _ _ (omega (arith, positive v)))
has_slot-is slot v (f ∷ fs) h = ap (λ n. nat_le (slot + width v) n) (sym h.0.locals)

none : (v : Value) → Some v ≡ None → ⊥
none v e = cc

-- a local that can be read is there to be written
within : (l : Locals) (slot : ℕ) (v : Value) → Some v ≡ local_in l slot → slot < length l
within l slot v e = there (slice_get l slot) refl e
  where
    there : (x : Option (Option Value)) → slice_get l slot ≡ x → Some v ≡ option_flatten x → slot < length l
    there None at e = absurd (none v e)
    there (Some x) at e = slice_get_within l slot x at

pub read-has_slot : (slot : ℕ) (v : Value) (m : ℤ) (fs : List PlacedFrame) → AreSound fs → Some v ≡ local_of slot fs
    → has_slot slot (Int m) fs ≡ true
read-has_slot slot v m [] h e = absurd (none v e)
read-has_slot slot v m (f ∷ fs) h e = le-leb _ _ (omega (arith, within f.locals slot v e, h.0.locals))

-- ---- with a local written

pub written-operands : (slot : ℕ) (v : Value) (fs : List PlacedFrame) → top_operands (with_local slot v fs) ≡ top_operands fs
written-operands slot v [] = refl
written-operands slot v (f ∷ fs) = refl

pub written-holds : (slot : ℕ) (v : Value) (o : Operands) (fs : List PlacedFrame) → can_hold o (with_local slot v fs) ≡ can_hold o fs
written-holds slot v o [] = refl
written-holds slot v o (f ∷ fs) = refl

pub written-top : (slot : ℕ) (v : Value) (o : Operands) (place : ℕ) (fs : List PlacedFrame)
    → with_top (top_locals (with_local slot v fs)) o place (with_local slot v fs) ≡ with_top (local_stored (top_locals fs) slot v) o place fs
written-top slot v o place [] = refl
written-top slot v o place (f ∷ fs) = refl

pub ruleset slots = (local_of-is, has_slot-is, read-has_slot)

pub ruleset written = (written-operands, written-holds, written-top)

pub ruleset storing = (slots, tops, dropped)

pub ruleset writing = (slots, written, tops)

pub ruleset storing_ints = (slots, written, shrunk, int_narrow)
