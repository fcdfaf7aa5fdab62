-- What a step is made of: classes are loaded, the instruction is attempted, and perhaps once more. A law of steps is
-- one of attempts by these three lemmas.
use Rattle.std.proofs.Common.{◌≡◌, ℕ, Bool, true, false, List, [], ◌∷◌, Option, Some, None, ◌&&◌, if◌then◌else◌, refl}
use Rattle.std.proofs.lemmas.Bool.{and_parts}
use Rattle.jvm_model.specs.Basis.Data.{Frame, State, Turn, Instruction, Listing, World}
use Rattle.jvm_model.specs.Basis.SharedState.{phase_of}
use Rattle.jvm_model.specs.Running.Moves.{then_turn}
use Rattle.jvm_model.specs.Running.Run.{attempt, is_ready, has_no_changes, is_going_on, goes_again, with_classes_loaded, loaded_turn}

-- What holds of the attempt, and of a second one behind it, holds of both. Before a second one nothing has changed, and
-- the run goes on.
pub again-by : (P : Turn → Type 0) (w : World) (t : Listing) (i : Instruction) (s : State) (f : Frame) (c : Option ℕ) (a : Turn) → P a
    → (has_no_changes a.changes ≡ true → is_going_on a.after.ending a.after.thrown ≡ true → P (then_turn a (attempt w t i (record a.after { stack = s.stack }) f)))
    → P (goes_again w t i s f c a)
again-by P w t i s f None a once twice = once
again-by P w t i s f (Some c) a once twice = by (has_no_changes a.changes && is_ready (phase_of a.after.shared c) && is_going_on a.after.ending a.after.thrown) refl where
  by : (b : Bool) → (has_no_changes a.changes && is_ready (phase_of a.after.shared c) && is_going_on a.after.ending a.after.thrown) ≡ b
      → P (if b then then_turn a (attempt w t i (record a.after { stack = s.stack }) f) else a)
  by true e =
      let outer = and_parts (has_no_changes a.changes && is_ready (phase_of a.after.shared c)) (is_going_on a.after.ending a.after.thrown) e in
      twice (and_parts (has_no_changes a.changes) (is_ready (phase_of a.after.shared c)) outer.0).0 outer.1
  by false e = once

-- that classes are loaded changes what is shared alone
pub with_loaded-shared : (classes : List ℕ) (s : State) → with_classes_loaded classes s ≡ record s { shared = (with_classes_loaded classes s).shared }
with_loaded-shared [] s = refl
with_loaded-shared (c ∷ more) s = refl

pub loaded-after : (classes : List ℕ) (a : Turn) → (loaded_turn classes a).after ≡ a.after
loaded-after [] a = refl
loaded-after (c ∷ more) a = refl
