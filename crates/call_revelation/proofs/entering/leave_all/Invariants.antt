-- a flag says that what is left has it
use Rattle.std.proofs.Common.{◌≡◌, ℕ, true, length}
use Rattle.jvm_model.specs.Classes.Load.{is_among}
use Rattle.call_revelation.specs.Flags.{flag_at}
use Rattle.call_revelation.proofs.entering.leave_all.Given as goal

abbrev pub decreases-loop-method : goal.decreases-loop-method
decreases-loop-method l = length l.entered

abbrev pub invariant-loop-method : goal.invariant-loop-method
invariant-loop-method l =
    (((m : ℕ) → flag_at l.initial.flags m ≡ true → is_among m l.initial.entered ≡ true) → (m : ℕ) → flag_at l.flags m ≡ true → is_among m l.entered ≡ true)
    × (length l.flags ≡ length l.initial.flags)
