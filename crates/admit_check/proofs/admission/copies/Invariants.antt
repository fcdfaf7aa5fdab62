-- the texts so far
use Rattle.std.proofs.Common.{◌≡◌, take}
use Rattle.admit_check.proofs.admission.copies.Given as goal

abbrev pub invariant-loop-text : goal.invariant-loop-text
invariant-loop-text l = l.copies ≡ take l.text-index l.texts
