-- with the spots of what is left the homes are the whole
use Rattle.std.proofs.Common.{◌≡◌, drop}
use Rattle.code_model.specs.Layout.{with_spots}
use Rattle.code_model.specs.Offsets.{own_spots}
use Rattle.code_model.proofs.homes.add_own_spots.Given as goal

abbrev pub invariant-loop-instr : goal.invariant-loop-instr
invariant-loop-instr l = with_spots l.homes (own_spots (drop l.instr-index l.instrs)) ≡ with_spots l.fn.homes (own_spots l.instrs)
