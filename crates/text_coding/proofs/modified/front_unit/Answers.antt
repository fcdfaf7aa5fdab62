use Rattle.std.proofs.Common.{inl, inr, arith}
use Rattle.text_coding.proofs.FrontLemmas.{bad_first, no_begin}
use Rattle.text_coding.proofs.modified.front_unit.Goals as goal

pub returns-in_default-clause-bad : goal.returns-in_default-clause-bad
returns-in_default-clause-bad c =
    bad_first c.args.bytes.now c.requires (λ b d. no_begin _ b d (inl (omega arith)))

pub returns-in_default-2-clause-bad : goal.returns-in_default-2-clause-bad
returns-in_default-2-clause-bad c =
    bad_first c.args.bytes.now c.requires (λ b d. no_begin _ b d (inr (inl (omega arith, omega arith, λ e. omega arith))))

pub returns-in_default-3-clause-bad : goal.returns-in_default-3-clause-bad
returns-in_default-3-clause-bad c =
    bad_first c.args.bytes.now c.requires (λ b d. no_begin _ b d (inr (inr (omega arith))))
