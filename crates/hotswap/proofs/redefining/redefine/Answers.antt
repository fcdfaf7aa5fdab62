use Rattle.std.proofs.Common.{inl, inr}
use Rattle.hotswap.proofs.redefining.redefine.Goals as goal

pub install-requires-clause-pool : goal.install-requires-clause-pool
install-requires-clause-pool c = c.in-Ok.ensures.found.swap.spelled.formed.pool.count

pub returns-in-Err-clause-first_fault : goal.returns-in-Err-clause-first_fault
returns-in-Err-clause-first_fault c = λ refusal fault.
    elim (c.in-Err.ensures.first_fault refusal fault) [ inl told ↦ inl cc | inr memory ↦ inr cc ]

pub returns-in-Ok-install-clause-first_fault : goal.returns-in-Ok-install-clause-first_fault
returns-in-Ok-install-clause-first_fault c = λ refusal fault.
    elim (c.in-Ok.ensures.first_fault refusal fault) [ inl told ↦ absurd cc | inr memory ↦ absurd cc ]
