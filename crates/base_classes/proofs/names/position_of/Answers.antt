use Rattle.std.proofs.Common.{◌≡◌, ℕ, Some, slice_get, subst}
use Rattle.const_pool.specs.BuiltIn.{built_in_names}
use Rattle.base_classes.proofs.names.position_of.Goals as goal

pub returns-in_err-place-clause-only : goal.returns-in_err-place-clause-only
returns-in_err-place-clause-only c place at =
    let found = c.candidate.ensures place at in
    let was = c.in_err-place.was in
    cc

pub returns-else-is_named-clause-only : goal.returns-else-is_named-clause-only
returns-else-is_named-clause-only c place at =
    let found = c.candidate.ensures place at in
    let was = c.in_ok-place.was in
    let same : place ≡ c.in_ok-place.place = cc in
    let named = c.is_named.ensures.1 (subst (λ (k : ℕ). slice_get built_in_names k ≡ Some c.args.name.now) same at) in
    let not_named = c.if-is_named.false in
    cc
