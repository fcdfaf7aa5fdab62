use Rattle.std.proofs.Common.{slice_get, ap, ◌∙◌}
use Rattle.base_classes.specs.Hashes.{hash_of}
use Rattle.base_classes.proofs.NameLemmas.{place_found, place_missed}
use Rattle.base_classes.proofs.names.candidate.Goals as goal

pub returns-in_err-slot : goal.returns-in_err-slot
returns-in_err-slot c place at =
    let hash = c.hash_of.ensures ∙ ap hash_of c.units.ensures in
    c.from_residual.ensures ∙ place_missed c.slots.result.now place c.args.name.now c.slots.ensures (c.in_err-slot.ensures ∙ ap (slice_get c.slots.result.now) hash) at

pub returns : goal.returns
returns c place at =
    let hash = c.hash_of.ensures ∙ ap hash_of c.units.ensures in
    place_found c.slots.result.now c.in_ok-slot.slot place c.args.name.now c.slots.ensures (c.in_ok-slot.ensures ∙ ap (slice_get c.slots.result.now) hash) at
