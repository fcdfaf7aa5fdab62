use Rattle.std.proofs.Common.{◌≡◌, ◌<◌, ◌∙◌, length, get_or, ap, arith}
use Rattle.std.proofs.lemmas.List.Folds.{length-flat_map-take}
use Rattle.jf_bytes.specs.ModifiedUtf8.{unit_bytes}
use Rattle.class_writer.proofs.room.text_len.Goals as goal

pub overflow_add-len : goal.overflow_add-len
overflow_add-len c =
    let text = c.args.text.now in
    let i = c.loop-unit.unit-index in
    let same : length c.units-unit-items.result.now ≡ length text = ap length c.units-unit-items.ensures in
    let lt : i < length text = omega (arith, c.loop-unit-test.true, same) in
    let here : c.unit_len-len.result ≡ length (unit_bytes (get_or text i 0)) = c.unit_len-len.ensures ∙ ap (λ units. length (unit_bytes (get_or units i 0))) c.units-unit-items.ensures in
    omega (arith, length-flat_map-take unit_bytes text i 0 lt, here, c.loop-unit.invariant, c.requires)
