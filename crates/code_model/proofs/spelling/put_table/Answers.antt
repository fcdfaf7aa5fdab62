use Rattle.std.proofs.Common.{rules, ap, length, ◌++◌, ◌+ℤ◌, ◌-ℤ◌, pos, ◌∙◌}
use Rattle.std.specs.Int.{w32}
use Rattle.std.specs.List.{flat_map}
use Rattle.std.specs.Option.{option_copied}
use Rattle.std.proofs.lemmas.Int.{to_z-of_z}
use Rattle.code_model.specs.Layout.{padding, target_bytes, s4, home_by}
use Rattle.code_model.proofs.CodeLayouts.Steps.{put_five}
use Rattle.code_model.proofs.spelling.put_table.Goals as goal

pub returns : goal.returns
returns c =
    let home = home_by (option_copied c.args.homes) in
    let at = c.args.place in
    let high = (c.args.low +ℤ pos (length c.args.targets.now)) -ℤ pos 1 in
    put_five c.args.out.now (padding at) (target_bytes home at w32 c.args.default) (s4 c.args.low) (s4 high) (flat_map (target_bytes home at w32) c.args.targets.now) c.put_padding.new.out c.put_far_target.new.out c.put_signed.new.out c.put_signed-2.new.out c.put_targets.new.out
    c.in_ok-put_padding.ensures c.in_ok-put_far_target.ensures (c.in_ok-put_signed.ensures ∙ ap (λ n. c.put_far_target.new.out ++ s4 n) (to_z-of_z w32 c.args.low c.ranges.low))
    (c.in_ok-put_signed-2.ensures ∙ ap (λ n. c.put_signed.new.out ++ s4 n) (to_z-of_z w32 c.high_of.result (search rules) ∙ c.high_of.ensures ∙ ap (λ z. (z +ℤ pos (length c.args.targets.now)) -ℤ pos 1) (to_z-of_z w32 c.args.low c.ranges.low))) c.in_ok-put_targets.ensures
