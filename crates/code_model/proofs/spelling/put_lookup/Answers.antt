use Rattle.std.proofs.Common.{ap, length, ◌++◌, ◌∙◌, arith}
use Rattle.std.specs.Prelude.{zip}
use Rattle.std.specs.Int.{w32}
use Rattle.std.specs.List.{flat_map}
use Rattle.std.specs.Option.{option_copied}
use Rattle.std.proofs.lemmas.Int.{to_z_pos}
use Rattle.code_model.specs.Layout.{padding, target_bytes, pair_bytes, u4, s4, home_by}
use Rattle.code_model.proofs.CodeLayouts.Steps.{put_four}
use Rattle.code_model.proofs.spelling.put_lookup.Goals as goal

pub returns : goal.returns
returns c =
    let home = home_by (option_copied c.args.homes) in
    let at = c.args.place in
    put_four c.args.out.now (padding at) (target_bytes home at w32 c.args.default) (u4 (length c.args.keys.now)) (flat_map (pair_bytes home at) (zip c.args.keys.now c.args.targets.now)) c.put_padding.new.out c.put_far_target.new.out c.put_signed.new.out c.put_pairs.new.out
    c.in_ok-put_padding.ensures c.in_ok-put_far_target.ensures (c.in_ok-put_signed.ensures ∙ ap (λ n. c.put_far_target.new.out ++ s4 n) (to_z_pos w32 (length c.args.keys.now) (omega (arith, c.requires.few)))) c.in_ok-put_pairs.ensures
