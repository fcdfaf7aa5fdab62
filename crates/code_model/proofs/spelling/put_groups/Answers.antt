use Rattle.std.proofs.Common.{◌++◌, ap, subst, sym, ◌∙◌, ◌≡◌, ◌≤◌, ◌+◌, drop, None}
use Rattle.code_model.specs.Layout.{home_of, instr_bytes, groups_bytes, first_far_from, end_from}
use Rattle.code_model.proofs.CodeLayouts.Steps.{put_group, near-next, short-next}
use Rattle.code_model.proofs.spelling.put_groups.Goals as goal

pub loop-group-preserved : goal.loop-group-preserved
loop-group-preserved c =
    let home = home_of c.args.homes.now in
    let g = c.group-item.result in
    let at = c.loop-group.at in
    let gs = c.args.groups.now in
    let i = c.loop-group.group-index in
    let lt = c.loop-group-test.true in
    let total = c.args.out.now ++ groups_bytes home c.args.start gs in
    let whole = put_group home total c.loop-group.out c.extend_from_slice.new.self c.put_instr.new.out at i gs g lt c.group-item.is c.loop-group.invariant.whole
    (c.in_ok-extend_from_slice.ensures ∙ ap (λ bytes. c.loop-group.out ++ bytes) c.as_slice.ensures)
    (c.in_ok-put_instr.ensures ∙ ap (λ place. c.extend_from_slice.new.self ++ instr_bytes home place g.instr) c.place_of.ensures) in
    let next = sym c.group_end-at.ensures in
    record {
      whole = subst (λ n. c.put_instr.new.out ++ groups_bytes home n (drop (i + 1) gs) ≡ total) next whole;
      near = subst (λ n. first_far_from home n (drop (i + 1) gs) ≡ None) next (near-next home at i gs g lt c.group-item.is c.loop-group.invariant.near);
      short = subst (λ n. end_from n (drop (i + 1) gs) ≤ 65535) next (short-next at i gs g lt c.group-item.is c.loop-group.invariant.short);
    }
