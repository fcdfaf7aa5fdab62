use Rattle.std.proofs.Common.{rules, ◌≡◌, true, ap, subst, ◌∙◌}
use Rattle.std.specs.List.{list_all}
use Rattle.stackmap_shift.specs.Frames.{frames_of}
use Rattle.stackmap_shift.specs.Conditions.{is_narrow_frame}
use Rattle.stackmap_shift.specs.Spelling.{table_bytes}
use Rattle.stackmap_shift.proofs.Again.{frames_of-table_bytes}
use Rattle.stackmap_shift.proofs.writing.write_frames.Goals as goal

pub returns-clause-read : goal.returns-clause-read
returns-clause-read c =
    let frames = c.args.frames.now.list in
    let narrow = subst (λ list. list_all is_narrow_frame list ≡ true) c.as_slice.ensures c.in_ok-put_frames.ensures.narrow in
    let spelled : c.into_vec.result.items ≡ table_bytes frames = search rules in
    ap frames_of spelled ∙ frames_of-table_bytes frames c.requires narrow
