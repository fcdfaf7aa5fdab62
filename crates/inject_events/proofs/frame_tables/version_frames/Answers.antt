-- moved frames fit as they did, and so does the last one
use Rattle.std.proofs.Common.{◌≡◌, ℕ, List, [], ◌∷◌, ◌++◌, sym, ap, subst, ◌∙◌}
use Rattle.std.specs.Prelude.{All}
use Rattle.stackmap_shift.specs.declared.frames.Frame.{Frame}
use Rattle.stackmap_shift.specs.Conditions.{FitsFrame}
use Rattle.stackmap_shift.specs.Moves.{moved_frames}
use Rattle.jvm_model.specs.Rewriting.ImageTables.{last_frame}
use Rattle.inject_events.specs.Tables.{version_frames}
use Rattle.inject_events.proofs.Framing.{FitsFrame-version}
use Rattle.inject_events.proofs.frame_tables.version_frames.Goals as goal

pub returns-clause-fit : goal.returns-clause-fit
returns-clause-fit c =
    let s = c.args.setting.now in
    let homes = c.args.homes.now in
    let frames = c.args.frames.now.list in
    let last : Frame = c.in_ok-last.last in
    let is : c.push.new.self ≡ version_frames s homes c.args.end frames =
    c.in_ok-push.ensures.items
    ∙ ap (λ (moved : List Frame). moved ++ last ∷ []) c.in_ok-moved.ensures.moved
    ∙ ap (λ (f : Frame). moved_frames homes frames ++ f ∷ []) (c.in_ok-last.ensures ∙ ap (λ (h : ℕ). last_frame h s.tail.throwable) c.home_of.ensures) in
    subst (All FitsFrame) (sym is) (FitsFrame-version s homes c.args.end frames c.requires.fit)
