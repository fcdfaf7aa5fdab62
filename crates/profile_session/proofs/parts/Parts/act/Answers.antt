use Rattle.context_tree.specs.Seen.{seen_act}
use Rattle.profile_session.specs.Keeping.{methods_revealed}
use Rattle.profile_session.specs.Parts.{kept_in}
use Rattle.profile_session.proofs.Points.Acts.{acted-by, acted-reveals}
use Rattle.profile_session.proofs.Points.Points.{fit-of, point-of, showable-of}
use Rattle.profile_session.proofs.parts.Parts.act.Goals as goal

pub show-requires-clause-fit : goal.show-requires-clause-fit
show-requires-clause-fit c =
    let x = c.args.self.now in
    fit-of x c.settle.new.reveal (methods_revealed (seen_act (kept_in x).seen c.args.act)) c.requires.fit
    (acted-reveals x c.choose.new.reveal c.settle.new.reveal c.args.act c.is_idle-idle.result c.requires.fit c.in_ok-choose.ensures.revelation c.in_ok-choose.ensures.now
    c.in_ok-choose.ensures.shown c.is_idle-idle.ensures c.in_ok-settle.ensures.revelation c.in_ok-settle.ensures.now c.in_ok-settle.ensures.shown)

pub show-requires-clause-showable : goal.show-requires-clause-showable
show-requires-clause-showable c =
    let x = c.args.self.now in
    showable-of x c.settle.new.reveal (methods_revealed (seen_act (kept_in x).seen c.args.act)) c.requires.shown
    (acted-reveals x c.choose.new.reveal c.settle.new.reveal c.args.act c.is_idle-idle.result c.requires.fit c.in_ok-choose.ensures.revelation c.in_ok-choose.ensures.now
    c.in_ok-choose.ensures.shown c.is_idle-idle.ensures c.in_ok-settle.ensures.revelation c.in_ok-settle.ensures.now c.in_ok-settle.ensures.shown)

pub returns-in-Ok : goal.returns-in-Ok
returns-in-Ok c =
    let x = c.args.self.now in
    acted-by x c.show.new.self c.args.act c.push.new.self
    (point-of x c.show.new.self c.settle.new.reveal (methods_revealed (seen_act (kept_in x).seen c.args.act)) c.requires.shown
    (acted-reveals x c.choose.new.reveal c.settle.new.reveal c.args.act c.is_idle-idle.result c.requires.fit c.in_ok-choose.ensures.revelation c.in_ok-choose.ensures.now
    c.in_ok-choose.ensures.shown c.is_idle-idle.ensures c.in_ok-settle.ensures.revelation c.in_ok-settle.ensures.now c.in_ok-settle.ensures.shown) c.in_ok-show.ensures) c.in-Ok.ensures.items
