use Rattle.std.proofs.Common.{arith, ap}
use Rattle.profile_session.specs.declared.parts.Parts.{Parts}
use Rattle.profile_session.proofs.Turns.Telling.{pushed-behind}
use Rattle.profile_session.proofs.parts.Parts.push_behind.Goals as goal

pub push-requires : goal.push-requires
push-requires c =
    let d = c.in_ok-drain.ensures in
    let last = d.fit.last in
    let clock = ap (λ (z : Parts). z.vm.clock) d.same in
    let now = c.requires.now in
    record { later = omega (arith, last, clock, now) }

pub returns : goal.returns
returns c = pushed-behind c.args.self.now c.drain.new.self c.args.event c.push.new.self c.in_ok-drain.ensures c.requires.now c.in-Ok.ensures.ok c.in-Ok.ensures.clock
