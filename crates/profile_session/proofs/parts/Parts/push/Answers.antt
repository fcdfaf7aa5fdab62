use Rattle.std.proofs.Common.{arith, sym, subst}
use Rattle.std.specs.Result.{MatchResult}
use Rattle.event_buffer.specs.Buffers.{Held}
use Rattle.profile_session.specs.Parts.{AreFit, IsSameRun, Pushes}
use Rattle.profile_session.proofs.Turns.Telling.{pushed-first}
use Rattle.profile_session.proofs.parts.Parts.push.Goals as goal

pub push-requires : goal.push-requires
push-requires c =
    let last = c.requires.fit.last in
    let now = c.requires.now in
    record { later = omega (arith, last, now) }

pub returns-in-Ok : goal.returns-in-Ok
returns-in-Ok c = pushed-first c.args.self.now c.args.event c.push.new.self c.requires.fit c.requires.now c.in-Ok.ensures.ok c.in-Ok.ensures.clock

pub push_behind-requires-clause-fit : goal.push_behind-requires-clause-fit
push_behind-requires-clause-fit c = subst (λ (b : Held). AreFit (record c.args.self.now { buffer = b })) (sym c.in-Err.ensures.err) c.requires.fit

pub returns-in-Err : goal.returns-in-Err
returns-in-Err c =
    subst (λ (b : Held). MatchResult c.push_behind.result (λ ok. Pushes (record c.args.self.now { buffer = b }) c.args.event c.push_behind.new.self)
    (λ e. IsSameRun (record c.args.self.now { buffer = b }) c.push_behind.new.self)) c.in-Err.ensures.err c.push_behind.ensures
