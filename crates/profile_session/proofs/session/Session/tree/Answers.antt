use Rattle.std.proofs.Common.{ap, subst, ◌∙◌, true}
use Rattle.profile_session.specs.Sessions.{IsTreeOf, Profiling}
use Rattle.profile_session.proofs.Sessions.Sessions.{lends-none, shown-before}
use Rattle.profile_session.proofs.session.Session.tree.Goals as goal

pub shown-requires-clause-whole : goal.shown-requires-clause-whole
shown-requires-clause-whole c = ap (λ (v : Profiling). v.broken) c.in-Ok.ensures.ok.same ∙ c.in-Ok.ensures.ok.whole

pub shown-requires-clause-gathered : goal.shown-requires-clause-gathered
shown-requires-clause-gathered c = ap (λ (v : Profiling). v.gathered) c.in-Ok.ensures.ok.same

pub returns-in-Ok : goal.returns-in-Ok
returns-in-Ok c =
    let same = c.in-Ok.ensures.ok.same in
    record {
      tree = shown-before c.args.self.now true c.shown.result.tree.now (subst (λ (v : Profiling). IsTreeOf v c.shown.result.tree.now) same c.shown.ensures.tree);
      program = c.shown.ensures.program ∙ ap (λ (v : Profiling). v.program) same;
      err = tt;
    }

pub returns-in-Err : goal.returns-in-Err
returns-in-Err c = record { tree = tt; program = tt; err = lends-none c.args.self.now c.gather.new.self c.in-Err.error c.in-Err.ensures.err }
