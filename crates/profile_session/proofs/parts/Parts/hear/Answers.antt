use Rattle.std.proofs.Common.{sym, subst}
use Rattle.std.specs.Prelude.{MatchResult}
use Rattle.jvm_machine.specs.declared.turn.Turn.{Turn}
use Rattle.profile_session.specs.Parts.{Hears, IsSameRun}
use Rattle.profile_session.proofs.parts.Parts.hear.Goals as goal

pub returns-in-Probe : goal.returns-in-Probe
returns-in-Probe c =
    subst (λ (t : Turn). MatchResult c.tell.result (λ ok. Hears c.args.self.now t c.tell.new.self) (λ e. IsSameRun c.args.self.now c.tell.new.self)) (sym c.in-Probe.is) c.tell.ensures
