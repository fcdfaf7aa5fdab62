use Rattle.std.proofs.Common.{Some, ap}
use Rattle.prepared_code.specs.Making.{bare_slot}
use Rattle.prepared_code.proofs.Tables.Tabled.{tabled-more}
use Rattle.prepared_code.proofs.preparing.all_versions.Goals as goal

pub loop-method-preserved : goal.loop-method-preserved
loop-method-preserved c =
    rw c.in_ok-push.ensures.items (tabled-more (bare_slot c.args.program.now) c.loop-method.method c.loop-method.all (Some c.in_ok-version.version) c.loop-method.invariant (ap Some c.in_ok-version.ensures))
