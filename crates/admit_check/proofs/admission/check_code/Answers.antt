-- each code was decoded
use Rattle.inject_events.specs.Answers.{IsReadableClass}
use Rattle.code_admission.proofs.CodesRead.{AreRead-codes, OnOk-always}
use Rattle.code_admission.proofs.Readable.{IsReadableClass-read}
use Rattle.admit_check.proofs.admission.check_code.Goals as goal

pub profiling_fault-requires : goal.profiling_fault-requires
profiling_fault-requires c = IsReadableClass-read c.args.class.now c.requires (AreRead-codes c.in-Ok.codes c.args.class.now.methods c.in-Ok.ensures.codes)

pub returns-clause-readable : goal.returns-clause-readable
returns-clause-readable c =
    OnOk-always c.pass.result (IsReadableClass c.args.class.now) (IsReadableClass-read c.args.class.now c.requires (AreRead-codes c.in-Ok.codes c.args.class.now.methods c.in-Ok.ensures.codes))
