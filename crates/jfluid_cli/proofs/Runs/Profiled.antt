-- What was admitted can be run and profiled.
use Rattle.jvm_model.specs.declared.program.Program.{Program}
use Rattle.jvm_model.proofs.Soundness.SoundAnswers.{whole-sound}
use Rattle.profile_session.specs.Beginning.{CanBeProfiled}
use Rattle.program_fit.proofs.Runs.{runnable}
use Rattle.program_fit.specs.Runnable.{IsAdmitted}

pub profiled : (p : Program) → IsAdmitted p → CanBeProfiled p
profiled p a = record {
  whole = whole-sound a.classes a.name p a.is.sound;
  short = (runnable p a).fits.codes;
  imageable = record {
    formed = a.is.sound.formed;
    readable = a.is.readable;
    profilable = a.is.profilable;
    numbered_are = a.is.sound.methods;
    few = a.is.sound.few;
    operations = a.is.sound.operations;
  };
}
