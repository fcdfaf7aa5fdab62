-- What is asked of a program that is profiled, and what is revealed of it before its start.
use Rattle.std.specs.Prelude.{◌≡◌}
use Rattle.std.specs.List.{AllByRecursion}
use Rattle.jvm_model.specs.declared.program.Program.{Program}
use Rattle.jvm_model.specs.Profiling.Revealed.{marks_of}
use Rattle.jvm_model.specs.Soundness.Whole.{IsWhole}
use Rattle.prepared_code.specs.Prepared.{HasShortCodes}
use Rattle.jvm_machine.specs.View.{View, world}
use Rattle.call_revelation.specs.declared.reveal.Reveal.{Reveal}
use Rattle.call_revelation.specs.Reveals.{IsRevelation, now_of}
use Rattle.context_tree.specs.Seen.{first_seen}
use Rattle.profile_session.specs.Images.{AreImageable}
use Rattle.profile_session.specs.Keeping.{methods_revealed}

-- An admitted program is one.
pub record CanBeProfiled (p : Program) : Type 0 where
  pub whole : IsWhole p
  pub short : AllByRecursion HasShortCodes p.classes
  pub imageable : AreImageable p

-- nothing is selected or entered, and this is shown
pub record IsFirst (v : View) (r : Reveal) : Type 0 where
  pub revelation : IsRevelation v.program r
  pub now : now_of r ≡ methods_revealed (first_seen (world v))
  pub shown : r.shown ≡ marks_of v.program (now_of r)
