use Rattle.std.proofs.Common.{◌≡◌, Ok, subst}
use Rattle.jf_bytes.specs.Unicode.{utf16_of}
use Rattle.plan_text.specs.Lines.{silent_plan}
use Rattle.admit_check.specs.Admission.{admission_of}
use Rattle.played_rows.proofs.machine.making.make.Goals as goal

pub returns-in-Ok-machine_placed-clause-made : goal.returns-in-Ok-machine_placed-clause-made
returns-in-Ok-machine_placed-clause-made g c = record {
  program = c.in-Ok-program_of.program;
  of = record {
    classes = c.in-Ok.classes;
    read = c.in-Ok.ensures.read;
    admitted = subst (λ n. admission_of c.in-Ok.classes (utf16_of n) silent_plan ≡ Ok c.in-Ok-program_of.program) c.main_of.ensures c.in-Ok-program_of.ensures.program;
  };
  made = c.in-Ok-machine_placed.ensures.made;
}
