-- What a machine asks of a program, and the law that what was admitted meets it.
use Rattle.std.specs.Prelude.{ℕ, List}
use Rattle.const_pool.specs.declared.class.ClassFile.{ClassFile}
use Rattle.jvm_model.specs.declared.program.Program.{Program}
use Rattle.jvm_model.specs.Codes.ProgramPlaces.{HasClosedCodes}
use Rattle.jvm_model.specs.Soundness.Sound.{IsFit}
use Rattle.interpreter.specs.Machine.Before.{CanStart}
use Rattle.prepared_code.specs.Prepared.{FitsOriginals}
use Rattle.jvm_machine.specs.Installs.{IsFormed}
use Rattle.admit_check.specs.Admission.{IsAdmittedProgram}

-- a program that was admitted, of some classes and with some main class
pub record IsAdmitted (p : Program) : Type 0 where
  pub classes : List ClassFile
  pub name : List ℕ
  pub is : IsAdmittedProgram classes name p

-- A machine can be made of it and can start: its classes can be linked and loaded, its methods prepared, its codes lead
-- to starts of instructions alone, and its heap has room. And it is made of what images are made of.
pub record IsRunnable (p : Program) : Type 0 where
  pub fits : FitsOriginals p
  pub fit : IsFit p
  pub closed : HasClosedCodes p
  pub starts : CanStart p
  pub formed : IsFormed p

abbrev pub AdmittedAreRunnable : Type 0
AdmittedAreRunnable = (p : Program) → IsAdmitted p → IsRunnable p
