-- Where what is kept came from.
use Rattle.std.specs.Prelude.{◌≡◌, ◌≤◌, length, IfSome}
use Rattle.command_line.specs.Input.{most_input}
use Rattle.jfluid_cli.specs.declared.kept.Kept.{Kept}
use Rattle.jfluid_cli.specs.Asking.{asked_by}
use Rattle.jfluid_cli.specs.Causes.{CallInputs, Accepts, AreContentsOf}
use Rattle.jfluid_cli.specs.Contents.{SpellAlone, classes_for}
use Rattle.jfluid_cli.specs.Words.{Command}
use Rattle.jfluid_cli.specs.Top.{IsProgram}

-- The kept plan is that of the words, read of the told file where they name one. The kept class
-- files are what the files tell under the words, in their order, or the bytes of the generated
-- classes; they are the program that the kept session runs, with the plan's actions, on an input
-- that is all that the source told.
pub record HasOrigin (g : CallInputs) (k : Kept) : Type 0 where
  pub command : Command
  pub accepts : Accepts g command
  pub plan : k.plan ≡ command.plan
  pub told_as : AreContentsOf g.told command k.classes
  pub program : IsProgram (asked_by command) k.classes k.session.value.program
  pub input : IfSome g.left (λ all. k.session.value.input ≡ all)
  pub short : length k.session.value.input ≤ most_input

-- Each of the contents that are kept spells the class at its position of the program that runs, and
-- no other, and has no fault.
abbrev pub IsOnlyProgram : Kept → Type 0
IsOnlyProgram k = SpellAlone k.classes (classes_for k.classes k.session.value.program)
