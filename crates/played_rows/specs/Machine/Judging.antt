-- The verdict on a row.
use Rattle.std.specs.Prelude.{◌≡◌, ℕ, List, map, Option, None, IfSome}
use Rattle.std.specs.Str.Lines.{lines}
use Rattle.byte_streams.specs.Streams.{Told}
use Rattle.jvm_machine.specs.View.{View}
use Rattle.played_rows.specs.declared.machine.line.Placed.{Placed}
use Rattle.played_rows.specs.declared.machine.playing.Failure.{Failure}
use Rattle.played_rows.specs.Files.{IsFileAt}
use Rattle.played_rows.specs.Machine.Making.{IsMade}
use Rattle.played_rows.specs.Machine.Played.{FailsAt, PlaysAll}
use Rattle.played_rows.specs.Machine.Reading.{AreRead}

-- The row's file has lines that name a program, which admission takes, and each of which says something; and where no
-- line is told, all that they say comes of a machine of that program, one behind the other; where one is, those before
-- it have come so, and of it came what is told.
pub record IsJudged (told : Option Told) (row : List ℕ) (found : Option Failure) : Type 0 where
  pub text : List ℕ
  pub file : IsFileAt told row text
  pub machine : View
  pub made : IsMade told (lines text) machine
  pub placed : List Placed
  pub read : AreRead machine.program told (lines text) placed
  pub played : found ≡ None → PlaysAll (map (λ l. l.line) placed) machine
  pub failed : IfSome found (λ f. FailsAt placed f machine)
