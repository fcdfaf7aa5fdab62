-- The verdict from its parts.
use Rattle.std.proofs.Common.{◌≡◌, ℕ, List, map, Option, None, subst}
use Rattle.std.specs.Option.{IfSome}
use Rattle.std.specs.Str.Lines.{lines}
use Rattle.byte_streams.specs.Streams.{Told}
use Rattle.jvm_model.specs.declared.program.Program.{Program}
use Rattle.jvm_machine.specs.View.{View}
use Rattle.played_rows.specs.declared.machine.line.Placed.{Placed}
use Rattle.played_rows.specs.declared.machine.playing.Failure.{Failure}
use Rattle.played_rows.specs.Files.{IsFileAt}
use Rattle.played_rows.specs.Machine.Judging.{IsJudged}
use Rattle.played_rows.specs.Machine.Making.{IsMade}
use Rattle.played_rows.specs.Machine.Played.{FailsAt, PlaysAll}
use Rattle.played_rows.specs.Machine.Reading.{AreRead}

pub judged : (told first second : Option Told) (row text : List ℕ) (given same : List (List ℕ)) (program : Program) (machine start : View)
    (placed asked : List Placed) (found : Option Failure) → IsFileAt told row text → first ≡ told → second ≡ first
    → given ≡ lines text → same ≡ lines text → IsMade first given machine → program ≡ machine.program → AreRead program second same placed
    → start ≡ machine → asked ≡ placed → (found ≡ None → PlaysAll (map (λ l. l.line) asked) start)
    → IfSome found (λ f. FailsAt asked f start) → IsJudged told row found
judged told first second row text given same program machine start placed asked found file stay then_stay are are_too made of read begins all played failed =
    record {
      text = text;
      file = file;
      machine = machine;
      made = subst (λ t. IsMade t (lines text) machine) stay (subst (λ ts. IsMade first ts machine) are made);
      placed = placed;
      read =
          subst (λ t. AreRead machine.program t (lines text) placed) stay
          (subst (λ t. AreRead machine.program t (lines text) placed) then_stay
          (subst (λ ts. AreRead machine.program second ts placed) are_too
          (subst (λ p. AreRead p second same placed) of read)));
      played = λ e. subst (PlaysAll (map (λ l. l.line) placed)) begins (subst (λ ps. PlaysAll (map (λ l. l.line) ps) start) all (played e));
      failed = subst (λ v. IfSome found (λ f. FailsAt placed f v)) begins (subst (λ ps. IfSome found (λ f. FailsAt ps f start)) all failed);
    }
