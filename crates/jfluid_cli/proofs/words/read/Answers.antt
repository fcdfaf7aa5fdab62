use Rattle.std.proofs.Common.{Err, subst}
use Rattle.command_line.specs.declared.words.WordsError.{WordsError}
use Rattle.command_line.specs.Words.{IsRead, read_in, texts}
use Rattle.jfluid_cli.proofs.Commands.Accepted.{accepted-read, refused-rule}
use Rattle.jfluid_cli.proofs.words.read.Goals as goal

pub returns-in-Ok-clause-read : goal.returns-in-Ok-clause-read
returns-in-Ok-clause-read c =
    accepted-read (texts c.args.words.now) (read_in c.in-Ok.words) c.requires.texts c.in-Ok.ensures.read.0
    c.in-Ok.ensures.read.1 c.in-Ok.ensures.read.2

pub returns-in-Err-Refused-clause-refused : goal.returns-in-Err-Refused-clause-refused
returns-in-Err-Refused-clause-refused c =
    let why = subst (λ (e : WordsError). IsRead (texts c.args.words.now) (Err e)) c.in-Err-Refused.field-0-is
    c.in-Err-Refused.ensures.read in
    refused-rule (texts c.args.words.now) why.0 why.1
