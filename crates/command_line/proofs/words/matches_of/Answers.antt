-- clap's matches say that it takes the words, and its error that it doesn't.
use Rattle.std.proofs.Common.{map}
use Rattle.clap.specs.Words.{app_of}
use Rattle.command_line.proofs.Refusals.{matched_by_clap, refused_by_clap}
use Rattle.command_line.proofs.words.matches_of.Goals as goal

pub returns-in-Ok : goal.returns-in-Ok
returns-in-Ok g c =
    matched_by_clap (app_of c.in_ok-command.command) (map g.S.AsStr.text c.args.words.now) c.in-Ok.matches
    c.in_ok-command.ensures c.in-Ok.ensures.kinds c.in-Ok.ensures.matches

pub returns-in-Err : goal.returns-in-Err
returns-in-Err g c =
    refused_by_clap (app_of c.in_ok-command.command) (map g.S.AsStr.text c.args.words.now) c.in-Err.error c.refusal.result
    c.in_ok-command.ensures c.in-Err.ensures.kinds c.refusal.ensures
