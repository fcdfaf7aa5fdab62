use Rattle.std.proofs.Common.{sym, ap, ◌∙◌}
use Rattle.std.specs.Option.{option_and_then, option_copied}
use Rattle.prepared_code.specs.Versions.{line_in}
use Rattle.interpreter.proofs.turns.quickly.end_told.Goals as goal

pub leave-requires-clause-here : goal.leave-requires-clause-here
leave-requires-clause-here c = sym c.where_now.ensures ∙ c.in-Some.is

pub leave-requires-clause-line : goal.leave-requires-clause-line
leave-requires-clause-line c =
    ap (option_and_then (line_in c.in-Some.here.place)) c.in-Some-version.ensures.version ∙ sym c.line_in.ensures ∙ ap option_copied c.in-Some-line_in.is

pub leave-requires-clause-runs : goal.leave-requires-clause-runs
leave-requires-clause-runs c = c.in-Some-version.ensures.version
