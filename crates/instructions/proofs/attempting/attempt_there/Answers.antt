use Rattle.std.proofs.Common.{sym, ◌∙◌}
use Rattle.instructions.proofs.Initializing.Beneath.{awaits-unnamed}
use Rattle.prepared_code.proofs.Lines.KnownNames.{names-kept}
use Rattle.prepared_code.specs.Originals.{setup_in}
use Rattle.instructions.proofs.attempting.attempt_there.Goals as goal

pub returns-clause-answer : goal.returns-clause-answer
returns-clause-answer c =
    sym (awaits-unnamed (setup_in c.args.parts.now.runtime c.args.originals.now) c.args.initializing.now c.args.parts.now c.args.here c.requires.here c.requires.executing
    (sym c.named_at.ensures ∙ c.if-named_at.false))

pub returns-clause-known : goal.returns-clause-known
returns-clause-known c =
    names-kept c.args.originals.now c.args.parts.now.runtime c.attempt_line.new.parts.runtime c.in_ok-attempt_line.ensures.world c.in_ok-attempt_line.ensures.same_loaded
    c.requires.known
