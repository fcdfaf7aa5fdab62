use Rattle.std.proofs.Common.{sym, subst}
use Rattle.member_selection.specs.Known.{IsKnown}
use Rattle.symbolic_references.specs.Runtimes.{linker_in}
use Rattle.prepared_code.specs.Versions.{line_at}
use Rattle.interpreter.specs.Moves.Onward.{GoesOnward}
use Rattle.prepared_code.specs.Originals.{setup_in}
use Rattle.interpreter.proofs.Silent.GoingOnward.{onward-if}
use Rattle.interpreter.proofs.Silent.PassingSteps.{held-there}
use Rattle.interpreter.proofs.Silent.SilentSteps.{passes_none}
use Rattle.interpreter.proofs.turns.passing.pass_named.Goals as goal

pub pass_call-requires-clause-known : goal.pass_call-requires-clause-known
pass_call-requires-clause-known c =
    held-there (line_at c.args.originals.now.versions c.args.here.version c.args.here.place) c.args.line.now c.args.reference.now c.requires.line c.requires.named
    (λ n next. IsKnown (linker_in c.args.parts.now.runtime) n c.in-Some.known.now)
    (c.requires.known.each c.args.here.version c.args.here.place c.in-Some.known.now (sym c.in-Some.ensures))

pub pass_access-requires-clause-known : goal.pass_access-requires-clause-known
pass_access-requires-clause-known c =
    held-there (line_at c.args.originals.now.versions c.args.here.version c.args.here.place) c.args.line.now c.args.reference.now c.requires.line c.requires.named
    (λ n next. IsKnown (linker_in c.args.parts.now.runtime) n c.in-Some.known.now)
    (c.requires.known.each c.args.here.version c.args.here.place c.in-Some.known.now (sym c.in-Some.ensures))

pub returns-in_default : goal.returns-in_default
returns-in_default c = passes_none (setup_in c.args.parts.now.runtime c.args.originals.now) c.args.initializing.now c.args.parts.now c.requires.at_instruction

pub returns : goal.returns
returns c =
    let w = setup_in c.args.parts.now.runtime c.args.originals.now in
    let ms = c.args.initializing.now in
    subst (λ o. GoesOnward w ms c.args.parts.now o c.pass_access.new.parts) (sym c.made_if.ensures)
    (onward-if w ms c.args.parts.now c.pass_access.new.parts c.pass_access.result c.pass_access.ensures)
