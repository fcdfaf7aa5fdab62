use Rattle.std.proofs.Common.{subst, ◌∙◌}
use Rattle.interpreter.specs.Moves.Onward.{ComesIf}
use Rattle.prepared_code.specs.Originals.{setup_in}
use Rattle.interpreter.proofs.Silent.GoingOnward.{stops-onward}
use Rattle.interpreter.proofs.turns.passing.pass_steps.Goals as goal

pub returns-in-Some-clause-made : goal.returns-in-Some-clause-made
returns-in-Some-clause-made c =
    let w = setup_in c.args.parts.now.runtime c.args.originals.now in
    let ms = c.args.initializing.now in
    let is = c.pass_to.ensures.made in
    let tries = subst (λ o. ComesIf w ms is.between o c.pass_to.new.parts) c.in-Some.is is.comes in
    record {
      between = is.between;
      passes = is.passes;
      stops = stops-onward w ms is.between c.pass_to.new.parts c.requires.run c.in-Some.due c.gone_to.result tries c.gone_to.ensures.left c.gone_to.ensures.due
          (c.gone_to.ensures.passed ∙ c.passed_there.ensures);
    }

pub returns-in-None-clause-made : goal.returns-in-None-clause-made
returns-in-None-clause-made c =
    let w = setup_in c.args.parts.now.runtime c.args.originals.now in
    let ms = c.args.initializing.now in
    let is = c.pass_to.ensures.made in
    record { between = is.between; passes = is.passes; stops = subst (λ o. ComesIf w ms is.between o c.pass_to.new.parts) c.in-None.is is.comes }
