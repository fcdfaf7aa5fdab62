use Rattle.std.proofs.Common.{◌-◌, sym, ap, ◌∙◌}
use Rattle.prepared_code.specs.Initializations.{initialization_on}
use Rattle.activations.proofs.CatchLemmas.{not-some}
use Rattle.interpreter.proofs.Silent.ReturnLemmas.{loaded-caller, goes-there}
use Rattle.interpreter.proofs.turns.passing.goes_back.Goals as goal

pub returns : goal.returns
returns c =
    let v = c.args.originals.now.versions in
    let ms = c.args.initializing.now in
    let fs = c.args.frames.now.frames in
    goes-there v ms fs c.in-Some-line.line.now c.next_in.result c.next_in.ensures
    (loaded-caller v fs c.in-Some.version c.in-Some.place c.in-Some-line.line.now (sym c.caller.ensures ∙ c.in-Some.is)
    c.in-Some-line.ensures.line)
    (ap (λ n. initialization_on (n - 1) ms) (sym c.depth-depth.ensures) ∙ (sym c.initialization_on.ensures ∙ not-some c.initialization_on.result (sym c.is_some.ensures ∙ c.if-is_some.false)))
