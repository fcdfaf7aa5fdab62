use Rattle.std.proofs.Common.{subst}
use Rattle.std.specs.Prelude.{IfSome}
use Rattle.member_selection.specs.Answers.{done_on}
use Rattle.member_selection.specs.Attempts.{attempts}
use Rattle.symbolic_references.specs.Passing.{IsInvoked}
use Rattle.symbolic_references.proofs.runtime.Runtime.known_code.Goals as goal

pub returns-in-Code-clause-called : goal.returns-in-Code-clause-called
returns-in-Code-clause-called c =
    let w = c.args.self.now.world in
    let s = c.args.self.now.shared in
    let f = c.args.frames.now in
    let d = done_on (attempts w c.args.reference.now s f) f in
    let said = subst (λ o. IfSome o (λ x. IsInvoked w x d s f.frames)) c.in-Some.is c.known_call.ensures.called in
    subst (λ x. IsInvoked w x d s f.frames) c.in-Code.is said
