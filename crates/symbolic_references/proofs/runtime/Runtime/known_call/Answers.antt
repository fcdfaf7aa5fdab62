use Rattle.std.proofs.Common.{sym, subst, refl}
use Rattle.std.specs.Prelude.{IfSome}
use Rattle.jvm_model.specs.declared.instruction.SymbolicReference.TheVariants.{Invokeinterface, Invokespecial, Invokestatic, Invokevirtual}
use Rattle.jvm_model.specs.declared.instruction.SymbolicReference.{SymbolicReference as Kept}
use Rattle.member_selection.specs.Answers.{done_on}
use Rattle.member_selection.specs.Attempts.{attempts}
use Rattle.member_selection.specs.Known.{IsKnown}
use Rattle.symbolic_references.specs.Runtimes.{linker_in}
use Rattle.symbolic_references.specs.Passing.{IsInvoked}
use Rattle.symbolic_references.proofs.Again.{done_again, loads_none}
use Rattle.symbolic_references.proofs.runtime.Runtime.known_call.Goals as goal

pub returns-in-Invokestatic-clause-called : goal.returns-in-Invokestatic-clause-called
returns-in-Invokestatic-clause-called c =
    let v = c.args.self.now in
    let f = c.args.frames.now in
    let n = Invokestatic c.in-Invokestatic.method in
    let known = subst (λ (kept : Kept). IsKnown (linker_in v) kept c.args.known.now) c.in-Invokestatic.is c.requires.known in
    subst (λ (kept : Kept). IfSome c.static_call.result (λ x. IsInvoked v.world x (done_on (attempts v.world kept v.shared f) f) v.shared f.frames)) (sym c.in-Invokestatic.is)
    (subst (λ d. IfSome c.static_call.result (λ x. IsInvoked v.world x d v.shared f.frames)) (done_again v n c.args.known.now f known refl) c.static_call.ensures)

pub returns-in-Invokevirtual-clause-called : goal.returns-in-Invokevirtual-clause-called
returns-in-Invokevirtual-clause-called c =
    let v = c.args.self.now in
    let f = c.args.frames.now in
    let n = Invokevirtual c.in-Invokevirtual.method in
    let known = subst (λ (kept : Kept). IsKnown (linker_in v) kept c.args.known.now) c.in-Invokevirtual.is c.requires.known in
    subst (λ (kept : Kept). IfSome c.instance_call.result (λ x. IsInvoked v.world x (done_on (attempts v.world kept v.shared f) f) v.shared f.frames)) (sym c.in-Invokevirtual.is)
    (subst (λ d. IfSome c.instance_call.result (λ x. IsInvoked v.world x d v.shared f.frames)) (done_again v n c.args.known.now f known refl) c.instance_call.ensures)

pub returns-in-Invokeinterface-clause-called : goal.returns-in-Invokeinterface-clause-called
returns-in-Invokeinterface-clause-called c =
    let v = c.args.self.now in
    let f = c.args.frames.now in
    let n = Invokeinterface c.in-Invokeinterface.method in
    let known = subst (λ (kept : Kept). IsKnown (linker_in v) kept c.args.known.now) c.in-Invokeinterface.is c.requires.known in
    subst (λ (kept : Kept). IfSome c.instance_call-in-Invokeinterface.result (λ x. IsInvoked v.world x (done_on (attempts v.world kept v.shared f) f) v.shared f.frames)) (sym c.in-Invokeinterface.is)
    (subst (λ d. IfSome c.instance_call-in-Invokeinterface.result (λ x. IsInvoked v.world x d v.shared f.frames)) (done_again v n c.args.known.now f known refl) c.instance_call-in-Invokeinterface.ensures)

pub returns-in-Invokespecial-clause-called : goal.returns-in-Invokespecial-clause-called
returns-in-Invokespecial-clause-called c =
    let v = c.args.self.now in
    let f = c.args.frames.now in
    let n = Invokespecial c.in-Invokespecial.caller c.in-Invokespecial.method c.in-Invokespecial.interface in
    let known = subst (λ (kept : Kept). IsKnown (linker_in v) kept c.args.known.now) c.in-Invokespecial.is c.requires.known in
    subst (λ (kept : Kept). IfSome c.instance_call-in-Invokespecial.result (λ x. IsInvoked v.world x (done_on (attempts v.world kept v.shared f) f) v.shared f.frames)) (sym c.in-Invokespecial.is)
    (subst (λ d. IfSome c.instance_call-in-Invokespecial.result (λ x. IsInvoked v.world x d v.shared f.frames)) (done_again v n c.args.known.now f known refl) c.instance_call-in-Invokespecial.ensures)

pub returns-in_default-clause-called : goal.returns-in_default-clause-called
returns-in_default-clause-called c = tt

pub returns-in_default-clause-loads : goal.returns-in_default-clause-loads
returns-in_default-clause-loads c =
    loads_none (linker_in c.args.self.now) c.args.reference.now c.args.known.now c.args.self.now.shared c.args.frames.now refl c.requires.known
