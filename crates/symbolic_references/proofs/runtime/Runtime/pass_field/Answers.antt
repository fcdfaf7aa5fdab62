use Rattle.std.proofs.Common.{sym, subst, refl}
use Rattle.jvm_model.specs.declared.instruction.SymbolicReference.TheVariants.{Getfield, Getstatic, Putfield, Putstatic}
use Rattle.jvm_model.specs.declared.instruction.SymbolicReference.{SymbolicReference as Kept}
use Rattle.member_selection.specs.Answers.{done_on}
use Rattle.member_selection.specs.Attempts.{attempts}
use Rattle.member_selection.specs.Known.{IsKnown}
use Rattle.symbolic_references.specs.Runtimes.{linker_in}
use Rattle.symbolic_references.specs.Passing.{IfPassed}
use Rattle.symbolic_references.proofs.Again.{done_again, loads_none}
use Rattle.symbolic_references.proofs.runtime.Runtime.pass_field.Goals as goal

pub returns-in-Getfield-clause-passed : goal.returns-in-Getfield-clause-passed
returns-in-Getfield-clause-passed c =
    let v = c.args.self.now in
    let f = c.args.frames.now in
    let n = Getfield c.in-Getfield.member in
    let known = subst (λ (kept : Kept). IsKnown (linker_in v) kept c.args.known.now) c.in-Getfield.is c.requires.known in
    subst (λ (kept : Kept). IfPassed c.pass_getfield.result (done_on (attempts v.world kept v.shared f) f) c.args.next f v c.pass_getfield.new.frames v)
    (sym c.in-Getfield.is)
    (subst (λ d. IfPassed c.pass_getfield.result d c.args.next f v c.pass_getfield.new.frames v) (done_again v n c.args.known.now f known refl) c.pass_getfield.ensures)

pub returns-in-Putfield-clause-passed : goal.returns-in-Putfield-clause-passed
returns-in-Putfield-clause-passed c =
    let v = c.args.self.now in
    let f = c.args.frames.now in
    let n = Putfield c.in-Putfield.member in
    let known = subst (λ (kept : Kept). IsKnown (linker_in v) kept c.args.known.now) c.in-Putfield.is c.requires.known in
    subst (λ (kept : Kept). IfPassed c.pass_putfield.result (done_on (attempts v.world kept v.shared f) f) c.args.next f v c.pass_putfield.new.frames c.pass_putfield.new.self)
    (sym c.in-Putfield.is)
    (subst (λ d. IfPassed c.pass_putfield.result d c.args.next f v c.pass_putfield.new.frames c.pass_putfield.new.self) (done_again v n c.args.known.now f known refl) c.pass_putfield.ensures.passed)

pub returns-in-Getstatic-clause-passed : goal.returns-in-Getstatic-clause-passed
returns-in-Getstatic-clause-passed c =
    let v = c.args.self.now in
    let f = c.args.frames.now in
    let n = Getstatic c.in-Getstatic.member in
    let known = subst (λ (kept : Kept). IsKnown (linker_in v) kept c.args.known.now) c.in-Getstatic.is c.requires.known in
    subst (λ (kept : Kept). IfPassed c.pass_getstatic.result (done_on (attempts v.world kept v.shared f) f) c.args.next f v c.pass_getstatic.new.frames v)
    (sym c.in-Getstatic.is)
    (subst (λ d. IfPassed c.pass_getstatic.result d c.args.next f v c.pass_getstatic.new.frames v) (done_again v n c.args.known.now f known refl) c.pass_getstatic.ensures)

pub returns-in-Putstatic-clause-passed : goal.returns-in-Putstatic-clause-passed
returns-in-Putstatic-clause-passed c =
    let v = c.args.self.now in
    let f = c.args.frames.now in
    let n = Putstatic c.in-Putstatic.member in
    let known = subst (λ (kept : Kept). IsKnown (linker_in v) kept c.args.known.now) c.in-Putstatic.is c.requires.known in
    subst (λ (kept : Kept). IfPassed c.pass_putstatic.result (done_on (attempts v.world kept v.shared f) f) c.args.next f v c.pass_putstatic.new.frames c.pass_putstatic.new.self)
    (sym c.in-Putstatic.is)
    (subst (λ d. IfPassed c.pass_putstatic.result d c.args.next f v c.pass_putstatic.new.frames c.pass_putstatic.new.self) (done_again v n c.args.known.now f known refl) c.pass_putstatic.ensures.passed)

pub returns-in_default-clause-passed : goal.returns-in_default-clause-passed
returns-in_default-clause-passed c = (refl, refl)

pub returns-in_default-clause-loads : goal.returns-in_default-clause-loads
returns-in_default-clause-loads c =
    loads_none (linker_in c.args.self.now) c.args.reference.now c.args.known.now c.args.self.now.shared c.args.frames.now refl c.requires.known
