use Rattle.std.proofs.Common.{◌≡◌, rules, subst, sym}
use Rattle.jvm_model.specs.declared.exception.Exception.TheVariants.{BuiltIn}
use Rattle.member_selection.specs.Objects.{IsUsable}
use Rattle.symbolic_references.specs.ProgramFacts.{exception_kind}
use Rattle.symbolic_references.specs.Runtimes.{RuntimeView, linker_in}
use Rattle.symbolic_references.proofs.runtime.Runtime.built_in_kind.Goals as goal

pub returns-clause-usable : goal.returns-clause-usable
returns-clause-usable c =
    let v = c.args.self.now in
    let is : c.instance_kind.result ≡ exception_kind v.world.program (BuiltIn c.args.place) = search rules in
    subst (IsUsable (linker_in v)) (sym is)
    (subst (λ (v : RuntimeView). IsUsable (linker_in v) (exception_kind v.world.program (BuiltIn c.args.place))) c.self.view_is
    (c.self.invariant.exceptions.each (BuiltIn c.args.place)))
