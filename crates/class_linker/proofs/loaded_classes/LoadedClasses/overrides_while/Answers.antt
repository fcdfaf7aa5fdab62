use Rattle.std.proofs.Common.{◌∙◌, sym}
use Rattle.class_linker.specs.DeclaredMethods.{at_place}
use Rattle.class_linker.proofs.PassedOn.{unpassed, not_passed}
use Rattle.class_linker.proofs.loaded_classes.LoadedClasses.overrides_while.Goals as goal

pub returns-then-passing-clause-known : goal.returns-then-passing-clause-known
returns-then-passing-clause-known c =
    λ none. unpassed c.args.self.index.now (at_place c.args.own) (at_place c.args.m) (sym c.stands_below.ensures ∙ c.if-not-stands_below.false)
    (sym c.is_passed.ensures ∙ none)

pub returns-else-passing-clause-test : goal.returns-else-passing-clause-test
returns-else-passing-clause-test c =
    c.if-passing.false
    ∙ sym (not_passed c.args.self.index.now (at_place c.args.own) (at_place c.args.m) (sym c.is_reached.ensures ∙ c.if-is_reached.false)
    (c.requires.known c.if-passing.false))
