use Rattle.std.proofs.Common.{◌∙◌, ap, subst, sym, length}
use Rattle.class_linker.specs.Passing.{IsChain}
use Rattle.class_linker.specs.LoadedClasses.{holds_all}
use Rattle.class_linker.proofs.Chains.{chain}
use Rattle.class_linker.proofs.Walked.{superclasses_rows, superclasses_walked}
use Rattle.class_linker.proofs.loaded_classes.LoadedClasses.superclasses_of.Goals as goal

pub returns-clause-all : goal.returns-clause-all
returns-clause-all c =
    c.superclasses_in.ensures ∙ superclasses_walked c.args.self.index.now c.args.self.rows.now c.args.self.of_program c.args.class c.requires

pub returns-clause-rows : goal.returns-clause-rows
returns-clause-rows c =
    ap (holds_all c.args.self.rows.now) c.superclasses_in.ensures
    ∙ superclasses_rows c.args.self.index.now c.args.self.rows.now c.args.self.of_program c.args.class c.requires

pub returns-clause-chain : goal.returns-clause-chain
returns-clause-chain c =
    subst (IsChain c.args.self.index.now)
    (sym (c.superclasses_in.ensures ∙ superclasses_walked c.args.self.index.now c.args.self.rows.now c.args.self.of_program c.args.class c.requires))
    (chain c.args.self.index.now c.args.self.rows.now c.args.self.of_program (length c.args.self.index.now.classes) c.args.class c.requires)
