use Rattle.std.proofs.Common.{List, sym, subst}
use Rattle.std.specs.List.{AllByRecursion}
use Rattle.const_pool.specs.declared.class.Member.{Member}
use Rattle.const_pool.specs.ClassFile.{IsMember, IsMethodAttribute}
use Rattle.code_admission.proofs.CodeLengths.{code_length}
use Rattle.code_admission.proofs.codes.check_codes.Goals as goal

pub check_method-requires : goal.check_method-requires
check_method-requires c =
    code_length c.args.class.now.pool c.as_slice-method-items.result.now c.loop-at.at c.method-item.result c.loop-at-test.true c.method-item.is
    (subst (λ (methods : List Member). AllByRecursion (IsMember IsMethodAttribute c.args.class.now.pool) methods) (sym c.as_slice-method-items.ensures) c.requires.methods)
