use Rattle.std.proofs.Common.{◌∙◌, ap, subst, sym, Err}
use Rattle.jvm_model.specs.Basis.Data.{Raises}
use Rattle.jvm_model.specs.Instructions.Exceptions.{exception_name}
use Rattle.member_selection.specs.Objects.{IsResolved}
use Rattle.member_selection.proofs.MoreLoaded.{more-by}
use Rattle.member_selection.proofs.Resolutions.{finds-already, finds-new, fails-by}
use Rattle.member_selection.proofs.resolution.resolve.Goals as goal

pub returns-in-Already-clause-found : goal.returns-in-Already-clause-found
returns-in-Already-clause-found c =
    (finds-already c.args.linker.now.program c.args.linker.now.loaded c.args.name.now c.in-Already.kind c.recall.ensures.count c.requires c.in-Already.ensures.answer).found

pub returns-in-Already-clause-resolved : goal.returns-in-Already-clause-resolved
returns-in-Already-clause-resolved c =
    subst (λ l. IsResolved l c.args.name.now c.in-Already.kind) (sym c.in-Already.ensures.loaded)
    (finds-already c.args.linker.now.program c.args.linker.now.loaded c.args.name.now c.in-Already.kind c.recall.ensures.count c.requires c.in-Already.ensures.answer).resolved

pub returns-in-Already-clause-more : goal.returns-in-Already-clause-more
returns-in-Already-clause-more c = more-by c.args.linker.now c.load.new.self c.args.name.now c.in-Already.ensures.loaded

pub returns-in-New-clause-more : goal.returns-in-New-clause-more
returns-in-New-clause-more c = more-by c.args.linker.now c.load.new.self c.args.name.now c.in-New.ensures.loaded

pub returns-in-Throws-clause-more : goal.returns-in-Throws-clause-more
returns-in-Throws-clause-more c = more-by c.args.linker.now c.load.new.self c.args.name.now c.in-Throws.ensures.loaded

pub returns-in-New-clause-found : goal.returns-in-New-clause-found
returns-in-New-clause-found c =
    (finds-new c.args.linker.now.program c.args.linker.now.loaded c.args.name.now c.in-New.kind c.in-New.field-1 c.recall.ensures.count c.requires c.in-New.ensures.answer).found

pub returns-in-New-clause-resolved : goal.returns-in-New-clause-resolved
returns-in-New-clause-resolved c =
    subst (λ l. IsResolved l c.args.name.now c.in-New.kind) (sym c.in-New.ensures.loaded)
    (finds-new c.args.linker.now.program c.args.linker.now.loaded c.args.name.now c.in-New.kind c.in-New.field-1 c.recall.ensures.count c.requires c.in-New.ensures.answer).resolved

pub returns-in-Throws-clause-found : goal.returns-in-Throws-clause-found
returns-in-Throws-clause-found c =
    ap (λ e. Err (Raises (exception_name e) c.in-Throws.message)) c.exception_numbered.ensures
    ∙ (fails-by c.args.linker.now.program c.args.linker.now.loaded c.args.name.now c.in-Throws.number c.in-Throws.field-1 c.in-Throws.message c.in-Throws.ensures.answer).found
