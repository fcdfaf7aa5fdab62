use Rattle.std.proofs.Common.{◌<◌, ◌^◌, ◌∙◌, ap, length, map, sym, subst, arith}
use Rattle.jvm_model.specs.declared.program.Program.{Program}
use Rattle.jvm_model.specs.Basis.Programs.{methods_numbered}
use Rattle.member_selection.specs.Numbers.{AreNumbers}
use Rattle.prepared_code.specs.Entries.{entry_at}
use Rattle.prepared_code.proofs.Initializing.BuiltInLoads.{few-coded}
use Rattle.prepared_code.proofs.Lines.Entries.{tables-entries}
use Rattle.prepared_code.proofs.preparing.tables_of.Goals as goal

pub new-requires-clause-few : goal.new-requires-clause-few
new-requires-clause-few c =
    let same = c.program-program.ensures.all in
    few-coded c.program-program.result.now (ap (λ (p : Program). p.methods) same ∙ (c.requires.numbered ∙ ap (λ (p : Program). methods_numbered p.classes) (sym same)))
    (subst (λ (p : Program). length p.methods < 2 ^ 32) (sym same) c.requires.methods)

pub returns : goal.returns
returns c =
    let p : Program = c.args.index.now in
    let same = c.program-program.ensures.all in
    let few : length p.classes < 2 ^ 24 = omega (arith, c.requires.linkable.count) in
    tables-entries p _ few c.requires.methods (c.in_ok-methods.ensures ∙ ap (λ (q : Program). map (entry_at q) q.methods) same)
    c.in_ok-exceptions.ensures.raised c.in_ok-exceptions.ensures.string c.in_ok-exceptions.ensures.small
    (subst (λ (q : Program). AreNumbers q c.in_ok-numbers.numbers) same c.in_ok-numbers.ensures) c.in_ok-throwable.ensures c.in_ok-error.ensures
