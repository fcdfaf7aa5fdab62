use Rattle.std.proofs.Common.{ap, subst, sym, drop, ◌∙◌, arith}
use Rattle.std.specs.List.{AllByRecursion}
use Rattle.jvm_model.specs.Profiling.Revelation.{IsLoadOrder}
use Rattle.class_linker.specs.Linkers.{IsLoaded}
use Rattle.possible_callees.proofs.Numbers.Fronts.{front-long}
use Rattle.call_revelation.proofs.Revelations.Grown.{went-back}
use Rattle.call_revelation.proofs.Classes.InTurn.{behind-linked, behind-order}
use Rattle.call_revelation.proofs.reveal.Reveal.loaded.Goals as goal

pub loaded_behind-requires : goal.loaded_behind-requires
loaded_behind-requires c =
    omega (arith, c.len-loaded.ensures, front-long c.args.self.now.lineage.loaded c.args.linker.now.loaded c.requires.prefix)

pub load_all-requires-clause-new : goal.load_all-requires-clause-new
load_all-requires-clause-new c =
    let l = c.args.linker.now in
    subst (AllByRecursion (IsLoaded l)) (sym (c.loaded_behind.ensures ∙ ap (λ n. drop n l.loaded) c.len-loaded.ensures))
    (behind-linked l c.args.self.now.lineage.loaded c.requires.prefix)

pub load_all-requires-clause-order : goal.load_all-requires-clause-order
load_all-requires-clause-order c =
    let l = c.args.linker.now in
    subst (IsLoadOrder l.program c.args.self.now.lineage.loaded) (sym (c.loaded_behind.ensures ∙ ap (λ n. drop n l.loaded) c.len-loaded.ensures))
    (behind-order l.program c.args.self.now.lineage.loaded l.loaded c.requires.prefix c.requires.order)

pub returns-in-Err-clause-revelation : goal.returns-in-Err-clause-revelation
returns-in-Err-clause-revelation c =
    went-back c.args.linker.now.program c.args.self.now c.load_all.new.self c.go_back.new.self c.len-loaded.result c.len-targets.result c.requires.revelation
    c.load_all.ensures.grown c.len-loaded.ensures c.len-targets.ensures c.go_back.ensures
