use Rattle.std.proofs.Common.{false, is_ok, refl, subst, ◌∙◌}
use Rattle.std.specs.Prelude.{flat_map}
use Rattle.jvm_model.specs.Profiling.Targets.{begun_by}
use Rattle.possible_callees.specs.Tables.{Adds, list_at}
use Rattle.possible_callees.proofs.Numbers.Fronts.{fresh-with, front-if}
use Rattle.call_revelation.specs.Books.{called_from, of_entered}
use Rattle.call_revelation.proofs.References.Callers.{gathered-both}
use Rattle.call_revelation.proofs.References.CalledLemmas.{handed-with}
use Rattle.call_revelation.proofs.Revelations.Marking.{ahead-more, kept-loaded}
use Rattle.call_revelation.proofs.reveal.Reveal.gain.Goals as goal

pub returns-in_err-add-clause-lineage : goal.returns-in_err-add-clause-lineage
returns-in_err-add-clause-lineage c = c.add.ensures.lineage c.args.linker.now.program c.requires.led c.requires.kept.lineage

pub returns-in_err-add-clause-prefix : goal.returns-in_err-add-clause-prefix
returns-in_err-add-clause-prefix c =
    front-if (is_ok c.add.result) c.args.self.now.lineage.loaded c.add.new.self.loaded c.args.new c.add.ensures.loaded

pub add_all_waiting-requires-clause-kept : goal.add_all_waiting-requires-clause-kept
add_all_waiting-requires-clause-kept c =
    kept-loaded c.args.linker.now.program c.args.self.now c.args.new c.add.new.self c.requires.kept (c.add.ensures.lineage c.args.linker.now.program c.requires.led c.requires.kept.lineage)
    (c.in_ok-add.ensures.loaded ∙ fresh-with c.args.self.now.lineage.loaded c.args.new c.requires.fresh) c.requires.handed

pub add_all_waiting-requires-clause-ahead : goal.add_all_waiting-requires-clause-ahead
add_all_waiting-requires-clause-ahead c =
    ahead-more c.args.linker.now c.args.self.now c.args.new (record c.args.self.now { lineage = c.add.new.self }) c.requires.ahead c.requires.new
    (c.in_ok-add.ensures.loaded ∙ fresh-with c.args.self.now.lineage.loaded c.args.new c.requires.fresh)

pub returns-in_err-add_all_waiting-clause-lineage : goal.returns-in_err-add_all_waiting-clause-lineage
returns-in_err-add_all_waiting-clause-lineage c = c.add.ensures.lineage c.args.linker.now.program c.requires.led c.requires.kept.lineage

pub returns-in_err-add_all_waiting-clause-prefix : goal.returns-in_err-add_all_waiting-clause-prefix
returns-in_err-add_all_waiting-clause-prefix c =
    front-if (is_ok c.add.result) c.args.self.now.lineage.loaded c.add.new.self.loaded c.args.new c.add.ensures.loaded

pub returns-clause-lineage : goal.returns-clause-lineage
returns-clause-lineage c = c.add.ensures.lineage c.args.linker.now.program c.requires.led c.requires.kept.lineage

pub returns-clause-prefix : goal.returns-clause-prefix
returns-clause-prefix c =
    front-if (is_ok c.add.result) c.args.self.now.lineage.loaded c.add.new.self.loaded c.args.new c.add.ensures.loaded

pub returns-in_err-add_calls_above-clause-handed : goal.returns-in_err-add_calls_above-clause-handed
returns-in_err-add_calls_above-clause-handed c =
    handed-with c.args.linker.now.program c.args.self.now.lineage.loaded c.args.self.now.lineage.loaded c.args.self.now.named c.args.new false refl c.requires.handed

pub returns-in_err-add-clause-handed : goal.returns-in_err-add-clause-handed
returns-in_err-add-clause-handed c =
    handed-with c.args.linker.now.program c.args.self.now.lineage.loaded c.add.new.self.loaded c.args.self.now.named c.args.new (is_ok c.add.result) c.add.ensures.loaded c.requires.handed

pub returns-in_err-add_all_waiting-clause-handed : goal.returns-in_err-add_all_waiting-clause-handed
returns-in_err-add_all_waiting-clause-handed c =
    handed-with c.args.linker.now.program c.args.self.now.lineage.loaded c.add.new.self.loaded c.args.self.now.named c.args.new (is_ok c.add.result) c.add.ensures.loaded c.requires.handed

pub returns-clause-handed : goal.returns-clause-handed
returns-clause-handed c =
    handed-with c.args.linker.now.program c.args.self.now.lineage.loaded c.add.new.self.loaded c.args.self.now.named c.args.new (is_ok c.add.result) c.add.ensures.loaded c.requires.handed

pub returns-clause-gathered : goal.returns-clause-gathered
returns-clause-gathered c =
    let p = c.args.linker.now.program in
    let r = c.args.self.now in
    let all = c.add.new.self.loaded in
    let uppers = list_at r.named.above.items c.args.new in
    gathered-both p r.lineage.loaded c.args.new r.entered r.book.codes r.book.waiting.items r.book.calls.items uppers all c.new-found.result
    c.add_calls_above.new.found c.add_all_waiting.new.found c.new-found.ensures
    (c.in_ok-add.ensures.loaded ∙ fresh-with r.lineage.loaded c.args.new c.requires.fresh) (subst (λ l. Adds c.new-found.result c.add_calls_above.new.found (flat_map (called_from p r.lineage.loaded c.args.new r.entered r.book.codes r.book.calls.items) l))
    c.above.ensures c.in_ok-add_calls_above.ensures)
    (subst (λ us. Adds c.add_calls_above.new.found c.add_all_waiting.new.found (flat_map (of_entered r.entered r.book.codes (begun_by p all)) us))
    c.waiting.ensures c.in_ok-add_all_waiting.ensures)
