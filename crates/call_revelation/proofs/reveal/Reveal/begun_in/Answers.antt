use Rattle.std.proofs.Common.{◌∙◌, subst, sym, refl}
use Rattle.std.specs.Prelude.{flat_map}
use Rattle.std.specs.List.{AllByRecursion}
use Rattle.jvm_model.specs.Soundness.Sound.{HasLoadedCaller}
use Rattle.jvm_model.specs.Profiling.Targets.{begun_by}
use Rattle.jvm_model.specs.declared.instruction.SymbolicReference.{SymbolicReference}
use Rattle.possible_callees.specs.Tables.{Adds}
use Rattle.possible_callees.proofs.References.TargetLemmas.{gathered-are}
use Rattle.call_revelation.proofs.References.Callers.{callers-there}
use Rattle.call_revelation.proofs.reveal.Reveal.begun_in.Goals as goal

pub add_all_begun-requires-clause-callers : goal.add_all_begun-requires-clause-callers
add_all_begun-requires-clause-callers c =
    let p = c.args.linker.now.program in
    let loaded = c.args.linker.now.loaded in
    let book = c.args.self.now.book in
    subst (AllByRecursion (λ (n : SymbolicReference). HasLoadedCaller p loaded n)) (sym c.as_slice-references.ensures)
    (callers-there p loaded book.codes book.waiting.items book.calls.items c.requires.kept.book c.requires.kept.fit c.args.method c.in-Some.references.now
    (sym c.in-Some.ensures) (λ place e. c.requires.ahead.loaded place.class (c.requires.class place e)))

pub returns : goal.returns
returns c =
    let p = c.args.linker.now.program in
    let loaded = c.args.self.now.lineage.loaded in
    let ns = c.as_slice-references.result.now in
    gathered-are p loaded loaded c.args.method ns c.add_all_begun.new.found (λ x. refl)
    (c.as_slice-references.ensures ∙ c.requires.kept.book.read c.args.method c.in-Some.references.now (sym c.in-Some.ensures))
    (subst (λ l. Adds l c.add_all_begun.new.found (flat_map (begun_by p loaded) ns)) c.new-found.ensures c.in_ok-add_all_begun.ensures)
