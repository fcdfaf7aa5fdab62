use Rattle.std.proofs.Common.{◌∙◌, [], subst, sym, ap}
use Rattle.std.specs.Prelude.{flat_map}
use Rattle.std.specs.List.{AllByRecursion}
use Rattle.jvm_model.specs.Classes.Load.{is_among}
use Rattle.jvm_model.specs.Soundness.Sound.{HasLoadedCaller}
use Rattle.jvm_model.specs.Profiling.Targets.{begun_by, operations_of}
use Rattle.jvm_model.specs.Profiling.Revelation.{symbolic_references_of}
use Rattle.member_selection.specs.Numbers.{AreNumbers}
use Rattle.possible_callees.specs.Tables.{Adds}
use Rattle.possible_callees.proofs.Numbers.Adding.{adds-all}
use Rattle.possible_callees.proofs.References.CallerLemmas.{callers-loaded}
use Rattle.possible_callees.proofs.References.TargetLemmas.{gathered-are}
use Rattle.possible_callees.proofs.gathering.methods_gathered.Goals as goal

pub add_all_begun-requires-clause-known : goal.add_all_begun-requires-clause-known
add_all_begun-requires-clause-known c =
    record {
      numbers = subst (λ q. AreNumbers q c.in_ok-numbers.numbers) c.program.ensures c.in_ok-numbers.ensures;
      lineage = c.in_ok-lineage.ensures.lineage;
      loaded = λ class h.
          sym (adds-all [] c.args.linker.now.loaded class) ∙ (ap (is_among class) (sym c.in_ok-lineage.ensures.loaded) ∙ h);
      root = c.requires.root;
    }

pub add_all_begun-requires-clause-callers : goal.add_all_begun-requires-clause-callers
add_all_begun-requires-clause-callers c =
    let p = c.args.linker.now.program in
    let loaded = c.args.linker.now.loaded in
    subst (AllByRecursion (λ n. HasLoadedCaller p loaded n)) (sym c.as_slice-references.ensures)
    (subst (AllByRecursion (λ n. HasLoadedCaller p loaded n))
    (sym (c.in_ok-references.ensures ∙ ap (λ q. symbolic_references_of (operations_of q c.args.method)) c.program-2.ensures))
    (callers-loaded p loaded c.requires.fit c.args.method c.requires.class))

pub returns : goal.returns
returns c =
    let p = c.args.linker.now.program in
    let loaded = c.args.linker.now.loaded in
    let kept = c.in_ok-lineage.lineage.loaded in
    let ns = c.as_slice-references.result.now in
    gathered-are p kept loaded c.args.method ns c.add_all_begun.new.found
    (λ x. ap (is_among x) c.in_ok-lineage.ensures.loaded ∙ adds-all [] loaded x)
    (c.as_slice-references.ensures ∙ (c.in_ok-references.ensures ∙ ap (λ q. symbolic_references_of (operations_of q c.args.method)) c.program-2.ensures))
    (subst (λ l. Adds l c.add_all_begun.new.found (flat_map (begun_by p kept) ns)) c.new-found.ensures c.in_ok-add_all_begun.ensures)
