use Rattle.std.proofs.Common.{◌≡◌, ◌∙◌, ap}
use Rattle.std.specs.Prelude.{filter_map}
use Rattle.std.proofs.lemmas.Result.{on_ok_weaker}
use Rattle.jvm_model.specs.Profiling.Targets.{selections}
use Rattle.class_index.specs.Orders.{with_classes}
use Rattle.member_selection.specs.Members.{at_place}
use Rattle.possible_callees.specs.Lineages.{selecting, selection_of}
use Rattle.possible_callees.specs.Tables.{Adds}
use Rattle.possible_callees.proofs.Numbers.Adding.{adds-alike, adds-equal}
use Rattle.possible_callees.proofs.References.BegunLemmas.{selections-of}
use Rattle.possible_callees.proofs.begun.add_selections.Goals as goal

pub returns : goal.returns
returns c =
    let p = c.args.linker.now.program in
    let v = c.args.lineage.now in
    let m = at_place c.args.m in
    let old = c.args.found.now in
    let new = c.add_selections_of.new.found in
    let lower = c.in_ok-lower.lower in
    let made = filter_map (selection_of p v.loaded c.args.named.interface c.args.named.class m) lower in
    let begun = selections p v.loaded c.args.named.class (selecting c.args.named.interface) m in
    let to : new ≡ with_classes old (filter_map (selection_of p v.loaded c.args.named.interface c.args.named.class m) c.as_slice-lower.result.now) → Adds old new begun =
    λ e. adds-alike old new made begun
    (selections-of p v c.args.named.class c.args.named.interface m lower c.requires.known.lineage c.requires.class c.in_ok-lower.ensures.own c.in_ok-lower.ensures.closed)
    (adds-equal old new made (e ∙ ap (λ l. with_classes old (filter_map (selection_of p v.loaded c.args.named.interface c.args.named.class m) l)) c.as_slice-lower.ensures)) in
    on_ok_weaker c.add_selections_of.result to c.add_selections_of.ensures
