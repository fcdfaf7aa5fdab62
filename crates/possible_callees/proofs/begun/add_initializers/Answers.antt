use Rattle.std.proofs.Common.{◌≡◌, ap₂}
use Rattle.std.specs.Prelude.{filter_map}
use Rattle.std.specs.Str.{chars}
use Rattle.std.proofs.lemmas.Result.{on_ok_weaker}
use Rattle.jvm_model.specs.Profiling.Targets.{initializers}
use Rattle.class_index.specs.Orders.{with_classes}
use Rattle.possible_callees.specs.Lineages.{initializer_in}
use Rattle.possible_callees.specs.Tables.{Adds}
use Rattle.possible_callees.proofs.Numbers.Adding.{adds-alike, adds-equal}
use Rattle.possible_callees.proofs.References.BegunLemmas.{initializers-of}
use Rattle.const_pool.specs.References.{NameAndType}
use Rattle.possible_callees.proofs.begun.add_initializers.Goals as goal

pub add_initializers_of-requires-clause-wanted : goal.add_initializers_of-requires-clause-wanted
unfolding chars
add_initializers_of-requires-clause-wanted c =
    ap₂ (λ n d. let member : NameAndType = record { name = n; descriptor = d } in member) c.in_ok-name.ensures.spelled c.in_ok-descriptor.ensures.spelled

pub returns : goal.returns
returns c =
    let p = c.args.linker.now.program in
    let loaded = c.args.lineage.now.loaded in
    let given = c.supertypes-supertypes.result.now in
    let old = c.args.found.now in
    let new = c.add_initializers_of.new.found in
    let made = filter_map (initializer_in p loaded) given in
    let to : new ≡ with_classes old made → Adds old new (initializers p loaded c.args.class) =
    λ e. adds-alike old new made (initializers p loaded c.args.class)
    (initializers-of p loaded c.args.class given c.supertypes-supertypes.ensures) (adds-equal old new made e) in
    on_ok_weaker c.add_initializers_of.result to c.add_initializers_of.ensures
