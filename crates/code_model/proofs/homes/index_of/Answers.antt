-- what the search found, or that there is nothing
use Rattle.std.proofs.Common.{Ok, Err}
use Rattle.std.proofs.lemmas.List.Sorted.{searched}
use Rattle.code_model.proofs.Offsets.Searches.{rise-le, found-in_order, found-between}
use Rattle.code_model.proofs.homes.index_of.Goals as goal

pub returns-in-Ok : goal.returns-in-Ok
returns-in-Ok c = λ others.
    let xs = c.args.numbers.now in
    let found = searched xs c.args.wanted (Ok c.in-Ok.index) c.in-Ok.ensures.position (rise-le xs c.requires) in
    found-in_order xs others c.in-Ok.index c.args.wanted c.requires found.0 found.1

pub returns-in-Err : goal.returns-in-Err
returns-in-Err c = λ others.
    let xs = c.args.numbers.now in
    let missed = searched xs c.args.wanted (Err c.in-Err.field-0) c.in-Err.ensures.position (rise-le xs c.requires) in
    found-between xs others c.in-Err.field-0 c.args.wanted missed.1 missed.2
