-- what the search found, or that there is nothing
use Rattle.std.proofs.Common.{Ok, Err, subst, nat_cmp, sym, ◌∙◌}
use Rattle.std.specs.List.Sorted.{IsBinarySearchResult}
use Rattle.std.proofs.lemmas.List.Sorted.{searched}
use Rattle.code_model.proofs.Offsets.Searches.{found-between, found-in_order, rise-le}
use Rattle.prepared_code.proofs.rewritten.found_beside.Goals as goal

pub returns-in-Ok : goal.returns-in-Ok
returns-in-Ok c =
    let xs = c.args.numbers.now in
    let found = searched xs c.args.wanted (Ok c.in-Ok.at) (subst (λ ys. IsBinarySearchResult (λ y. nat_cmp y c.args.wanted) ys (Ok c.in-Ok.at)) c.as_slice.ensures c.in-Ok.ensures.position) (rise-le xs c.requires) in
    c.at.ensures ∙ sym (found-in_order xs c.args.others.now c.in-Ok.at c.args.wanted c.requires found.0 found.1)

pub returns-in-Err : goal.returns-in-Err
returns-in-Err c =
    let xs = c.args.numbers.now in
    let missed = searched xs c.args.wanted (Err c.in-Err.field-0) (subst (λ ys. IsBinarySearchResult (λ y. nat_cmp y c.args.wanted) ys (Err c.in-Err.field-0)) c.as_slice.ensures c.in-Err.ensures.position) (rise-le xs c.requires) in
    sym (found-between xs c.args.others.now c.in-Err.field-0 c.args.wanted missed.1 missed.2)
