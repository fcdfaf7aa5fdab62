-- what the search found, or that there is nothing: a place is found as a home is
use Rattle.std.proofs.Common.{Ok, Err, ap, subst, nat_cmp, ◌∙◌}
use Rattle.std.specs.List.Sorted.{IsBinarySearchResult}
use Rattle.std.specs.Prelude.{unwrap_or}
use Rattle.std.proofs.lemmas.List.Sorted.{searched}
use Rattle.code_model.proofs.Offsets.Searches.{rise-le, home_of-at, home_of-none}
use Rattle.stackmap_shift.proofs.moves.place_of.Goals as goal

pub returns-in-Ok : goal.returns-in-Ok
returns-in-Ok c =
    let homes = c.args.homes.now in
    let found = searched homes.from c.args.at (Ok c.in-Ok.index) (subst (λ xs. IsBinarySearchResult (λ y. nat_cmp y c.args.at) xs (Ok c.in-Ok.index)) c.as_slice.ensures c.in-Ok.ensures.position) (rise-le homes.from c.requires) in
    c.unwrap_or.ensures ∙ ap (λ o. unwrap_or o 0) c.at.ensures ∙ home_of-at (record homes { home = homes.place }) c.in-Ok.index c.args.at c.requires found.0 found.1

pub returns-in-Err : goal.returns-in-Err
returns-in-Err c =
    let homes = c.args.homes.now in
    let missed = searched homes.from c.args.at (Err c.in-Err.field-0) (subst (λ xs. IsBinarySearchResult (λ y. nat_cmp y c.args.at) xs (Err c.in-Err.field-0)) c.as_slice.ensures c.in-Err.ensures.position) (rise-le homes.from c.requires) in
    home_of-none (record homes { home = homes.place }) c.in-Err.field-0 c.args.at missed.1 missed.2
