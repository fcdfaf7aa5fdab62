use Rattle.std.proofs.Common.{slice_get, sym, ap, ◌∙◌}
use Rattle.std.proofs.lemmas.List.{length-map}
use Rattle.base_classes.specs.RowViews.{class_view, member_view}
use Rattle.base_classes.proofs.NameLemmas.{name_missed}
use Rattle.base_classes.proofs.NativeNumbers.{if_some, if_none, numbers_fit, starts_there, native_found, none_without_class, native_missed}
use Rattle.base_classes.proofs.NativePlaces.{number_found, no_number}
use Rattle.base_classes.proofs.natives.native_of.Goals as goal

pub returns-in_err-place-clause-none : goal.returns-in_err-place-clause-none
returns-in_err-place-clause-none c =
    if_none _ _ (λ _. none_without_class c.args.class.now c.args.name.now c.args.descriptor.now (λ p at. let e = c.in_err-place.ensures.only p at in cc))

pub returns-in_err-row-clause-none : goal.returns-in_err-row-clause-none
returns-in_err-row-clause-none c =
    let missed = name_missed c.in_ok-place.place c.in_err-row.ensures in
    let found = c.in_ok-place.ensures.found in
    cc

pub returns-in_err-first-clause-none : goal.returns-in_err-first-clause-none
returns-in_err-first-clause-none c =
    let starts = starts_there c.in_ok-place.place (class_view c.in_ok-row.row.now) c.in_ok-row.ensures in
    let missed = c.in_err-first.ensures ∙ ap (λ s. slice_get s c.in_ok-place.place) c.starts.ensures in
    cc

pub number_among-requires : goal.number_among-requires
number_among-requires c =
    let first_is = c.in_ok-first.ensures ∙ ap (λ s. slice_get s c.in_ok-place.place) c.starts.ensures in
    let fits = numbers_fit c.in_ok-place.place c.in_ok-first.first (class_view c.in_ok-row.row.now) c.in_ok-row.ensures first_is in
    rw (← length-map _ member_view) fits

pub returns-clause-found : goal.returns-clause-found
returns-clause-found c =
    let first_is = c.in_ok-first.ensures ∙ ap (λ s. slice_get s c.in_ok-place.place) c.starts.ensures in
    if_some _ _ (λ n is. native_found c.in_ok-place.place c.in_ok-first.first (class_view c.in_ok-row.row.now) c.args.class.now c.args.name.now c.args.descriptor.now n
    c.in_ok-row.ensures first_is c.in_ok-place.ensures.found (sym c.number_among.ensures ∙ is))

pub returns-clause-none : goal.returns-clause-none
returns-clause-none c =
    if_none _ _ (λ is. native_missed c.in_ok-place.place c.in_ok-first.first (class_view c.in_ok-row.row.now) c.args.class.now c.args.name.now c.args.descriptor.now
    c.in_ok-row.ensures c.in_ok-place.ensures.only (sym c.number_among.ensures ∙ is))

pub returns-in_err-place-clause-number : goal.returns-in_err-place-clause-number
returns-in_err-place-clause-number c =
    c.from_residual.ensures
    ∙ no_number c.args.class.now c.args.name.now c.args.descriptor.now (λ p at. let e = c.in_err-place.ensures.only p at in cc)

pub returns-in_err-row-clause-number : goal.returns-in_err-row-clause-number
returns-in_err-row-clause-number c =
    let missed = name_missed c.in_ok-place.place c.in_err-row.ensures in
    let found = c.in_ok-place.ensures.found in
    absurd cc

pub returns-in_err-first-clause-number : goal.returns-in_err-first-clause-number
returns-in_err-first-clause-number c =
    let starts = starts_there c.in_ok-place.place (class_view c.in_ok-row.row.now) c.in_ok-row.ensures in
    let missed = c.in_err-first.ensures ∙ ap (λ s. slice_get s c.in_ok-place.place) c.starts.ensures in
    absurd cc

pub returns-clause-number : goal.returns-clause-number
returns-clause-number c =
    let first_is = c.in_ok-first.ensures ∙ ap (λ s. slice_get s c.in_ok-place.place) c.starts.ensures in
    c.number_among.ensures
    ∙ number_found c.in_ok-place.place c.in_ok-first.first (class_view c.in_ok-row.row.now) c.args.class.now c.args.name.now c.args.descriptor.now
    c.in_ok-row.ensures first_is c.in_ok-place.ensures.found c.in_ok-place.ensures.only
