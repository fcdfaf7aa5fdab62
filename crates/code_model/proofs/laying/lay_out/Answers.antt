use Rattle.std.proofs.Common.{rules, ◌≡◌, ℕ, ◌+◌, List, ◌++◌, Option, Some, None, length, sym, ap, subst, ◌∙◌, arith}
use Rattle.std.specs.List.Sorted.{IsStrictlyIncreasing}
use Rattle.code_model.specs.declared.laying.Homes.{Homes}
use Rattle.code_model.specs.declared.laying.Laid.{Laid}
use Rattle.code_model.specs.Layout.{home_of, homes_of, groups_bytes, first_far_from, first_far, laid_of}
use Rattle.code_model.specs.declared.laying.Group.{Group}
use Rattle.code_model.specs.Groups.{AreGroups, AreLaidIn}
use Rattle.code_model.specs.Offsets.{AreRising}
use Rattle.code_model.proofs.Offsets.Carried.{laid_rise}
use Rattle.code_model.proofs.CodeLayouts.Ready.{groups_fit, groups_within, groups_end, groups_read}
use Rattle.code_model.proofs.CodeLayouts.Layouts.{starts-increasing}
use Rattle.code_model.proofs.CodeLayouts.Walks.{length-laid_of}
use Rattle.code_model.proofs.CodeLayouts.LaidReads.{all_laid}
use Rattle.code_model.proofs.laying.lay_out.Goals as goal

pub end_of_groups-end-requires : goal.end_of_groups-end-requires
end_of_groups-end-requires c =
    let front = c.requires.prefix in
    omega (arith, groups_end (length c.args.front.now) c.args.groups.now c.requires.groups)

pub overflow_add-len : goal.overflow_add-len
overflow_add-len c =
    let front = c.requires.prefix in
    let back = c.requires.back in
    record { fits = omega (arith, groups_end (length c.args.front.now) c.args.groups.now c.requires.groups) }

pub returns-then-len-gt-MOST_BYTES-clause-too_long : goal.returns-then-len-gt-MOST_BYTES-clause-too_long
returns-then-len-gt-MOST_BYTES-clause-too_long c = λ len is.
    let named : c.end_of_groups-end.result + length c.args.back.now ≡ len = cc in
    let laid = length-laid_of c.args.front.now c.args.groups.now c.args.back.now in
    (omega arith, omega arith)

pub homes_of-requires-clause-ends : goal.homes_of-requires-clause-ends
homes_of-requires-clause-ends c = groups_within c.args.groups.now c.requires.groups

homes_rise : (front : List ℕ) (gs : List Group) (homes : Homes) → AreGroups gs → homes ≡ homes_of front gs → IsStrictlyIncreasing homes.from
homes_rise front gs homes a is = subst (λ (h : Homes). IsStrictlyIncreasing h.from) (sym is) (starts-increasing a.bytes front gs (groups_read gs a))

pub first_far-requires-clause-homes : goal.first_far-requires-clause-homes
first_far-requires-clause-homes c = homes_rise c.args.front.now c.args.groups.now c.in_ok-homes.homes c.requires.groups c.in_ok-homes.ensures

pub laid_code-requires-clause-homes : goal.laid_code-requires-clause-homes
laid_code-requires-clause-homes c = homes_rise c.args.front.now c.args.groups.now c.in_ok-homes.homes c.requires.groups c.in_ok-homes.ensures

pub laid_code-requires-clause-fits : goal.laid_code-requires-clause-fits
laid_code-requires-clause-fits c = groups_fit c.args.groups.now c.requires.groups

far_is : (front : List ℕ) (gs : List Group) (homes : Homes) (at other : ℕ) → homes ≡ homes_of front gs → Some at ≡ first_far_from (home_of homes) (length front) gs → at ≡ other → first_far front gs ≡ Some other
far_is front gs homes at other is far same =
    let found : ℕ → Option ℕ = λ n. Some n in
    ap (λ (h : Homes). first_far_from (home_of h) (length front) gs) (sym is) ∙ sym far ∙ ap found same

pub returns-in-Some-clause-far : goal.returns-in-Some-clause-far
returns-in-Some-clause-far c = λ at is.
    let same : c.in-Some.at ≡ at = cc in
    let laid = length-laid_of c.args.front.now c.args.groups.now c.args.back.now in
    let end = c.end_of_groups-end.ensures in
    (far_is c.args.front.now c.args.groups.now c.in_ok-homes.homes c.in-Some.at at c.in_ok-homes.ensures c.in-Some.ensures same, omega arith)

pub returns-clause-short : goal.returns-clause-short
returns-clause-short c =
    let front = c.args.front.now in
    let groups = c.args.groups.now in
    let back = c.args.back.now in
    let code : c.in_ok-code.code ≡ (laid_of front groups back).code =
    c.in_ok-code.ensures ∙ ap (λ (h : Homes). front ++ (groups_bytes (home_of h) (length front) groups ++ back)) c.in_ok-homes.ensures in
    let laid = ap length code ∙ length-laid_of front groups back in
    let end = c.end_of_groups-end.ensures in
    omega arith

near_is : (front : List ℕ) (gs : List Group) (homes : Homes) → homes ≡ homes_of front gs → first_far_from (home_of homes) (length front) gs ≡ None → first_far front gs ≡ None
near_is front gs homes is near = ap (λ (h : Homes). first_far_from (home_of h) (length front) gs) (sym is) ∙ near

laid_is : (front back code : List ℕ) (gs : List Group) (homes : Homes) → code ≡ (laid_of front gs back).code → homes ≡ homes_of front gs → record { code = code; homes = homes } ≡ laid_of front gs back
laid_is front back code gs homes same is =
    let with_code : List ℕ → Laid = λ bytes. record { code = bytes; homes = homes } in
    let with_homes : Homes → Laid = λ h. record { code = (laid_of front gs back).code; homes = h } in
    ap with_code same ∙ ap with_homes is

pub returns-clause-moved : goal.returns-clause-moved
returns-clause-moved c =
    let front = c.args.front.now in
    let groups = c.args.groups.now in
    let back = c.args.back.now in
    let homes = c.in_ok-homes.homes in
    let code : c.in_ok-code.code ≡ (laid_of front groups back).code =
    c.in_ok-code.ensures ∙ ap (λ (h : Homes). front ++ (groups_bytes (home_of h) (length front) groups ++ back)) c.in_ok-homes.ensures in
    let laid = length-laid_of front groups back in
    let end = c.end_of_groups-end.ensures in
    let none : c.first_far.result ≡ None = search rules in
    let near = near_is front groups homes c.in_ok-homes.ensures (sym c.first_far.ensures ∙ none) in
    subst (λ (l : Laid). AreLaidIn l groups) (sym (laid_is front back c.in_ok-code.code groups homes code c.in_ok-homes.ensures)) (all_laid front back groups c.requires.groups near (omega arith))

pub returns-clause-rising : goal.returns-clause-rising
returns-clause-rising c = subst (λ (h : Homes). AreRising h) (sym c.in_ok-homes.ensures) (laid_rise c.args.front.now c.args.groups.now c.requires.groups)
