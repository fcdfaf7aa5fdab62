use Rattle.std.proofs.lemmas.List.Filters.{dedup_is}
use Rattle.std.proofs.lemmas.List.Kept.{Contains-dedup_nat, Contains-from_dedup}
use Rattle.std.proofs.lemmas.List.Sorted.{Contains-permutation, IsPermutation-sym}
use Rattle.std.proofs.lemmas.Map.Keys.{IsStrictlyIncreasing-dedup}
use Rattle.possible_callees.proofs.Truths.{alike}
use Rattle.call_revelation.proofs.Classes.InLoadOrder.{among-contains, contains-among, rising-from}
use Rattle.call_revelation.proofs.ranks.put_in_order.Goals as goal

pub returns : goal.returns
returns c =
    let is = dedup_is _ _ _ c.dedup.ensures.filtered in
    let moved = c.sort_unstable.ensures.permutation in
    record {
      rising = rising-from _ (rw is (IsStrictlyIncreasing-dedup _ c.sort_unstable.ensures.sorted));
      same = λ x. alike _ _
          (λ h. let there = among-contains _ x h in contains-among _ x (Contains-permutation _ _ x (IsPermutation-sym _ _ moved) (Contains-from_dedup _ _ x (rw is at there))))
          (λ h. contains-among _ x (rw is (Contains-dedup_nat _ x (Contains-permutation _ _ x moved (among-contains _ x h)))));
    }
