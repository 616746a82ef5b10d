use Rattle.std.proofs.Common.{◌≤◌, ◌^◌, arith, length}
use Rattle.std.proofs.lemmas.List.Sorted.{IsNonDecreasingBy-from_sort}
use Rattle.dw_unit.specs.ToldLists.{codes_of}
use Rattle.dw_unit.proofs.CodeKeys.{keys_find}
use Rattle.dw_unit.proofs.codes.sorted_keys.Goals as goal

pub returns-clause-rising : goal.returns-clause-rising
returns-clause-rising c = IsNonDecreasingBy-from_sort (λ x. x) _ c.sort_unstable.ensures.sorted

pub returns-clause-finds : goal.returns-clause-finds
returns-clause-finds c =
    let are = c.in_ok-keys.ensures in
    let small : length (codes_of c.args.list.now) ≤ 2 ^ 64 = omega (arith, are.count, c.in_ok-keys.keys.ok.0, c.in_ok-keys.keys.small) in
    keys_find (codes_of c.args.list.now) c.in_ok-keys.keys.items c.sort_unstable.new.self.items are c.sort_unstable.ensures.permutation
    (IsNonDecreasingBy-from_sort (λ x. x) _ c.sort_unstable.ensures.sorted) small
