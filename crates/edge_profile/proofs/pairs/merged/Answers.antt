use Rattle.std.proofs.Common.{sym, subst, ap, arith, length, List, AllPairs}
use Rattle.std.proofs.lemmas.List.Sorted.{length_permutation}
use Rattle.std.proofs.lemmas.Result.{IfOk-weaker}
use Rattle.edge_profile.specs.PairCounts.{Counted}
use Rattle.edge_profile.specs.Pairs.{AreMerged, IsNotAfter}
use Rattle.edge_profile.proofs.Merging.{merged-permutation}
use Rattle.edge_profile.proofs.pairs.merged.Goals as goal

pub merged_sorted-requires-clause-few : goal.merged_sorted-requires-clause-few
merged_sorted-requires-clause-few c =
    omega (arith, c.requires, ap length c.deref.ensures.value, length_permutation _ _ c.sort_by_pair.ensures.permutation)

pub merged_sorted-requires-clause-ordered : goal.merged_sorted-requires-clause-ordered
merged_sorted-requires-clause-ordered c =
    subst (λ (said : List Counted). AllPairs IsNotAfter said) (sym c.deref.ensures.value) c.sort_by_pair.ensures.ordered

pub returns : goal.returns
returns c = IfOk-weaker c.merged_sorted.result _ _ (λ pairs merged.
    merged-permutation c.args.said.items c.sort_by_pair.new.said.items pairs.items c.sort_by_pair.ensures.permutation
    (subst (λ (said : List Counted). AreMerged said pairs.items) c.deref.ensures.value merged)) c.merged_sorted.ensures
