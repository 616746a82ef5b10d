use Rattle.std.proofs.lemmas.Cmp.{nat_list_cmp_total}
use Rattle.std.proofs.lemmas.List.Sorted.{ranks_by, sorted_far}
use Rattle.std.specs.Cmp.Lexicographic.{slice_cmp}
use Rattle.std.specs.Ordering.{is_lt, nat_cmp}
use Rattle.edge_profile.specs.NameEnds.{BackwardName}
use Rattle.edge_profile.proofs.name_ends.NameEnds.new.Goals as goal

pub invariant_of-result : goal.invariant_of-result
invariant_of-result c = record {
  ordered = λ i j d le lt.
      sorted_far (λ (x y : BackwardName). is_lt (slice_cmp nat_cmp x.items y.items))
      (ranks_by nat_list_cmp_total (λ (n : BackwardName). n.items)) _ c.in_ok-sort.ensures.sorted i j d le lt;
}
