use Rattle.elf_plan.proofs.FirstRange.{reach-of}
use Rattle.elf_plan.proofs.range_tree.sorted_reaches.Goals as goal

pub returns : goal.returns
returns c =
    let held = c.in_ok-reaches.ensures in
    reach-of c.args.ranges.now _ _ _ _
    (c.in_ok-sorted.ensures.items_if_clones_equal (λ x y same. same)) c.in_ok-sort_by_start.ensures.permutation
    c.deref.ensures.value held.rising held.growing held.covered
