use Rattle.elf_image.proofs.LoadLemmas.{segment_of-order, LoadOnce-order, All-order}
use Rattle.elf_image.proofs.image.segments_by_address.Goals as goal

pub returns-clause-loaded : goal.returns-clause-loaded
returns-clause-loaded c =
    All-order c.args.segments.now c.in_ok-loads.loads.items _ c.in_ok-loads.ensures c.in_ok-sort_by_address.ensures.permutation

pub returns-clause-once : goal.returns-clause-once
returns-clause-once c =
    LoadOnce-order c.args.segments.now c.in_ok-loads.loads.items _ c.requires c.in_ok-loads.ensures
    c.in_ok-sort_by_address.ensures.permutation

pub returns-clause-same : goal.returns-clause-same
returns-clause-same c =
    segment_of-order c.args.segments.now c.in_ok-loads.loads.items _ c.requires c.in_ok-loads.ensures
    c.in_ok-sort_by_address.ensures.permutation
