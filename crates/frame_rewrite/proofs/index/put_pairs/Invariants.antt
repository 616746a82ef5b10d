use Rattle.std.proofs.Common.{◌≡◌, ◌++◌, drop, flat_map}
use Rattle.frame_rewrite.proofs.IndexBack.{pairs_of}
use Rattle.frame_rewrite.proofs.index.put_pairs.Given as goal

abbrev pub invariant-loop-fde : goal.invariant-loop-fde
invariant-loop-fde l =
    l.out.items ++ flat_map (pairs_of l.at l.header_at) (drop l.fde-index l.fdes)
    ≡ l.fn.out.items ++ flat_map (pairs_of l.at l.header_at) l.fdes
