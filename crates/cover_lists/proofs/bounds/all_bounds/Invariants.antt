use Rattle.std.proofs.Common.{◌≡◌, take}
use Rattle.cover_lists.specs.Bounds.{bounds_in}
use Rattle.cover_lists.proofs.bounds.all_bounds.Given as goal

abbrev pub invariant-loop-cover : goal.invariant-loop-cover
invariant-loop-cover l = l.bounds.items ≡ bounds_in (take l.cover-index l.covers)
