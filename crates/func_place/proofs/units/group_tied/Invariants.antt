use Rattle.std.proofs.Common.{◌≡◌, length}
use Rattle.func_place.specs.internal.Groups.{IsGrouped, grouping_of}
use Rattle.func_place.specs.internal.TieList.{Agrees}
use Rattle.func_place.proofs.units.group_tied.Given as goal

abbrev pub invariant-loop-a : goal.invariant-loop-a
invariant-loop-a l = (length (grouping_of l.groups).lists ≡ l.n) × IsGrouped (grouping_of l.groups)
    × Agrees l.ties l.a-index (grouping_of l.groups)
