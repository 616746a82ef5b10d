use Rattle.std.proofs.Common.{◌≡◌, take}
use Rattle.std.specs.Prelude.{filter_map}
use Rattle.cover_lists.specs.KeptLists.{items_in, expression_of}
use Rattle.cover_lists.proofs.kept_lists.are_expressions.Given as goal

abbrev pub invariant-loop-i : goal.invariant-loop-i
invariant-loop-i l = items_in (take l.i l.xs) ≡ filter_map (expression_of l.expressions) (take l.i l.numbers)
