use Rattle.std.proofs.Common.{◌≡◌, take}
use Rattle.std.specs.Prelude.{filter_map}
use Rattle.cover_lists.specs.KeptLists.{items_in, expression_of}
use Rattle.cover_lists.proofs.kept_lists.numbered_copies.Given as goal

abbrev pub invariant-loop-number : goal.invariant-loop-number
invariant-loop-number l = items_in l.copies.items ≡ filter_map (expression_of l.expressions) (take l.number-index l.numbers)
