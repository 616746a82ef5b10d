use Rattle.std.proofs.Common.{◌≡◌, take}
use Rattle.cover_lists.specs.KeptLists.{items_in}
use Rattle.cover_lists.proofs.kept_lists.copies_of.Given as goal

abbrev pub invariant-loop-expression : goal.invariant-loop-expression
invariant-loop-expression l = items_in l.copies.items ≡ items_in (take l.expression-index l.expressions)
