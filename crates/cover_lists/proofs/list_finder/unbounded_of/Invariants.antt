use Rattle.std.proofs.Common.{◌≡◌, ◌++◌, drop}
use Rattle.cover_lists.specs.ListFinder.{numbered, default_numbers}
use Rattle.cover_lists.proofs.list_finder.unbounded_of.Given as goal

abbrev pub invariant-loop-number : goal.invariant-loop-number
invariant-loop-number l = l.numbers.items ++ numbered default_numbers l.number (drop l.number l.lists) ≡ numbered default_numbers 0 l.lists
