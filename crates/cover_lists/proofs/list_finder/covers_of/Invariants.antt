use Rattle.std.proofs.Common.{◌≡◌, ◌++◌, drop}
use Rattle.cover_lists.specs.ListFinder.{numbered, list_covers}
use Rattle.cover_lists.proofs.list_finder.covers_of.Given as goal

abbrev pub invariant-loop-number : goal.invariant-loop-number
invariant-loop-number l = l.covers.items ++ numbered list_covers l.number (drop l.number l.lists) ≡ numbered list_covers 0 l.lists
