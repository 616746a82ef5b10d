use Rattle.std.proofs.Common.{◌≡◌, ℕ, [], length}
use Rattle.cover_lists.specs.CoverIndex.{members_in}
use Rattle.cover_lists.proofs.cover_index.no_members.Given as goal

abbrev pub invariant-loop-number : goal.invariant-loop-number
invariant-loop-number l = (length l.members.items ≡ l.number) × ((group : ℕ) → members_in l.members.items group ≡ [])
