use Rattle.std.proofs.Common.{◌≡◌, ◌==◌, ℕ, length, take}
use Rattle.std.specs.List.{list_any}
use Rattle.cover_lists.specs.CoverIndex.{members_in, is_member}
use Rattle.cover_lists.proofs.cover_index.members_of.Given as goal

abbrev pub invariant-loop-number : goal.invariant-loop-number
invariant-loop-number l =
    (length l.members.items ≡ l.count)
    × ((g k : ℕ) → list_any (λ m. m == k) (members_in l.members.items g) ≡ is_member (take l.number l.ranged) g k)
