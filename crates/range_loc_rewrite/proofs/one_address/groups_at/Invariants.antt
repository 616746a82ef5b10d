use Rattle.std.proofs.Common.{◌≡◌, ℕ, nat_cmp, take}
use Rattle.std.specs.BTreeSet.{contains}
use Rattle.cover_lists.specs.Groups.{group_holds}
use Rattle.range_loc_rewrite.proofs.one_address.groups_at.Given as goal

abbrev pub invariant-loop-cover : goal.invariant-loop-cover
invariant-loop-cover l = (g : ℕ) → contains nat_cmp l.found g ≡ group_holds (take l.cover-index l.covers) g l.a
