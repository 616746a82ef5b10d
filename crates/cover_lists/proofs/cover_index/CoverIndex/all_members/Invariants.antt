use Rattle.std.proofs.Common.{◌≡◌, take}
use Rattle.std.specs.Prelude.{flat_map}
use Rattle.cover_lists.specs.CoverIndex.{members_in}
use Rattle.cover_lists.proofs.cover_index.CoverIndex.all_members.Given as goal

abbrev pub invariant-loop-group : goal.invariant-loop-group
invariant-loop-group l = l.all.items ≡ flat_map (members_in l.self.members.items) (take l.group-index l.groups)
