use Rattle.std.proofs.Common.{nat_cmp, take}
use Rattle.std.specs.Prelude.{◌≡◌, map}
use Rattle.std.specs.BTreeMap.{get}
use Rattle.inline_frames.specs.Following.{followed_by}
use Rattle.inline_frames.proofs.follow.all_followed.Given as goal

abbrev pub invariant-loop-naming : goal.invariant-loop-naming
invariant-loop-naming l = l.next.items ≡ map (followed_by (get nat_cmp l.found)) (take l.naming-index l.namings)
