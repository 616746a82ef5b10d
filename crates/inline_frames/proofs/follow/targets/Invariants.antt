use Rattle.std.proofs.Common.{ℕ, nat_cmp, take}
use Rattle.std.specs.Prelude.{◌≡◌}
use Rattle.std.specs.BTreeSet.{contains}
use Rattle.std.specs.List.{list_any}
use Rattle.inline_frames.specs.Following.{refers_to}
use Rattle.inline_frames.proofs.follow.targets.Given as goal

abbrev pub invariant-loop-naming : goal.invariant-loop-naming
invariant-loop-naming l = (q : ℕ) → contains nat_cmp l.set q ≡ list_any (refers_to q) (take l.naming-index l.namings)
