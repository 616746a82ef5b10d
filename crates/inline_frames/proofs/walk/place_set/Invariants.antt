use Rattle.std.proofs.Common.{ℕ, nat_cmp, take}
use Rattle.std.specs.Prelude.{◌≡◌, ◌==◌}
use Rattle.std.specs.BTreeSet.{contains}
use Rattle.std.specs.List.{list_any}
use Rattle.inline_frames.proofs.walk.place_set.Given as goal

abbrev pub invariant-loop-place : goal.invariant-loop-place
invariant-loop-place l = (q : ℕ) → contains nat_cmp l.set q ≡ list_any (λ m. m == q) (take l.place-index l.places)
