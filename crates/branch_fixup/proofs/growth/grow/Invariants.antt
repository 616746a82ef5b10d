use Rattle.std.specs.Prelude.{◌≡◌, map, sum_by}
use Rattle.branch_fixup.specs.Endings.{end_of_form}
use Rattle.branch_fixup.specs.Growth.{AreGrown, left_of}
use Rattle.branch_fixup.proofs.growth.grow.Given as goal

abbrev pub invariant-loop-places : goal.invariant-loop-places
invariant-loop-places l = AreGrown l.block_ends l.forms × (map end_of_form l.forms ≡ map end_of_form l.initial.forms)

abbrev pub decreases-loop-places : goal.decreases-loop-places
decreases-loop-places l = sum_by left_of l.forms
