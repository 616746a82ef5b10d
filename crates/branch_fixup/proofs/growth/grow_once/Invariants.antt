use Rattle.std.proofs.Common.{◌≡◌, ℕ, ◌<◌, true}
use Rattle.std.specs.Prelude.{MatchBool, map, sum_by}
use Rattle.branch_fixup.specs.Endings.{end_of_form}
use Rattle.branch_fixup.specs.Growth.{left_of, is_enough, form_at}
use Rattle.branch_fixup.proofs.Rounds.{IsRound}
use Rattle.branch_fixup.proofs.growth.grow_once.Given as goal

abbrev pub invariant-loop-i : goal.invariant-loop-i
invariant-loop-i l = IsRound l.block_ends l.initial.forms l.forms l.i
    × MatchBool l.grew (sum_by left_of l.forms < sum_by left_of l.initial.forms)
    ((l.forms ≡ l.initial.forms) × ((k : ℕ) → k < l.i → is_enough l.block_ends l.initial.forms k
    (form_at l.initial.forms k) ≡ true))
    × (map end_of_form l.forms ≡ map end_of_form l.initial.forms)
