use Rattle.std.proofs.Common.{◌∙◌, ap}
use Rattle.std.specs.Prelude.{◌==◌}
use Rattle.std.specs.List.{list_any}
use Rattle.std.proofs.lemmas.List.Filters.{dedup_is}
use Rattle.std.proofs.lemmas.Map.Keys.{IsStrictlyIncreasing-dedup}
use Rattle.answer_runs.proofs.Ascending.{among_kept}
use Rattle.dw_unit.proofs.offsets.abbrev_offsets.Goals as goal

pub returns-clause-rising : goal.returns-clause-rising
returns-clause-rising c =
    let is = dedup_is _ _ _ c.dedup.ensures.filtered in
    rw is (IsStrictlyIncreasing-dedup _ c.sort_unstable.ensures.sorted)

pub returns-clause-named : goal.returns-clause-named
returns-clause-named c =
    let is = dedup_is _ _ _ c.dedup.ensures.filtered in
    λ q. ap (λ os. list_any (λ o. o == q) os) is ∙ among_kept q _ _ c.sort_unstable.ensures.permutation ∙ c.in_ok-offsets.ensures q
