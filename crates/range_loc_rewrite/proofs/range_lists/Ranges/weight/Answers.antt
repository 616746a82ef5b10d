use Rattle.std.proofs.Common.{◌∙◌, ◌+◌, ◌-◌, ◌*◌, ◌^◌, ◌<◌, ℕ, List, ap, sym, subst, length, min}
use Rattle.std.specs.Prelude.{sum_by}
use Rattle.std.specs.List.Sorted.{IsNonDecreasing}
use Rattle.answer_runs.specs.AnswerRuns.{carried, AreRunsOf}
use Rattle.answer_runs.specs.Weights.{run_weight}
use Rattle.cover_lists.specs.declared.cover_tree.Cover.{Cover}
use Rattle.cover_lists.specs.GroupRuns.{AreApart, held_by, runs_in}
use Rattle.dw_lists.specs.declared.indexed_unit.IndexedUnit.{IndexedUnit}
use Rattle.dw_lists.specs.Faults.{ListSections, list_sections_held}
use Rattle.dw_lists.specs.IndexedUnits.{table_weight}
use Rattle.dw_lists.specs.Lists.{ranges_kind}
use Rattle.dw_lists.specs.Weights.{IsRangesWeight, index_weights}
use Rattle.range_loc_rewrite.proofs.RangeWeights.{indexes_weight, kept_weight, weights_joined}
use Rattle.range_loc_rewrite.proofs.range_lists.Ranges.weight.Goals as goal

pub carried_groups-requires-clause-rising : goal.carried_groups-requires-clause-rising
carried_groups-requires-clause-rising c =
    subst (λ (bs : List ℕ). IsNonDecreasing bs) (sym c.deref.ensures.value) c.self.invariant.rising

pub carried_groups-requires-clause-apart : goal.carried_groups-requires-clause-apart
carried_groups-requires-clause-apart c =
    let t = c.self.inside in
    subst (λ (cs : List Cover). AreApart c.deref.result.now cs) (sym c.tree.ensures)
    (subst (λ (bs : List ℕ). AreApart bs t.index.tree) (sym c.deref.ensures.value) c.self.invariant.apart)

pub returns : goal.returns
returns c =
    let t = c.self.inside in
    let s : ListSections = list_sections_held t.info.items t.abbrevs.items t.addr.items t.ranges.items t.locations.items in
    let spans = c.args.map.now in
    let lists = c.in_ok-lists.lists.items in
    let offsets : ℕ = c.tables_weight.result in
    let sum : ℕ = sum_by (λ r. run_weight * length (runs_in lists r.group)) t.ranged.items in
    let each : (g : ℕ) → g < t.count → AreRunsOf (carried (held_by t.index.tree g) spans) (runs_in lists g) =
    λ g below.
    subst (λ (cs : List Cover). AreRunsOf (carried (held_by cs g) spans) (runs_in lists g)) c.tree.ensures
    (c.in_ok-lists.ensures.each g below) in
    let weighed : IsRangesWeight s spans (index_weights ranges_kind.index_form s + sum) =
    kept_weight s spans t.ranged.items t.count t.index t.bounds.items t.indexed.items c.self.invariant lists each in (
      index_weights ranges_kind.index_form s + sum,
      subst (λ (x : ListSections). IsRangesWeight x spans (index_weights ranges_kind.index_form s + sum)) c.self.view_is weighed,
      weights_joined c.saturating_add.result sum offsets (index_weights ranges_kind.index_form s) (2 ^ 64 - 1)
          (c.saturating_add.ensures ∙ ap (λ (n : ℕ). min (n + offsets) (2 ^ 64 - 1)) c.runs_weight.ensures
          ∙ (λ i. min (min (sum_by (λ r. run_weight * length (runs_in (c.deref-3.ensures.value i) r.group)) (c.deref-2.ensures.value i))
          (2 ^ 64 - 1)
          + offsets) (2 ^ 64 - 1)))
          (indexes_weight ranges_kind s.units t.indexed.items offsets c.self.invariant.indexes
          (c.tables_weight.ensures ∙ ap (λ (us : List IndexedUnit). min (sum_by table_weight us) (2 ^ 64 - 1)) c.deref-4.ensures.value)),
    )
