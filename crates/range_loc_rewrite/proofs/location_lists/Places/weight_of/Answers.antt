use Rattle.std.proofs.Common.{◌∙◌, ◌+◌, ◌-◌, ◌^◌, ℕ, List, ap, sym, subst, min}
use Rattle.std.specs.Prelude.{flat_map, sum_by}
use Rattle.dw_unit.specs.CompUnits.{units}
use Rattle.cover_lists.specs.ListWeights.{total_weight}
use Rattle.dw_lists.specs.declared.indexed_unit.IndexedUnit.{IndexedUnit}
use Rattle.dw_lists.specs.Faults.{ListSections, list_sections_held}
use Rattle.dw_lists.specs.IndexedUnits.{table_weight}
use Rattle.dw_lists.specs.Lists.{locations_kind}
use Rattle.dw_lists.specs.Weights.{IsPlacesWeight, index_weights}
use Rattle.list_units.specs.ReadLists.{unit_lists}
use Rattle.range_loc_rewrite.specs.PlaceRuns.{ArePlaceRuns}
use Rattle.range_loc_rewrite.proofs.PlaceRunWeights.{total_is}
use Rattle.range_loc_rewrite.proofs.PlaceWeights.{places_weight}
use Rattle.range_loc_rewrite.proofs.RangeWeights.{indexes_weight, weights_joined}
use Rattle.range_loc_rewrite.proofs.location_lists.Places.weight_of.Goals as goal

pub returns : goal.returns
returns c = λ spans are_said.
    let t = c.self.inside in
    let s : ListSections = list_sections_held t.info.items t.abbrevs.items t.addr.items t.ranges.items t.locations.items in
    let rs = c.args.runs.now in
    let are : ArePlaceRuns s spans rs = subst (λ (x : ListSections). ArePlaceRuns x spans rs) (sym c.self.view_is) are_said in
    let offsets : ℕ = c.tables_weight.result in
    let n : ℕ = total_weight rs in
    let weighed : IsPlacesWeight s spans (index_weights locations_kind.index_form s + n) =
    places_weight s spans n c.self.invariant.free (total_is spans (flat_map (unit_lists s) (units s.units)) rs are) in (
      index_weights locations_kind.index_form s + n,
      subst (λ (x : ListSections). IsPlacesWeight x spans (index_weights locations_kind.index_form s + n)) c.self.view_is weighed,
      weights_joined c.saturating_add.result n offsets (index_weights locations_kind.index_form s) (2 ^ 64 - 1)
          (c.saturating_add.ensures ∙ ap (λ (m : ℕ). min (m + offsets) (2 ^ 64 - 1)) c.runs_weight.ensures)
          (indexes_weight locations_kind s.units t.indexed.items offsets c.self.invariant.indexes
          (c.tables_weight.ensures ∙ ap (λ (us : List IndexedUnit). min (sum_by table_weight us) (2 ^ 64 - 1)) c.deref.ensures.value)),
    )
