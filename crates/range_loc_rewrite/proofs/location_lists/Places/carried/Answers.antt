use Rattle.std.proofs.Common.{◌∙◌, List, ap, subst, length}
use Rattle.std.specs.Prelude.{flat_map}
use Rattle.answer_runs.specs.AnswerRuns.{carried, AreRunsOf}
use Rattle.dw_unit.specs.CompUnits.{units}
use Rattle.cover_lists.specs.declared.kept_list.KeptList.{KeptList}
use Rattle.cover_lists.specs.ListRuns.{said_in, list_answer}
use Rattle.dw_lists.specs.Faults.{ListSections, list_sections_held}
use Rattle.list_units.specs.ReadLists.{unit_lists}
use Rattle.range_loc_rewrite.specs.PlaceRuns.{ArePlaceRuns}
use Rattle.range_loc_rewrite.proofs.PlaceRuns.{are_runs}
use Rattle.range_loc_rewrite.proofs.location_lists.Places.carried.Goals as goal

pub returns : goal.returns
returns c =
    let t = c.self.inside in
    let s : ListSections = list_sections_held t.info.items t.abbrevs.items t.addr.items t.ranges.items t.locations.items in
    let spans = c.args.map.now in
    let rs = c.in_ok-runs.runs.items in
    subst (λ (x : ListSections). ArePlaceRuns x spans rs) c.self.view_is
    (are_runs (flat_map (unit_lists s) (units s.units)) t.kept.lists.items c.self.invariant.listed spans rs
    (c.in_ok-runs.ensures.count ∙ ap length c.deref.ensures.value)
    (λ n. subst (λ (ls : List KeptList). AreRunsOf (carried (list_answer ls n) spans) (said_in rs n)) c.deref.ensures.value
    (c.in_ok-runs.ensures.each n)))
