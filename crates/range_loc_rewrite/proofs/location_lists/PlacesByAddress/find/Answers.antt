use Rattle.std.proofs.Common.{◌≡◌, ◌∙◌, ap, arith}
use Rattle.std.specs.Prelude.{flat_map}
use Rattle.answer_runs.specs.Choices.{unless_empty}
use Rattle.dw_lists.specs.Faults.{ListSections, list_sections_held}
use Rattle.range_loc_rewrite.specs.KeptPlaces.{said_by_number, ranged_of}
use Rattle.dw_lists.specs.ListTables.{place_says}
use Rattle.dw_lists.specs.Locations.{places_said, all_said}
use Rattle.range_loc_rewrite.proofs.FoundPlaces.{found_places}
use Rattle.std.proofs.Common.{map}
use Rattle.range_loc_rewrite.proofs.location_lists.PlacesByAddress.find.Goals as goal

pub returns-clause-said : goal.returns-clause-said
returns-clause-said c =
    let t = c.self.inside in
    let s : ListSections = list_sections_held t.info.items t.abbrevs.items t.addr.items t.ranges.items t.locations.items in
    let found : all_said c.in_ok-places.places ≡ places_said s c.args.a =
    c.in_ok-places.ensures ∙ ap (flat_map (said_by_number t.kept c.args.a)) c.deref.ensures.value
    ∙ found_places s t.kept t.named.items t.index t.indexed.items c.args.a c.in_ok-numbers.numbers.items c.self.invariant
    (c.in_ok-numbers.ensures t.index.tree (map ranged_of t.kept.located.items) c.self.invariant.index_is) in
    c.unless_empty.ensures ∙ ap unless_empty found ∙ ap (λ (x : ListSections). place_says x c.args.a) c.self.view_is

pub returns-clause-last : goal.returns-clause-last
returns-clause-last c = λ x from to. ap (place_says c.args.self.now) (omega (arith, from, to))
