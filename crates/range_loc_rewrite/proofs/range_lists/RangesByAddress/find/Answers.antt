use Rattle.std.proofs.Common.{◌≡◌, ◌∙◌, ap, arith}
use Rattle.std.specs.Prelude.{filter_map}
use Rattle.answer_runs.specs.Choices.{unless_empty}
use Rattle.cover_lists.specs.CoverIndex.{place_at}
use Rattle.dw_lists.specs.Faults.{ListSections, list_sections_held}
use Rattle.dw_lists.specs.ListTables.{range_says}
use Rattle.dw_lists.specs.Ranges.{covering}
use Rattle.range_loc_rewrite.proofs.HeldPlaces.{found_are}
use Rattle.range_loc_rewrite.proofs.range_lists.RangesByAddress.find.Goals as goal

pub returns-clause-said : goal.returns-clause-said
returns-clause-said c =
    let t = c.self.inside in
    let s : ListSections = list_sections_held t.info.items t.abbrevs.items t.addr.items t.ranges.items t.locations.items in
    let found : c.in_ok-places.places.items ≡ covering s c.args.a =
    c.in_ok-places.ensures ∙ (λ i. filter_map (place_at (c.deref.ensures.value i)) (c.deref-2.ensures.value i))
    ∙ found_are s t.ranged.items t.count t.index t.bounds.items t.indexed.items c.args.a c.in_ok-numbers.numbers.items c.self.invariant
    (c.in_ok-numbers.ensures t.index.tree t.ranged.items c.self.invariant.index_is) in
    c.unless_empty.ensures ∙ ap unless_empty found ∙ ap (λ (x : ListSections). range_says x c.args.a) c.self.view_is

pub returns-clause-last : goal.returns-clause-last
returns-clause-last c = λ x from to. ap (range_says c.args.self.now) (omega (arith, from, to))
