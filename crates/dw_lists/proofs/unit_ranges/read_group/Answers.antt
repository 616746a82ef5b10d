use Rattle.std.proofs.Common.{◌∙◌, List, Some, ap, sym, map}
use Rattle.std.specs.Global.{Vec}
use Rattle.std.specs.Prelude.{option_map}
use Rattle.cover_lists.specs.declared.list_place.Place.{Place}
use Rattle.cover_lists.specs.Located.{Located}
use Rattle.cover_lists.specs.ListPlaces.{located_of}
use Rattle.dw_lists.proofs.RangeLists.{new_group}
use Rattle.dw_lists.proofs.unit_ranges.read_group.Goals as goal

pub returns-in_ok-group-in-Some : goal.returns-in_ok-group-in-Some
returns-in_ok-group-in-Some c = λ s u b r n.
    let ls : List Located = map located_of c.deref.result.now in
    new_group s u c.args.section.bytes.now c.args.at c.args.groups.now c.keep_group.new.groups c.in_ok-group-in-Some.group ls b
    (ap (λ (l : List Place). Some (map located_of l)) c.deref.ensures.value
    ∙ ap (option_map (λ (v : Vec Place). map located_of v.items)) (sym c.in-Some.is) ∙ c.in_ok-places.ensures s.units.addr u r) n
    c.in_ok-group-in-Some.ensures.number c.in_ok-group-in-Some.ensures.count c.in_ok-group-in-Some.ensures.covers
    c.in_ok-group-in-Some.ensures.firsts
