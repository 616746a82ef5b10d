use Rattle.std.proofs.Common.{◌≡◌, ◌∙◌, ◌++◌, ◌∷◌, [], List, ℕ, Some, ap, sym, subst, map}
use Rattle.std.specs.Global.{Vec}
use Rattle.std.specs.Prelude.{option_map}
use Rattle.cover_lists.specs.declared.kept_list.KeptList.{KeptList}
use Rattle.cover_lists.specs.declared.list_place.Place.{Place}
use Rattle.cover_lists.specs.KeptLists.{all_say}
use Rattle.dw_lists.specs.KnownLists.{location_list}
use Rattle.cover_lists.specs.ListPlaces.{located_of}
use Rattle.dw_lists.specs.Lists.{locations_kind, list_at}
use Rattle.cover_lists.specs.Located.{Located}
use Rattle.list_units.specs.ReadLists.{read_at}
use Rattle.list_units.proofs.ReadListFacts.{read_one, read_none}
use Rattle.list_units.proofs.unit_locations.read_number.Goals as goal

pub returns-in_ok-push-in-Some-clause-says : goal.returns-in_ok-push-in-Some-clause-says
returns-in_ok-push-in-Some-clause-says c = λ s u r.
    let ls : List Located = map located_of c.deref-in-Some.result.now in
    let said : location_list s u c.args.at ≡ Some ls =
    ap (λ (l : List ℕ). list_at locations_kind l s.units.addr u c.args.at) (sym r.section)
    ∙ sym (ap (λ (l : List Place). Some (map located_of l)) c.deref-in-Some.ensures.value
    ∙ ap (option_map (λ (v : Vec Place). map located_of v.items)) (sym c.in-Some.is) ∙ c.in_ok-places.ensures s.units.addr u r.lists) in
    subst (λ (l : List KeptList). all_say l ≡ all_say c.args.lists.now.items ++ read_at s u (c.args.at ∷ []))
    (sym c.in_ok-push-in-Some.ensures.items)
    (read_one s u c.args.lists.now.items c.in_ok-list-in-Some.list ls c.args.at said c.in_ok-list-in-Some.ensures)

pub returns-in-None-clause-says : goal.returns-in-None-clause-says
returns-in-None-clause-says c = λ s u r.
    read_none s u c.args.lists.now.items c.args.at
    (ap (λ (l : List ℕ). list_at locations_kind l s.units.addr u c.args.at) (sym r.section)
    ∙ sym (c.in_ok-places.ensures s.units.addr u r.lists)
    ∙ ap (option_map (λ (v : Vec Place). map located_of v.items)) c.in-None.is)
