use Rattle.std.proofs.Common.{◌≡◌, ◌∙◌, ◌<◌, ℕ, List, ap, sym, subst, map, length}
use Rattle.std.proofs.lemmas.List.Elements.{All-map, All-weaker}
use Rattle.cover_lists.specs.declared.groups.RangedEntry.{RangedEntry}
use Rattle.cover_lists.specs.CoverIndex.{IsCoverIndex}
use Rattle.cover_lists.specs.Groups.{AreWithin}
use Rattle.dw_lists.specs.Faults.{ListSections, list_sections_held}
use Rattle.dw_lists.specs.Tables.{list_sections}
use Rattle.list_units.specs.declared.located_attr.LocatedAttr.{LocatedAttr}
use Rattle.list_units.specs.PlaceReading.{ArePlacesOf}
use Rattle.list_units.specs.UnitLocations.{IsHeld}
use Rattle.range_loc_rewrite.specs.KeptPlaces.{ranged_of}
use Rattle.range_loc_rewrite.proofs.FoundPlaces.{places_kept}
use Rattle.range_loc_rewrite.proofs.location_lists.Places.keep.Goals as goal

pub new-requires-clause-numbered : goal.new-requires-clause-numbered
new-requires-clause-numbered c = c.requires.numbered

pub new-requires-clause-within : goal.new-requires-clause-within
new-requires-clause-within c =
    let count : ℕ = c.args.entries.groups.count in
    let lists : ℕ = length c.args.entries.kept.lists.items in
    let located : List LocatedAttr = c.args.entries.kept.located.items in
    subst (AreWithin count) (sym (c.deref-2.ensures.value ∙ c.in_ok-ranged.ensures ∙ ap (map ranged_of) c.deref.ensures.value))
    (All-map (λ (r : RangedEntry). r.group < count) ranged_of located
    (All-weaker (IsHeld count lists) (λ (l : LocatedAttr). l.group < count) (λ l h. h.0) located c.requires.held))

pub invariant_of-result : goal.invariant_of-result
invariant_of-result c =
    let e = c.args.entries in
    let same : list_sections_held c.in_ok-info.info.items c.in_ok-abbrevs.abbrevs.items c.in_ok-addr.addr.items
    c.in_ok-ranges.ranges.items c.in_ok-locations.locations.items ≡ list_sections c.args.elf.now =
    λ i. list_sections_held ((c.in_ok-info.ensures.items ∙ c.contents_of.ensures) i)
    ((c.in_ok-abbrevs.ensures.items ∙ c.contents_of-2.ensures) i) ((c.in_ok-addr.ensures.items ∙ c.contents_of-3.ensures) i)
    ((c.in_ok-ranges.ensures.items ∙ c.contents_of-4.ensures) i) ((c.in_ok-locations.ensures.items ∙ c.contents_of-5.ensures) i) in
    places_kept (list_sections_held c.in_ok-info.info.items c.in_ok-abbrevs.abbrevs.items c.in_ok-addr.addr.items
    c.in_ok-ranges.ranges.items c.in_ok-locations.locations.items) e.groups e.kept e.named.items c.in_ok-index.index
    e.indexed.items
    (subst (λ (x : ListSections). ArePlacesOf x e.groups e.kept e.named.items e.indexed.items) (sym same) c.requires)
    (subst (λ (rs : List RangedEntry). IsCoverIndex e.groups.covers.items rs c.in_ok-index.index)
    (c.deref-2.ensures.value ∙ c.in_ok-ranged.ensures ∙ ap (map ranged_of) c.deref.ensures.value) c.in_ok-index.ensures)

pub returns : goal.returns
returns c =
    let same : list_sections_held c.in_ok-info.info.items c.in_ok-abbrevs.abbrevs.items c.in_ok-addr.addr.items
    c.in_ok-ranges.ranges.items c.in_ok-locations.locations.items ≡ list_sections c.args.elf.now =
    λ i. list_sections_held ((c.in_ok-info.ensures.items ∙ c.contents_of.ensures) i)
    ((c.in_ok-abbrevs.ensures.items ∙ c.contents_of-2.ensures) i) ((c.in_ok-addr.ensures.items ∙ c.contents_of-3.ensures) i)
    ((c.in_ok-ranges.ensures.items ∙ c.contents_of-4.ensures) i) ((c.in_ok-locations.ensures.items ∙ c.contents_of-5.ensures) i) in
    same
