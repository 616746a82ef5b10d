use Rattle.std.proofs.Common.{◌≡◌, ◌∙◌, List, sym, subst}
use Rattle.std.specs.List.Sorted.{IsPermutation}
use Rattle.cover_lists.specs.declared.cover_tree.Cover.{Cover}
use Rattle.cover_lists.specs.declared.groups.RangedEntry.{RangedEntry}
use Rattle.cover_lists.specs.Bounds.{bounds_in}
use Rattle.cover_lists.specs.CoverIndex.{IsCoverIndex}
use Rattle.cover_lists.specs.Groups.{AreWithin}
use Rattle.dw_lists.specs.Faults.{ListSections, list_sections_held}
use Rattle.dw_lists.specs.Tables.{list_sections}
use Rattle.list_units.specs.RangeReading.{AreRangesOf}
use Rattle.range_loc_rewrite.proofs.HeldPlaces.{kept_are}
use Rattle.range_loc_rewrite.proofs.range_lists.Ranges.keep.Goals as goal

pub new-requires-clause-numbered : goal.new-requires-clause-numbered
new-requires-clause-numbered c = c.requires.numbered

pub new-requires-clause-within : goal.new-requires-clause-within
new-requires-clause-within c = subst (AreWithin c.args.entries.groups.count) (sym c.deref.ensures.value) c.requires.within

pub invariant_of-result : goal.invariant_of-result
invariant_of-result c =
    let e = c.args.entries in
    let same : list_sections_held c.in_ok-info.info.items c.in_ok-abbrevs.abbrevs.items c.in_ok-addr.addr.items
    c.in_ok-ranges.ranges.items c.in_ok-locations.locations.items ≡ list_sections c.args.elf.now =
    λ i. list_sections_held ((c.in_ok-info.ensures.items ∙ c.contents_of.ensures) i)
    ((c.in_ok-abbrevs.ensures.items ∙ c.contents_of-2.ensures) i) ((c.in_ok-addr.ensures.items ∙ c.contents_of-3.ensures) i)
    ((c.in_ok-ranges.ensures.items ∙ c.contents_of-4.ensures) i) ((c.in_ok-locations.ensures.items ∙ c.contents_of-5.ensures) i) in
    kept_are (list_sections_held c.in_ok-info.info.items c.in_ok-abbrevs.abbrevs.items c.in_ok-addr.addr.items
    c.in_ok-ranges.ranges.items c.in_ok-locations.locations.items) e.groups e.ranged.items c.in_ok-index.index
    c.in_ok-bounds.bounds.items e.indexed.items
    (subst (λ (x : ListSections). AreRangesOf x e.groups e.ranged.items e.indexed.items) (sym same) c.requires)
    (subst (λ (rs : List RangedEntry). IsCoverIndex e.groups.covers.items rs c.in_ok-index.index) c.deref.ensures.value
    c.in_ok-index.ensures)
    c.in_ok-bounds.ensures.rising
    (subst (λ (cs : List Cover). IsPermutation (bounds_in cs) c.in_ok-bounds.bounds.items) c.deref-2.ensures.value
    c.in_ok-bounds.ensures.all)

pub returns : goal.returns
returns c =
    let same : list_sections_held c.in_ok-info.info.items c.in_ok-abbrevs.abbrevs.items c.in_ok-addr.addr.items
    c.in_ok-ranges.ranges.items c.in_ok-locations.locations.items ≡ list_sections c.args.elf.now =
    λ i. list_sections_held ((c.in_ok-info.ensures.items ∙ c.contents_of.ensures) i)
    ((c.in_ok-abbrevs.ensures.items ∙ c.contents_of-2.ensures) i) ((c.in_ok-addr.ensures.items ∙ c.contents_of-3.ensures) i)
    ((c.in_ok-ranges.ensures.items ∙ c.contents_of-4.ensures) i) ((c.in_ok-locations.ensures.items ∙ c.contents_of-5.ensures) i) in
    same
