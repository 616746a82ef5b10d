-- The kept locations give the answers of the definition.
use Rattle.std.proofs.Common.{◌≡◌, ◌∙◌, ℕ, false, List, Option, Some, None, refl, sym, ap, subst, length, map, filter}
use Rattle.std.specs.Prelude.{flat_map, option_map, slice_get}
use Rattle.std.specs.List.{range_with_len}
use Rattle.std.specs.Option.{option_map_or}
use Rattle.std.proofs.lemmas.List.{length-map}
use Rattle.std.proofs.lemmas.Option.{slice_get-map}
use Rattle.elf_image.specs.declared.elf.Elf.{Elf}
use Rattle.rb_bytes.specs.FirstFault.{IsFree}
use Rattle.dw_unit.specs.Faults.{HasDwarfFault}
use Rattle.cover_lists.specs.declared.cover_index.CoverIndex.{CoverIndex}
use Rattle.cover_lists.specs.declared.cover_tree.Cover.{Cover}
use Rattle.cover_lists.specs.declared.groups.Groups.{Groups}
use Rattle.cover_lists.specs.declared.groups.RangedEntry.{RangedEntry}
use Rattle.list_units.specs.declared.located_attr.LocatedAttr.{LocatedAttr}
use Rattle.list_units.specs.declared.located_attr.Locations.{Locations}
use Rattle.cover_lists.specs.CoverIndex.{IsCoverIndex, held_numbers}
use Rattle.dw_lists.specs.declared.named_list.NamedList.{NamedList}
use Rattle.dw_lists.specs.declared.indexed_unit.IndexedUnit.{IndexedUnit}
use Rattle.dw_lists.specs.Faults.{ListSections, location_places}
use Rattle.cover_lists.specs.Groups.{group_holds}
use Rattle.range_loc_rewrite.specs.KeptPlaces.{ranged_of, said_by_number, ArePlacesKept}
use Rattle.dw_lists.specs.ListTables.{place_says}
use Rattle.dw_lists.specs.Locations.{places_said}
use Rattle.list_units.specs.PlaceReading.{ArePlacesOf}
use Rattle.dw_lists.specs.Tables.{list_sections, place_answers}
use Rattle.list_units.specs.UnitLocations.{all_located, located_says}
use Rattle.cover_lists.proofs.ByNumbers.{listed_by_number}
use Rattle.range_loc_rewrite.proofs.FreeRanges.{answers_free}

-- The numbers of the attributes whose ranges contain an address.
numbers_are : (covers : List Cover) (located : List LocatedAttr) (a : ℕ) → held_numbers covers (map ranged_of located) a
    ≡ filter (λ k. option_map_or (λ (l : LocatedAttr). group_holds covers l.group a) (slice_get located k) false)
    (range_with_len 0 (length located))
numbers_are covers located a = λ i. filter (λ k. tested k i) (range_with_len 0 (length-map located ranged_of i))
  where
    of_option : (o : Option LocatedAttr) → option_map_or (λ (r : RangedEntry). group_holds covers r.group a) (option_map ranged_of o) false
        ≡ option_map_or (λ (l : LocatedAttr). group_holds covers l.group a) o false
    of_option None = refl
    of_option (Some l) = refl

    tested : (k : ℕ) → option_map_or (λ (r : RangedEntry). group_holds covers r.group a) (slice_get (map ranged_of located) k) false
        ≡ option_map_or (λ (l : LocatedAttr). group_holds covers l.group a) (slice_get located k) false
    tested k = ap (λ (o : Option RangedEntry). option_map_or (λ (r : RangedEntry). group_holds covers r.group a) o false)
        (slice_get-map ranged_of located k) ∙ of_option (slice_get located k)

pub found_places : (s : ListSections) (kept : Locations) (named : List NamedList) (index : CoverIndex)
    (indexed : List IndexedUnit) (a : ℕ) (numbers : List ℕ) →
    ArePlacesKept s kept named index indexed → numbers ≡ held_numbers index.tree (map ranged_of kept.located.items) a →
    flat_map (said_by_number kept a) numbers ≡ places_said s a
found_places s kept named index indexed a numbers are e =
    ap (flat_map (said_by_number kept a)) (e ∙ numbers_are index.tree kept.located.items a)
    ∙ listed_by_number (located_says kept.lists.items a) (λ (l : LocatedAttr). group_holds index.tree l.group a) kept.located.items
    ∙ are.says a

pub places_kept : (s : ListSections) (groups : Groups) (kept : Locations) (named : List NamedList) (index : CoverIndex)
    (indexed : List IndexedUnit) →
    ArePlacesOf s groups kept named indexed →
    IsCoverIndex groups.covers.items (map ranged_of kept.located.items) index → ArePlacesKept s kept named index indexed
places_kept s groups kept named index indexed are is = record {
  free = are.free;
  index_is = record { held = λ g a. refl; members = is.members };
  says = λ a. same_covers a ∙ are.says a;
  listed = are.listed;
  names = are.names;
  indexes = are.indexes;
}
  where
    same_covers : (a : ℕ) → all_located index.tree kept.lists.items kept.located.items a
        ≡ all_located groups.covers.items kept.lists.items kept.located.items a
    same_covers a = λ i. flat_map (located_says kept.lists.items a) (filter (λ (l : LocatedAttr). is.held l.group a i) kept.located.items)

pub places_free : (elf : Elf) (s : ListSections) → s ≡ list_sections elf → IsFree (HasDwarfFault (location_places s)) →
    (place_answers elf ≡ Some (place_says s)) × IsFree (HasDwarfFault (location_places (list_sections elf)))
places_free elf s same free =
    subst (λ (x : ListSections). (place_answers elf ≡ Some (place_says x))
    × IsFree (HasDwarfFault (location_places (list_sections elf)))) (sym same) (
      answers_free (location_places (list_sections elf)) (place_says (list_sections elf))
          (subst (λ (x : ListSections). IsFree (HasDwarfFault (location_places x))) same free),
      subst (λ (x : ListSections). IsFree (HasDwarfFault (location_places x))) same free,
    )
