-- The offsets of the entries that cover an address, by their numbers.
use Rattle.std.proofs.Common.{sym, nat_le, ◌≡◌, ◌∙◌, ◌∷◌, [], ℕ, Bool, true, false, List, refl, ap, map, filter}
use Rattle.std.specs.Prelude.{if◌then◌else◌, filter_map}
use Rattle.cover_lists.specs.declared.cover_tree.Cover.{Cover}
use Rattle.cover_lists.specs.declared.groups.RangedEntry.{RangedEntry}
use Rattle.cover_lists.specs.declared.cover_index.CoverIndex.{CoverIndex}
use Rattle.cover_lists.specs.declared.groups.Groups.{Groups}
use Rattle.cover_lists.specs.CoverIndex.{IsCoverIndex, held_numbers, place_at}
use Rattle.dw_lists.specs.declared.indexed_unit.IndexedUnit.{IndexedUnit}
use Rattle.dw_lists.specs.Faults.{ListSections}
use Rattle.list_units.specs.Gathering.{seen_kept}
use Rattle.cover_lists.specs.Groups.{group_holds, held_places}
use Rattle.range_loc_rewrite.specs.KeptRanges.{AreKept}
use Rattle.list_units.specs.RangeReading.{AreRangesOf}
use Rattle.dw_lists.specs.Ranges.{covering}
use Rattle.std.specs.List.Sorted.{IsNonDecreasing, IsPermutation}
use Rattle.std.proofs.lemmas.List.Sorted.{All-permutation, IsPermutation-sym}
use Rattle.cover_lists.specs.Bounds.{bounds_in}
use Rattle.cover_lists.proofs.AlikeAddresses.{alike_groups}
use Rattle.cover_lists.proofs.ByNumbers.{mapped_by_number}

pub places_are : (covers : List Cover) (ranged : List RangedEntry) (a : ℕ) →
    filter_map (place_at ranged) (held_numbers covers ranged a) ≡ held_places covers ranged a
places_are covers ranged a = mapped_by_number (λ (r : RangedEntry). r.place) (λ (r : RangedEntry). group_holds covers r.group a) ranged

-- For groups that contain the same addresses.
held_alike : (cs ds : List Cover) (rs : List RangedEntry) (a : ℕ) → ((g : ℕ) → group_holds cs g a ≡ group_holds ds g a) →
    held_places cs rs a ≡ held_places ds rs a
held_alike cs ds [] a same = refl
held_alike cs ds (r ∷ rs) a same =
    ap (λ (b : Bool). map (λ (r : RangedEntry). r.place) (if b then r ∷ kept cs else kept cs)) (same r.group)
    ∙ step (group_holds ds r.group a) (held_alike cs ds rs a same)
  where
    kept : List Cover → List RangedEntry
    kept covers = filter (λ (r : RangedEntry). group_holds covers r.group a) rs

    step : (b : Bool) → map (λ (r : RangedEntry). r.place) (kept cs) ≡ map (λ (r : RangedEntry). r.place) (kept ds) →
        map (λ (r : RangedEntry). r.place) (if b then r ∷ kept cs else kept cs)
        ≡ map (λ (r : RangedEntry). r.place) (if b then r ∷ kept ds else kept ds)
    step true e = ap (λ (l : List ℕ). r.place ∷ l) e
    step false e = e

seen_alike : (cs ds : List Cover) (rs : List RangedEntry) (a : ℕ) → ((g : ℕ) → group_holds cs g a ≡ group_holds ds g a) →
    seen_kept cs rs a ≡ seen_kept ds rs a
seen_alike cs ds [] a same = refl
seen_alike cs ds (r ∷ rs) a same =
    λ i. record { place = r.place; own = r.own; index = r.index; entry = r.entry; first = r.first; held = same r.group i }
    ∷ seen_alike cs ds rs a same i

pub kept_are : (s : ListSections) (groups : Groups) (ranged : List RangedEntry) (index : CoverIndex) (bounds : List ℕ)
    (indexed : List IndexedUnit) →
    AreRangesOf s groups ranged indexed → IsCoverIndex groups.covers.items ranged index → IsNonDecreasing bounds →
    IsPermutation (bounds_in groups.covers.items) bounds → AreKept s ranged groups.count index bounds indexed
kept_are s groups ranged index bounds indexed are is rising all = record {
  free = are.free;
  within = are.within;
  seen = λ a. seen_alike index.tree groups.covers.items ranged a (λ g. is.held g a) ∙ are.seen a;
  indexes = are.indexes;
  index_is = record { held = λ g a. refl; members = is.members };
  held = λ a. held_alike index.tree groups.covers.items ranged a (λ g. is.held g a) ∙ are.held a;
  rising = rising;
  apart = λ a b same g. is.held g a
      ∙ alike_groups groups.covers.items a b g
      (All-permutation (λ x. nat_le x a ≡ nat_le x b) bounds (bounds_in groups.covers.items)
      (IsPermutation-sym (bounds_in groups.covers.items) bounds all) same)
      ∙ sym (is.held g b);
}

-- The entries found by numbers are those that cover an address.
pub found_are : (s : ListSections) (ranged : List RangedEntry) (count : ℕ) (index : CoverIndex) (bounds : List ℕ)
    (indexed : List IndexedUnit) (a : ℕ)
    (numbers : List ℕ) →
    AreKept s ranged count index bounds indexed →
    numbers ≡ held_numbers index.tree ranged a → filter_map (place_at ranged) numbers ≡ covering s a
found_are s ranged count index bounds indexed a numbers are e =
    ap (filter_map (place_at ranged)) e ∙ places_are index.tree ranged a ∙ are.held a
