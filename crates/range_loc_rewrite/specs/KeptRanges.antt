-- The fields that are kept of sections of ranges without a fault.
use Rattle.std.specs.Prelude.{◌≡◌, ℕ, List, All, nat_le}
use Rattle.std.specs.List.Sorted.{IsNonDecreasing}
use Rattle.rb_bytes.specs.FirstFault.{IsFree}
use Rattle.dw_unit.specs.Faults.{HasDwarfFault}
use Rattle.cover_lists.specs.declared.cover_index.CoverIndex.{CoverIndex}
use Rattle.cover_lists.specs.declared.groups.RangedEntry.{RangedEntry}
use Rattle.cover_lists.specs.CoverIndex.{IsCoverIndex}
use Rattle.dw_lists.specs.Faults.{ListSections, range_places}
use Rattle.list_units.specs.Gathering.{seen_kept}
use Rattle.cover_lists.specs.Groups.{AreWithin, group_holds, held_places}
use Rattle.dw_lists.specs.Lists.{ranges_kind}
use Rattle.list_units.specs.RangeReading.{all_seen}
use Rattle.dw_lists.specs.Ranges.{covering}
use Rattle.dw_lists.specs.declared.indexed_unit.IndexedUnit.{IndexedUnit}
use Rattle.dw_lists.specs.IndexedUnits.{indexed_units}

-- The entries with ranges, in `count` groups; the index that finds those that cover an address; `bounds`, such that all
-- addresses between two of them are covered by the same entries; and the list indexes that units use.
pub record AreKept (s : ListSections) (ranged : List RangedEntry) (count : ℕ) (index : CoverIndex) (bounds : List ℕ)
    (indexed : List IndexedUnit) :
    Type 0 where
  pub free : IsFree (HasDwarfFault (range_places s))
  pub index_is : IsCoverIndex index.tree ranged index
  pub within : AreWithin count ranged
  pub seen : (a : ℕ) → seen_kept index.tree ranged a ≡ all_seen s a
  pub held : (a : ℕ) → held_places index.tree ranged a ≡ covering s a
  pub indexes : indexed ≡ indexed_units ranges_kind s.units
  pub rising : IsNonDecreasing bounds
  pub apart : (a b : ℕ) → All (λ x. nat_le x a ≡ nat_le x b) bounds → (g : ℕ) →
      group_holds index.tree g a ≡ group_holds index.tree g b
