-- What a unit needs to read lists.
use Rattle.std.specs.Prelude.{◌≡◌, ℕ, List}
use Rattle.std.specs.Option.{option_map_or}
use Rattle.dw_unit.specs.declared.attribute.TheConstants.{DW_AT_addr_base}
use Rattle.dw_unit.specs.CompUnits.{Entry, Unit, base, own_entry}
use Rattle.dw_lists.specs.declared.unit_lists.UnitLists as code
use Rattle.dw_lists.specs.Lists.{Kind, base_address}

-- The offset of a unit's own entry.
abbrev pub own_place : Unit → ℕ
own_place u = option_map_or (λ (e : Entry). e.place) (own_entry u) 0

-- What a unit needs: `.debug_addr`, the bases of its address table and of its list offsets, its base address, and the
-- offset of its own entry.
pub record ReadsLists (k : Kind) (addr : List ℕ) (u : Unit) (l : code.UnitLists) : Type 0 where
  pub section : l.addresses.section.now ≡ addr
  pub addresses : l.addresses.base ≡ base DW_AT_addr_base u
  pub lists : l.lists ≡ base k.base_name u
  pub address : l.base ≡ base_address addr u
  pub own : l.own ≡ own_place u
