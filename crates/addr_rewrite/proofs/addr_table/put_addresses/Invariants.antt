use Rattle.std.proofs.Common.{◌≡◌, ◌≤◌, ◌+◌, ◌-◌, ◌*◌, ◌++◌, List, length, drop}
use Rattle.dw_unit.specs.Changes.{Patch, address_patches, patched}
use Rattle.dw_unit.specs.EntryMoves.{Moves}
use Rattle.addr_rewrite.proofs.addr_table.put_addresses.Given as goal

abbrev pub invariant-addresses : goal.invariant-addresses
invariant-addresses l = record {
  put : (m : Moves) (ps : List Patch) → m.spans ≡ l.map →
      l.out.items ++ patched l.to (address_patches m (l.count-end - l.count) l.at l.left ++ ps) (drop l.to l.section)
      ≡ l.fn.out.items ++ patched l.fn.from (address_patches m (l.count-end) l.fn.place l.fn.addresses ++ ps) (drop l.fn.from l.section);
  behind : l.to ≤ l.at;
  place : l.at + length l.left ≡ l.fn.place + length l.fn.addresses;
  enough : 8 * (l.count-end - l.count) ≤ length l.left;
}
