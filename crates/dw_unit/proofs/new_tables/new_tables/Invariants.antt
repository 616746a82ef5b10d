use Rattle.std.proofs.Common.{◌≡◌, ◌<◌, ℕ, Some, nat_cmp, get_or, length, take, nat_lt}
use Rattle.std.specs.Prelude.{filter, flat_map}
use Rattle.std.specs.BTreeMap.{get}
use Rattle.dw_unit.specs.Changes.{table_bytes}
use Rattle.dw_unit.specs.CompUnits.{Sections}
use Rattle.dw_unit.specs.MapKeys.{HasKey}
use Rattle.dw_unit.specs.OwnPlaces.{AreOwn}
use Rattle.dw_unit.proofs.new_tables.new_tables.Given as goal

abbrev pub invariant-loop-offset : goal.invariant-loop-offset
invariant-loop-offset l = record {
  bytes : (s : Sections) → s.abbrevs ≡ l.tables.section.now → AreOwn s l.own →
      l.bytes.items ≡ flat_map (table_bytes s) (take l.offset-index l.offsets);
  starts : (s : Sections) → s.abbrevs ≡ l.tables.section.now → AreOwn s l.own → (q n : ℕ) → get nat_cmp l.starts q ≡ Some n →
      n ≡ length (flat_map (table_bytes s) (filter (λ o. nat_lt o q) l.offsets));
  keys : (k : ℕ) → k < l.offset-index → HasKey l.starts (get_or l.offsets k 0);
}
