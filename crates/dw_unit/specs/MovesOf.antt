-- The moves that the struct `EntryMoves` has.
use Rattle.std.specs.Prelude.{◌≡◌, ℕ}
use Rattle.std.specs.BTreeMap.{get}
use Rattle.std.specs.Ordering.{nat_cmp}
use Rattle.dw_unit.specs.declared.entry_moves.EntryMoves.{EntryMoves}
use Rattle.dw_unit.specs.EntryMoves as moves

-- `m` are the moves of the struct `x`.
pub record AreMovesIn (m : moves.Moves) (x : EntryMoves) : Type 0 where
  pub spans : m.spans ≡ x.map.now
  pub lists : m.lists ≡ x.lists
  pub call_end : (a : ℕ) → m.call_end a ≡ get nat_cmp x.call_ends a
