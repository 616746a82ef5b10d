-- The contents of sets of addresses, and the moves that they watch.
use Rattle.std.specs.Prelude.{◌≡◌, ◌<◌, ◌≤◌, ◌+◌, ◌-◌, ◌&&◌, ℕ, Bool, false, nat_le, length, slice_index_or}
use Rattle.edge_record.specs.Moves.{Move}
use Rattle.edge_record.specs.declared.address_set.AddressSet.{AddressSet}
use Rattle.edge_record.specs.declared.watched.Watched.{Watched}

abbrev pub in_set : AddressSet → ℕ → Bool
in_set set a = nat_le set.low a && slice_index_or set.marks.items (a - set.low) false

-- an address is in the set's range
pub record HasRoomFor (set : AddressSet) (a : ℕ) : Type 0 where
  pub from : set.low ≤ a
  pub below : a < set.low + length set.marks.items

-- two sets have the same range
pub record HaveSameRoom (old new : AddressSet) : Type 0 where
  pub low : new.low ≡ old.low
  pub size : length new.marks.items ≡ length old.marks.items

abbrev pub watches : Watched → Move → Bool
watches watched m = in_set watched.sources m.0 && in_set watched.code m.1
