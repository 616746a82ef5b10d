-- The starts of instructions as a set of addresses.
use Rattle.std.specs.Prelude.{◌↔◌, ℕ, ◌<◌, ◌^◌, List, Contains, slice_index}
use Rattle.code_starts.specs.AddressSets.{IsIn}
use Rattle.code_starts.specs.declared.address_set.AddressSet.{AddressSet}

-- The set has the members of a list, which fit 64 bits.
pub record IsSetOf (set : AddressSet) (members : List ℕ) : Type 0 where
  pub low : (k : ℕ) → slice_index members k < 2 ^ 64
  pub same : (a : ℕ) → IsIn set.low set.marks.items set.others.items a ↔ Contains members a
