use Rattle.std.proofs.Common.{ℕ, take}
use Rattle.std.specs.Prelude.{◌↔◌, Contains}
use Rattle.code_starts.specs.AddressSets.{IsIn}
use Rattle.code_starts.proofs.address_set.AddressSet.new.Given as goal

abbrev pub invariant-loop-address : goal.invariant-loop-address
invariant-loop-address l = (a : ℕ) →
    IsIn l.low l.marks.items l.others.items a ↔ Contains (take l.address-index l.addresses) a
