use Rattle.std.proofs.Common.{◌≡◌, ◌+◌, ℕ, Some}
use Rattle.std.specs.Prelude.{◌&&◌, nat_le, nat_lt, if◌then◌else◌}
use Rattle.sym_machine.specs.declared.value.MemoryByte.TheVariants.{Hidden}
use Rattle.sym_machine.specs.internal.SpecialBytes.{special}
use Rattle.sym_machine.proofs.other_bytes.OtherBytes.hide.Given as goal

abbrev pub invariant-loop-index : goal.invariant-loop-index
invariant-loop-index l = (q : ℕ) →
    special l.self q ≡ (if nat_le l.start q && nat_lt q (l.start + l.index) then Some Hidden else special l.initial.self q)
