use Rattle.std.proofs.Common.{◌-◌, drop}
use Rattle.cfi_rows.specs.KeptTables.{AreKept}
use Rattle.cfi_rows.proofs.entries.read_cies.Given as goal

abbrev pub invariant-loop-count : goal.invariant-loop-count
invariant-loop-count l = AreKept l.fn.debug l.fn.address (drop (l.count-end - l.count) l.fn.entries) l.cies
