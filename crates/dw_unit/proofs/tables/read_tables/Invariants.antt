use Rattle.std.proofs.Common.{◌<◌, ℕ, get_or}
use Rattle.dw_unit.specs.MapKeys.{HasKey}
use Rattle.dw_unit.specs.TableStarts.{AreStarts}
use Rattle.dw_unit.proofs.tables.read_tables.Given as goal

abbrev pub invariant-loop-offset : goal.invariant-loop-offset
invariant-loop-offset l = record {
  right : AreStarts l.fn.section l.read.items l.starts;
  keys : (k : ℕ) → k < l.offset-index → HasKey l.starts (get_or l.offsets k 0);
}
