-- The row that matches at each exit.
use Rattle.std.proofs.Common.{rules}
use Rattle.rv_code.specs.isa.HalfRows.{C_LUI}
use Rattle.rv_decode.proofs.quadrant1.upper_immediate.Goals as goal

pub returns : goal.returns
returns c = record { found = (C_LUI, search rules, search rules); only = search rules }
