-- The row that matches at each exit.
use Rattle.std.proofs.Common.{rules}
use Rattle.rv_code.specs.isa.HalfRows.{C_ANDI, C_SRAI, C_SRLI}
use Rattle.rv_decode.proofs.quadrant1.arithmetic.Goals as goal

pub returns-in-0 : goal.returns-in-0
returns-in-0 c = record { found = (C_SRLI, search rules, search rules); only = search rules }

pub returns-in-1 : goal.returns-in-1
returns-in-1 c = record { found = (C_SRAI, search rules, search rules); only = search rules }

pub returns-in-2 : goal.returns-in-2
returns-in-2 c = record { found = (C_ANDI, search rules, search rules); only = search rules }
