-- The row that matches at each exit.
use Rattle.std.proofs.Common.{rules}
use Rattle.rv_code.specs.isa.HalfRows.{C_LD, C_LW, C_SD, C_SW}
use Rattle.rv_decode.proofs.half.quadrant0.Goals as goal

pub returns-in-2 : goal.returns-in-2
returns-in-2 c = record { found = (C_LW, search rules, search rules); only = search rules }

pub returns-in-3 : goal.returns-in-3
returns-in-3 c = record { found = (C_LD, search rules, search rules); only = search rules }

pub returns-in-6 : goal.returns-in-6
returns-in-6 c = record { found = (C_SW, search rules, search rules); only = search rules }

pub returns-in-7 : goal.returns-in-7
returns-in-7 c = record { found = (C_SD, search rules, search rules); only = search rules }
