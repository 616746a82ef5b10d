-- The row that matches at each exit.
use Rattle.std.proofs.Common.{rules}
use Rattle.rv_code.specs.isa.HalfRows.{C_SDSP, C_SLLI, C_SWSP}
use Rattle.rv_decode.proofs.quadrant2.quadrant2.Goals as goal

pub returns-in-0 : goal.returns-in-0
returns-in-0 c = record { found = (C_SLLI, search rules, search rules); only = search rules }

pub returns-in-6 : goal.returns-in-6
returns-in-6 c = record { found = (C_SWSP, search rules, search rules); only = search rules }

pub returns-in-7 : goal.returns-in-7
returns-in-7 c = record { found = (C_SDSP, search rules, search rules); only = search rules }
