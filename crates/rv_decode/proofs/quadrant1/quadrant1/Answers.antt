-- The row that matches at each exit.
use Rattle.std.proofs.Common.{rules, arith}
use Rattle.std.proofs.lemmas.Grind.{common_steps}
use Rattle.rv_code.specs.isa.HalfRows.{C_ADDI, C_BEQZ, C_BNEZ, C_J, C_LI}
use Rattle.rv_decode.proofs.quadrant1.quadrant1.Goals as goal

pub returns-in-0 : goal.returns-in-0
returns-in-0 c = record { found = (C_ADDI, search rules, search rules); only = search rules }

pub returns-in-2 : goal.returns-in-2
returns-in-2 c = record { found = (C_LI, search rules, search rules); only = search rules }

pub returns-in-5 : goal.returns-in-5
returns-in-5 c = record { found = (C_J, search rules, search rules); only = grind (arith, common_steps) }

pub returns-in-6 : goal.returns-in-6
returns-in-6 c = record { found = (C_BEQZ, search rules, search rules); only = search rules }

pub returns-in-7 : goal.returns-in-7
returns-in-7 c = record { found = (C_BNEZ, search rules, search rules); only = search rules }
