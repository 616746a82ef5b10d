-- The row that matches at each exit.
use Rattle.std.proofs.Common.{rules}
use Rattle.rv_code.specs.isa.HalfRows.{C_ADDW, C_AND, C_OR, C_SUB, C_SUBW, C_XOR}
use Rattle.rv_decode.proofs.quadrant1.arithmetic_pair.Goals as goal

pub returns-in-0-eq0 : goal.returns-in-0-eq0
returns-in-0-eq0 c = record { found = (C_SUB, search rules, search rules); only = search rules }

pub returns-in-0-eq1 : goal.returns-in-0-eq1
returns-in-0-eq1 c = record { found = (C_XOR, search rules, search rules); only = search rules }

pub returns-in-0-eq2 : goal.returns-in-0-eq2
returns-in-0-eq2 c = record { found = (C_OR, search rules, search rules); only = search rules }

pub returns-in-0-eq3 : goal.returns-in-0-eq3
returns-in-0-eq3 c = record { found = (C_AND, search rules, search rules); only = search rules }

pub returns-in-1-eq0 : goal.returns-in-1-eq0
returns-in-1-eq0 c = record { found = (C_SUBW, search rules, search rules); only = search rules }

pub returns-in-1-eq1 : goal.returns-in-1-eq1
returns-in-1-eq1 c = record { found = (C_ADDW, search rules, search rules); only = search rules }
