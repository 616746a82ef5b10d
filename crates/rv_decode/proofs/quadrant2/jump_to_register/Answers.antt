-- The row that matches at each exit.
use Rattle.std.proofs.Common.{rules}
use Rattle.rv_code.specs.isa.HalfRows.{C_EBREAK, C_JALR, C_JR}
use Rattle.rv_decode.proofs.quadrant2.jump_to_register.Goals as goal

pub returns-in-0-default : goal.returns-in-0-default
returns-in-0-default c = record { found = (C_JR, search rules, search rules); only = search rules }

pub returns-in_default-eq0 : goal.returns-in_default-eq0
returns-in_default-eq0 c = record { found = (C_EBREAK, search rules, search rules); only = search rules }

pub returns-in_default : goal.returns-in_default
returns-in_default c = record { found = (C_JALR, search rules, search rules); only = search rules }
