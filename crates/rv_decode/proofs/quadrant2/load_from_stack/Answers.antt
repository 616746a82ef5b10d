-- The row that matches at each exit.
use Rattle.std.proofs.Common.{rules}
use Rattle.rv_code.specs.isa.HalfRows.{C_LDSP, C_LWSP}
use Rattle.rv_decode.proofs.quadrant2.load_from_stack.Goals as goal

pub returns-then-bits-eq2 : goal.returns-then-bits-eq2
returns-then-bits-eq2 c = record { found = (C_LWSP, search rules, search rules); only = search rules }

pub returns-else-bits-eq2 : goal.returns-else-bits-eq2
returns-else-bits-eq2 c = record { found = (C_LDSP, search rules, search rules); only = search rules }
