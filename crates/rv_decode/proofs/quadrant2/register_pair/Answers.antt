-- The row that matches at each exit.
use Rattle.std.proofs.Common.{rules}
use Rattle.rv_code.specs.isa.HalfRows.{C_ADD, C_MV}
use Rattle.rv_decode.proofs.quadrant2.register_pair.Goals as goal

pub returns-then-bits-eq0 : goal.returns-then-bits-eq0
returns-then-bits-eq0 c = record { found = (C_MV, search rules, search rules); only = search rules }

pub returns-else-bits-eq0 : goal.returns-else-bits-eq0
returns-else-bits-eq0 c = record { found = (C_ADD, search rules, search rules); only = search rules }
