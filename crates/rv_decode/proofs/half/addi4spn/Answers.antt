-- The row that matches at each exit.
use Rattle.std.proofs.Common.{rules}
use Rattle.rv_code.specs.isa.HalfRows.{C_ADDI4SPN}
use Rattle.rv_decode.proofs.half.addi4spn.Goals as goal

pub returns : goal.returns
returns c = record { found = (C_ADDI4SPN, search rules, search rules); only = search rules }
