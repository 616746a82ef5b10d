-- The row that matches at each exit.
use Rattle.std.proofs.Common.{rules}
use Rattle.rv_code.specs.isa.HalfRows.{C_ADDI16SP}
use Rattle.rv_decode.proofs.quadrant1.addi16sp.Goals as goal

pub returns : goal.returns
returns c = record { found = (C_ADDI16SP, search rules, search rules); only = search rules }
