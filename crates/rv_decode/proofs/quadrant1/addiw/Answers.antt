-- The row that matches at each exit.
use Rattle.std.proofs.Common.{rules}
use Rattle.rv_code.specs.isa.HalfRows.{C_ADDIW}
use Rattle.rv_decode.proofs.quadrant1.addiw.Goals as goal

pub returns : goal.returns
returns c = record { found = (C_ADDIW, search rules, search rules); only = search rules }
