use Rattle.std.proofs.Common.{arith}
use Rattle.std.proofs.lemmas.Bool.{and_parts, leb-true, ltb-true}
use Rattle.std.proofs.lemmas.Grind.{common_steps}
use Rattle.rv_memory.proofs.CodeRanges.{flag_there, byte_there, never_written}
use Rattle.rv_memory.proofs.code_range.code_range.Goals as goal

pub returns-clause-fixed : goal.returns-clause-fixed
returns-clause-fixed c = grind (arith, common_steps, and_parts, leb-true, ltb-true, never_written)

pub returns-clause-runs : goal.returns-clause-runs
returns-clause-runs c = grind (arith, common_steps, and_parts, leb-true, ltb-true, flag_there)

pub returns-clause-bytes : goal.returns-clause-bytes
returns-clause-bytes c = grind (arith, common_steps, and_parts, leb-true, ltb-true, byte_there)
