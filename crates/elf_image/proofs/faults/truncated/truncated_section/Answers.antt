use Rattle.std.proofs.Common.{arith}
use Rattle.elf_image.proofs.faults.truncated.truncated_section.Goals as goal

pub returns : goal.returns
returns c = grind arith
