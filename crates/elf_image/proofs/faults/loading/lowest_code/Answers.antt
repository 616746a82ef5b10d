use Rattle.std.proofs.Common.{arith}
use Rattle.elf_image.proofs.faults.loading.lowest_code.Goals as goal

pub returns-in_err-first-clause-none : goal.returns-in_err-first-clause-none
returns-in_err-first-clause-none c = rw c.from_residual.ensures (λ i code. c.in_err-first.ensures.none i code (omega arith))
