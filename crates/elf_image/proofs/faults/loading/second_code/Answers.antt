use Rattle.std.proofs.Common.{arith}
use Rattle.elf_image.proofs.CodeLemmas.{IfSome-second}
use Rattle.elf_image.proofs.faults.loading.second_code.Goals as goal

pub returns-clause-second : goal.returns-clause-second
returns-clause-second c =
    IfSome-second c.args.segments.file.now c.in_ok-first.first _ c.in_ok-first.ensures.code c.in_ok-first.ensures.first
    c.next_code-2.ensures.code c.next_code-2.ensures.from c.next_code-2.ensures.first

pub returns-in_err-first-clause-none : goal.returns-in_err-first-clause-none
returns-in_err-first-clause-none c = rw c.from_residual.ensures (λ i second. c.in_err-first.ensures.none i second.0 (omega arith))
