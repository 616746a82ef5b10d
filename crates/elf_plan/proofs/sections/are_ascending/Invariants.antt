use Rattle.elf_plan.proofs.SectionOrder.{AscendBelow}
use Rattle.elf_plan.proofs.sections.are_ascending.Given as goal

abbrev pub invariant-loop-i : goal.invariant-loop-i
invariant-loop-i l = AscendBelow l.pairs l.i
