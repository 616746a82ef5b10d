use Rattle.std.proofs.Common.{arith}
use Rattle.std.proofs.lemmas.Grind.{common_steps}
use Rattle.elf_image.proofs.LowSegments.{break_fits}
use Rattle.rv_memory.proofs.memory.Memory.new.Goals as goal

pub invariant_of-result-clause-break_within : goal.invariant_of-result-clause-break_within
invariant_of-result-clause-break_within c = grind (arith, common_steps, break_fits)

pub invariant_of-result-clause-code_stays : goal.invariant_of-result-clause-code_stays
invariant_of-result-clause-code_stays c = λ q byte here found. absurd (let none = c.new.ensures q in cc)
