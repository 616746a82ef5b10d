use Rattle.elf_image.specs.memory.Executables.{AreCodeBytes, executable_read}
use Rattle.map_check.proofs.LowestItems.{Judged}
use Rattle.map_check.proofs.code_spans.lowest_outside.Given as goal

abbrev pub invariant-loop-span : goal.invariant-loop-span
invariant-loop-span l =
    Judged (λ s. AreCodeBytes (executable_read l.output) s.out s.len) (λ s. s.input) l.spans l.span-index l.lowest
