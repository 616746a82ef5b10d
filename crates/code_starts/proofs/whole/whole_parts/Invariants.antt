use Rattle.elf_code.specs.Parts.{IsWholePart}
use Rattle.code_starts.specs.Parts.{Precedes}
use Rattle.code_starts.proofs.Chosen.{ChosenOf}
use Rattle.code_starts.proofs.whole.whole_parts.Given as goal

abbrev pub invariant-loop-part : goal.invariant-loop-part
invariant-loop-part l = ChosenOf (λ p. IsWholePart l.elf l.tabled p.start p.end) Precedes l.parts l.part-index l.wholes.items
