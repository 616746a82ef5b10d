use Rattle.std.proofs.Common.{subst, ◌≤◌, IsTrue}
use Rattle.elf_image.specs.declared.segment.Segment.{Segment}
use Rattle.elf_image.specs.faults.LowestPlace.{IsLowest}
use Rattle.elf_image.specs.memory.Image.{loads_address}
use Rattle.elf_image.specs.declared.segment.TheConstants.{ADDRESS_END}
use Rattle.elf_image.proofs.faults.checks.high_address.Goals as goal

pub returns : goal.returns
returns c =
    let High : Segment → Type 0 = λ p. IsLowest (λ a. IsTrue (loads_address a p) × (ADDRESS_END ≤ a)) c.first_high.result in
    subst High c.segment_of.ensures c.first_high.ensures
