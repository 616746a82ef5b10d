use Rattle.std.proofs.Common.{◌<◌}
use Rattle.elf_image.specs.file.Header.{segment}
use Rattle.elf_image.specs.faults.SegmentLayout.{IsCode}
use Rattle.elf_image.proofs.CodeLemmas.{IsLowestCodeBelow-lower, IsLowestCodeBelow-same}
use Rattle.elf_image.proofs.faults.loading.lower_code.Goals as goal

pub returns-then-is_lower_code-clause-lowest : goal.returns-then-is_lower_code-clause-lowest
returns-then-is_lower_code-clause-lowest c =
    let is = c.is_lower_code.ensures.0 c.if-is_lower_code.true in
    IsLowestCodeBelow-lower c.args.segments.file.now c.args.index c.args.lowest is.0 is.1 c.requires.lowest

pub returns-else-is_lower_code-clause-lowest : goal.returns-else-is_lower_code-clause-lowest
returns-else-is_lower_code-clause-lowest c =
    let file = c.args.segments.file.now in
    let higher : IsCode file c.args.index × ((segment file c.args.index).vaddr < (segment file c.args.lowest).vaddr) → ⊥ =
    λ lower. let is = c.is_lower_code.ensures.1 lower in let isnt = c.if-is_lower_code.false in absurd (cc) in
    IsLowestCodeBelow-same file c.args.index c.args.lowest higher c.requires.order c.requires.lowest
