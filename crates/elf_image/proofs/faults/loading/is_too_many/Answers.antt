use Rattle.std.proofs.Common.{◌+◌, ◌≤◌, ℕ}
use Rattle.elf_image.specs.faults.SegmentLayout.{IsCode}
use Rattle.elf_image.proofs.CodeLemmas.{IsTooMany-more, IsTooMany-old, HasOldSection-same}
use Rattle.elf_image.proofs.faults.loading.is_too_many.Goals as goal

pub returns-then-has_code_from : goal.returns-then-has_code_from
returns-then-has_code_from c =
    IsTooMany-more c.args.segments.file.now c.args.second _ c.if-has_code_from.true
    (c.has_code_from.ensures.0 c.if-has_code_from.true)

pub returns-else-has_code_from : goal.returns-else-has_code_from
returns-else-has_code_from c =
    let file = c.args.segments.file.now in
    let old = HasOldSection-same file c.args.sections.now c.requires.sections in
    let none : ((k : ℕ) × IsCode file k × (c.args.second + 1 ≤ k)) → ⊥ =
    λ some. let is = c.has_code_from.ensures.1 some in let isnt = c.if-has_code_from.false in absurd (cc) in
    IsTooMany-old file c.args.second _ none
    ((λ is. old.0 (c.has_old_section.ensures.0 is)), (λ is. c.has_old_section.ensures.1 (old.1 is)))
