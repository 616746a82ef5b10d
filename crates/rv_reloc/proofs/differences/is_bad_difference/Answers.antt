use Rattle.std.proofs.Common.{◌≡◌, ◌∙◌, sym, ⊎_elim, true, false}
use Rattle.rv_reloc.specs.Records.{seen}
use Rattle.rv_reloc.proofs.DifferenceCases.{bad-number, bad-unpaired, bad-cases}
use Rattle.rv_reloc.proofs.differences.is_bad_difference.Goals as goal

pub returns-then-is_other_number : goal.returns-then-is_other_number
returns-then-is_other_number c = (
  λ _. bad-number c.args.elf.now (seen c.args.relocation.now) (c.is_other_number.ensures.0 c.if-is_other_number.true),
  λ _. c.if-is_other_number.true,
)

pub returns-else-is_other_number : goal.returns-else-is_other_number
returns-else-is_other_number c = (
  λ yes_is. bad-unpaired c.args.elf.now (seen c.args.relocation.now) (c.is_unpaired.ensures.0 yes_is),
  λ bad. ⊎_elim
      (λ other. let e : false ≡ true = sym c.if-is_other_number.false ∙ c.is_other_number.ensures.1 other in absurd (cc))
      (λ alone. c.is_unpaired.ensures.1 alone)
      (bad-cases c.args.elf.now (seen c.args.relocation.now) bad),
)
