use Rattle.std.proofs.Common.{◌≡◌, ◌∙◌, sym, true, false}
use Rattle.rv_reloc.specs.Records.{seen}
use Rattle.rv_reloc.proofs.DifferenceCases.{some-found, found-some}
use Rattle.rv_reloc.proofs.differences.is_paired.Goals as goal

pub returns-then-is_some : goal.returns-then-is_some
returns-then-is_some c =
    let plus = some-found c.only_plus.result _ (sym c.is_some.ensures ∙ c.if-is_some.true)
    (c.only_plus.ensures.is c.args.elf.now c.requires) in (
      λ yes_is. let minus =
          some-found c.only_minus.result _ (sym c.is_some-then-is_some.ensures ∙ yes_is)
          (c.only_minus.ensures.is c.args.elf.now c.requires) in
          (seen plus.0, seen minus.0, plus.1, minus.1),
      λ is. c.is_some-then-is_some.ensures
          ∙ found-some c.only_minus.result seen is.1 (c.only_minus.ensures.only c.args.elf.now is.1 c.requires is.3),
    )

pub returns-else-is_some : goal.returns-else-is_some
returns-else-is_some c = (
  λ yes_is. let e : false ≡ true = sym c.if-is_some.false ∙ yes_is in absurd (cc),
  λ is. c.is_some.ensures
      ∙ found-some c.only_plus.result seen is.0 (c.only_plus.ensures.only c.args.elf.now is.0 c.requires is.2),
)
