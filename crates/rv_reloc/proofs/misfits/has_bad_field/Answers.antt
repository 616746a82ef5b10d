use Rattle.std.proofs.Common.{◌≡◌, ◌∙◌, sym, false, true}
use Rattle.rb_bytes.proofs.Tests.{if_not}
use Rattle.elf_code.specs.ReferenceFaults.{IsBadField}
use Rattle.rv_reloc.specs.Records.{seen}
use Rattle.rv_reloc.proofs.MisfitCases.{bad_symbol, field_cases}
use Rattle.rv_reloc.proofs.misfits.has_bad_field.Goals as goal

pub returns-then-has_bad_symbol : goal.returns-then-has_bad_symbol
returns-then-has_bad_symbol c = (
  λ _. bad_symbol c.args.elf.now (seen c.args.relocation.now) (c.has_bad_symbol.ensures.0 c.if-has_bad_symbol.true),
  λ _. c.if-has_bad_symbol.true,
)

pub returns-else-has_bad_symbol : goal.returns-else-has_bad_symbol
returns-else-has_bad_symbol c =
    let test = if_not c.has_field.result c.has_field.ensures in (
      λ is. IsBadField.field (test.0 is),
      λ bad. field_cases c.args.elf.now (seen c.args.relocation.now)
          (λ symbol. let e : false ≡ true = sym c.if-has_bad_symbol.false ∙ c.has_bad_symbol.ensures.1 symbol in absurd (cc))
          (λ none. test.1 none)
          bad,
    )
