use Rattle.std.proofs.Common.{◌∙◌, sym}
use Rattle.rv_reloc.specs.Records.{seen}
use Rattle.rv_reloc.proofs.DifferenceCases.{narrow-found, none-narrow}
use Rattle.rv_reloc.proofs.differences.is_narrow.Goals as goal

pub returns-in-Some : goal.returns-in-Some
returns-in-Some c = λ tabled are.
    let test = c.crosses.ensures tabled are in
    let no_cell = sym c.can_be_cell.ensures ∙ c.if-can_be_cell.false in
    narrow-found c.args.elf.now tabled
    (seen c.args.relocation.now) c.in-Some.difference c.crosses.result c.in-Some.ensures.is c.in-Some.ensures.only
    (λ yes_is. let both = test.0 yes_is in (no_cell, both.0, both.1), λ narrow. test.1 (narrow.1, narrow.2))

pub returns-in-None : goal.returns-in-None
returns-in-None c = λ tabled are. none-narrow c.args.elf.now tabled (seen c.args.relocation.now) c.in-None.ensures.only
