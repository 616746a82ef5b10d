use Rattle.std.proofs.Common.{◌∙◌, sym, subst, ℕ}
use Rattle.elf_code.specs.Relocations.{Bits}
use Rattle.rv_reloc.specs.Candidates.{IsCodeField, difference}
use Rattle.rv_reloc.specs.Records.{seen}
use Rattle.rv_reloc.proofs.FieldsFound.{code-of, difference-of, cell-to_difference, difference-to_cell}
use Rattle.rv_reloc.proofs.Only.{some-only}
use Rattle.rv_reloc.proofs.candidates.field_of.Goals as goal

pub returns-then-is_address-clause-only : goal.returns-then-is_address-clause-only
returns-then-is_address-clause-only c = λ tabled f are is.
    let r = seen c.args.relocation.now in
    c.code_field.ensures.only f
    (subst (λ (w : ℕ). IsCodeField c.args.elf.now r.place w f) (sym c.address_width.ensures)
    (code-of c.args.elf.now tabled r f (sym c.is_address.ensures ∙ c.if-is_address.true) is))

pub returns-then-not-can_be_cell-clause-only : goal.returns-then-not-can_be_cell-clause-only
returns-then-not-can_be_cell-clause-only c = λ tabled f are is.
    let can = (difference-of c.args.elf.now tabled (seen c.args.relocation.now) f
    (sym c.is_address.ensures ∙ c.if-is_address.false) is).can_be in
    let e = c.can_be_cell.ensures in
    let g = c.if-not-can_be_cell.true in
    absurd (cc)

pub returns-clause-is : goal.returns-clause-is
returns-clause-is c = λ tabled are.
    let r = seen c.args.relocation.now in
    some-only _ (λ f is. difference (cell-to_difference c.args.elf.now tabled r c.in_ok-difference.difference f
    c.in_ok-difference.ensures.is
    (sym c.can_be_cell.ensures ∙ c.if-not-can_be_cell.false) is)) (c.cell_field.ensures.is tabled are)

pub returns-clause-only : goal.returns-clause-only
returns-clause-only c = λ tabled f are is.
    let r = seen c.args.relocation.now in
    let made = difference-of c.args.elf.now tabled r f (sym c.is_address.ensures ∙ c.if-is_address.false) is in
    c.cell_field.ensures.only tabled f are
    (difference-to_cell c.args.elf.now tabled r c.in_ok-difference.difference f c.in_ok-difference.ensures.only made)

pub returns-in_err-difference-clause-only : goal.returns-in_err-difference-clause-only
returns-in_err-difference-clause-only c = λ tabled f are is.
    let made =
    difference-of c.args.elf.now tabled (seen c.args.relocation.now) f (sym c.is_address.ensures ∙ c.if-is_address.false) is in
    absurd (c.in_err-difference.ensures.only (Bits made.bits) made.to made.from made.is)
