use Rattle.rv_reloc.proofs.FieldsFound.{named-field}
use Rattle.rv_reloc.proofs.Only.{some-only}
use Rattle.rv_reloc.proofs.got_fields.named_field.Goals as goal

pub returns-clause-is : goal.returns-clause-is
returns-clause-is c =
    some-only _ (λ f code. named-field c.args.elf.now c.args.hi c.args.slot c.in_ok-to.to f c.in_ok-to.ensures.value
    (c.names_entry.ensures.0 c.if-not-names_entry.false) code) c.code_field.ensures.is

pub returns-clause-only : goal.returns-clause-only
returns-clause-only c = λ f is. c.code_field.ensures.only f is.field
