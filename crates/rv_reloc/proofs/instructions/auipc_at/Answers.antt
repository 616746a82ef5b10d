use Rattle.std.proofs.Common.{◌∙◌, sym, ap, subst, Option, IfSome}
use Rattle.rv_code.specs.declared.inst.Inst.TheVariants.{Auipc}
use Rattle.elf_code.specs.Roles.{IsFullAt}
use Rattle.rv_reloc.specs.declared.instructions.Upper.{Upper}
use Rattle.rv_reloc.specs.Instructions.{auipc_of}
use Rattle.rv_reloc.proofs.InstructionFields.{as_auipc}
use Rattle.rb_bytes.proofs.Options.{same_some, not_found}
use Rattle.rv_reloc.proofs.instructions.auipc_at.Goals as goal

pub returns-clause-there : goal.returns-clause-there
returns-clause-there c =
    subst (λ (o : Option Upper). IfSome o (λ u. IsFullAt c.args.elf.now c.args.address (Auipc u.rd u.imm)))
    (sym c.auipc_of.ensures)
    (as_auipc (IsFullAt c.args.elf.now c.args.address) c.in_ok-inst.inst c.in_ok-inst.ensures.there)

pub returns-clause-only : goal.returns-clause-only
returns-clause-only c = λ rd imm full.
    c.auipc_of.ensures ∙ ap auipc_of (same_some _ _ _ c.in_ok-inst.was (c.full_at.ensures.only (Auipc rd imm) full))

pub returns-in_err-inst-clause-only : goal.returns-in_err-inst-clause-only
returns-in_err-inst-clause-only c = λ rd imm full. absurd (not_found _ _ c.in_err-inst.was (c.full_at.ensures.only (Auipc rd imm) full))
