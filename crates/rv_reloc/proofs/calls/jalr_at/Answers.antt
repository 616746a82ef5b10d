use Rattle.std.proofs.Common.{◌∙◌, sym, ap, subst, ℕ, Option, IfSome}
use Rattle.rv_code.specs.declared.inst.Inst.TheVariants.{Jalr}
use Rattle.elf_code.specs.Roles.{IsFullAt}
use Rattle.rv_reloc.specs.declared.instructions.Jump.{Jump}
use Rattle.rv_reloc.specs.Instructions.{jalr_of}
use Rattle.rv_reloc.proofs.InstructionFields.{as_jalr}
use Rattle.rb_bytes.proofs.Options.{same_some, not_found}
use Rattle.rv_reloc.proofs.calls.jalr_at.Goals as goal

pub returns-clause-there : goal.returns-clause-there
returns-clause-there c =
    subst (λ (o : Option Jump). IfSome o (λ j. (link : ℕ) × IsFullAt c.args.elf.now c.args.address (Jalr link j.base j.imm)))
    (sym c.jalr_of.ensures)
    (as_jalr (IsFullAt c.args.elf.now c.args.address) c.in_ok-inst.inst c.in_ok-inst.ensures.there)

pub returns-clause-only : goal.returns-clause-only
returns-clause-only c = λ link base imm full.
    c.jalr_of.ensures ∙ ap jalr_of (same_some _ _ _ c.in_ok-inst.was (c.full_at.ensures.only (Jalr link base imm) full))

pub returns-in_err-inst-clause-only : goal.returns-in_err-inst-clause-only
returns-in_err-inst-clause-only c =
    λ link base imm full. absurd (not_found _ _ c.in_err-inst.was (c.full_at.ensures.only (Jalr link base imm) full))
