use Rattle.std.proofs.Common.{ℕ, Some, sym, subst}
use Rattle.rv_code.specs.isa.InstBytes.{Decodes}
use Rattle.elf_code.specs.Parts.{halfword_at}
use Rattle.dw_unit.proofs.call_ends.call_at.Goals as goal

pub returns-in_err-inst-clause-only : goal.returns-in_err-inst-clause-only
returns-in_err-inst-clause-only c = λ n call. absurd (c.in_err-inst.ensures.none call.inst n
    (subst (λ (h : ℕ). Decodes h (Some c.halfword_at-next.result) call.inst n) (sym c.halfword_at-half.ensures)
    (subst (λ (h : ℕ). Decodes (halfword_at c.args.elf.now c.args.address) (Some h) call.inst n)
    (sym c.halfword_at-next.ensures) call.there)))
