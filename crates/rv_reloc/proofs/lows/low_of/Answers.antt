use Rattle.std.proofs.Common.{◌≡◌, ◌∙◌, sym, ap, Option, Some, None, FitsSigned, w64, rules}
use Rattle.std.proofs.lemmas.Int.{to_z-of_z}
use Rattle.rv_code.specs.declared.inst.Inst.{Inst}
use Rattle.elf_code.specs.Roles.{lower_immediate}
use Rattle.rv_reloc.proofs.LowLists.{low_same}
use Rattle.rv_reloc.proofs.lows.low_of.Goals as goal

-- The instruction found is the one with the lower part.
same_inst : (o : Option Inst) (i j : Inst) → o ≡ Some i → o ≡ Some j → j ≡ i
same_inst o i j is is' = let e : Some i ≡ Some j = sym is ∙ is' in cc

pub returns-clause-only : goal.returns-clause-only
returns-clause-only c = λ l is.
    let kind = c.args.relocation.now.kind in
    let inst = same_inst _ _ _ c.in_ok-inst.was (c.full_at.ensures.only is.inst is.there) in
    let fits : FitsSigned w64 c.in_ok-imm.imm = search rules in
    low_same _ c.in_ok-imm.imm _ l c.lower_immediate.result (sym is.names ∙ sym c.symbol_value-hi.ensures)
    (to_z-of_z w64 _ fits) c.in_ok-imm.was
    (c.lower_immediate.ensures ∙ ap (lower_immediate kind) (sym inst) ∙ is.immediate)

pub returns-in_err-imm-clause-only : goal.returns-in_err-imm-clause-only
returns-in_err-imm-clause-only c = λ l is.
    let kind = c.args.relocation.now.kind in
    let inst = same_inst _ _ _ c.in_ok-inst.was (c.full_at.ensures.only is.inst is.there) in
    let e : None ≡ Some l.imm =
    sym c.in_err-imm.was ∙ c.lower_immediate.ensures ∙ ap (lower_immediate kind) (sym inst)
    ∙ is.immediate in
    absurd (cc)

pub returns-in_err-inst-clause-only : goal.returns-in_err-inst-clause-only
returns-in_err-inst-clause-only c = λ l is.
    let e : None ≡ Some is.inst = sym c.in_err-inst.was ∙ c.full_at.ensures.only is.inst is.there in
    absurd (cc)
