use Rattle.std.proofs.Common.{◌≢◌, sym, subst, ℕ, ◌+◌, Some, None, arith}
use Rattle.rv_code.specs.isa.InstBytes.{Decodes}
use Rattle.elf_code.specs.Parts.{halfword_at}
use Rattle.code_starts.proofs.Decoded.{decoded, Decodes-two, Decodes-same}
use Rattle.code_starts.proofs.code.inst_among.Goals as goal

pub returns-then-end-address-lt4-clause-only : goal.returns-then-end-address-lt4-clause-only
returns-then-end-address-lt4-clause-only c = λ inst bytes before.
    let inside = before.inside in
    let short : bytes ≢ 4 = omega arith in
    let next = Some (halfword_at c.args.elf.now (c.args.address + 2)) in
    decoded _ _ _ c.decode.ensures.only c.decode.ensures.none inst bytes
    (Decodes-two _ next None inst bytes short
    (subst (λ (h : ℕ). Decodes h next inst bytes) (sym c.halfword_at.ensures) before.is_inst))

pub returns-clause-only : goal.returns-clause-only
returns-clause-only c = λ inst bytes before.
    decoded _ _ _ c.decode-2.ensures.only c.decode-2.ensures.none inst bytes
    (Decodes-same _ _ _ _ inst bytes c.halfwords_at-half.ensures.first c.halfwords_at-half.ensures.second before.is_inst)
