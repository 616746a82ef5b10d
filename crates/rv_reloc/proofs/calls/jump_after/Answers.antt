use Rattle.std.proofs.Common.{arith}
use Rattle.rv_reloc.proofs.CallFaults.{jump_there, jump_full, jump_past, jump_held}
use Rattle.rb_bytes.proofs.Options.{not_found}
use Rattle.code_starts.proofs.PartLookup.{AreApart-parts}
use Rattle.rv_reloc.proofs.calls.jump_after.Goals as goal

pub part_at-requires : goal.part_at-requires
part_at-requires c = AreApart-parts c.args.elf.now c.args.parts.now c.requires.parts

pub returns-clause-there : goal.returns-clause-there
returns-clause-there c =
    jump_there c.args.elf.now c.args.parts.now c.args.address c.in_ok-part.part c.jalr_at.result
    c.requires.parts c.in_ok-part.ensures.holds
    (omega arith) c.jalr_at.ensures.there

pub returns-clause-only : goal.returns-clause-only
returns-clause-only c =
    λ start end j here after. c.jalr_at.ensures.only after.link j.base j.imm
    (jump_full c.args.elf.now start end c.args.address j after)

pub returns-then-part-address-le4-clause-only : goal.returns-then-part-address-le4-clause-only
returns-then-part-address-le4-clause-only c = λ start end j here after.
    absurd
    (jump_past c.args.elf.now c.args.parts.now start end c.args.address j c.in_ok-part.part c.requires.parts c.in_ok-part.ensures.holds
    (omega arith) here after)

pub returns-in_err-part-clause-only : goal.returns-in_err-part-clause-only
returns-in_err-part-clause-only c = λ start end j here after.
    absurd (not_found _ _ c.in_err-part.was
    (c.part_at.ensures.only _ (jump_held c.args.elf.now c.args.parts.now start end c.args.address c.requires.parts here)))
