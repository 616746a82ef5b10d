use Rattle.std.proofs.Common.{Some}
use Rattle.rv_reloc.proofs.CallFaults.{call_there, call_full, call_after}
use Rattle.rb_bytes.proofs.Options.{same_some, not_found}
use Rattle.rv_reloc.proofs.calls.call_at.Goals as goal

pub returns-clause-there : goal.returns-clause-there
returns-clause-there c =
    call_there c.args.elf.now c.args.address c.in_ok-auipc.auipc c.in_ok-jalr.jalr c.in_ok-auipc.ensures.there
    c.in_ok-jalr.ensures.there

pub returns-clause-only : goal.returns-clause-only
returns-clause-only c = λ d is.
    let upper = same_some _ _ _ c.in_ok-auipc.was (c.auipc_at.ensures.only _ _ (call_full c.args.elf.now c.args.address d is)) in
    let jump = same_some _ _ _ c.in_ok-jalr.was
    (c.jump_after.ensures.only is.start is.end d.jalr is.auipc.starts (call_after c.args.elf.now c.args.address d is)) in
    λ i. Some (record { auipc = upper i; jalr = jump i })

pub returns-in_err-jalr-clause-only : goal.returns-in_err-jalr-clause-only
returns-in_err-jalr-clause-only c = λ d is.
    absurd (not_found _ _ c.in_err-jalr.was
    (c.jump_after.ensures.only is.start is.end d.jalr is.auipc.starts (call_after c.args.elf.now c.args.address d is)))

pub returns-in_err-auipc-clause-only : goal.returns-in_err-auipc-clause-only
returns-in_err-auipc-clause-only c =
    λ d is. absurd (not_found _ _ c.in_err-auipc.was (c.auipc_at.ensures.only _ _ (call_full c.args.elf.now c.args.address d is)))
