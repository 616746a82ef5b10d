use Rattle.std.proofs.Common.{sym, arith}
use Rattle.sym_machine.proofs.StartFields.{entry_lies}
use Rattle.sym_machine.proofs.hidden.entry_address.Goals as goal

pub overflow_sub-result : goal.overflow_sub-result
overflow_sub-result c = (entry_lies c.args.elf.now.segments.items c.in_ok-p.p.now c.requires
    (sym (rw c.deref.ensures.value at c.in_ok-p.ensures))).before

pub overflow_add-result : goal.overflow_add-result
overflow_add-result c =
    let low = (entry_lies c.args.elf.now.segments.items c.in_ok-p.p.now c.requires
    (sym (rw c.deref.ensures.value at c.in_ok-p.ensures))).low in omega arith

pub returns-clause-low : goal.returns-clause-low
returns-clause-low c =
    let low = (entry_lies c.args.elf.now.segments.items c.in_ok-p.p.now c.requires
    (sym (rw c.deref.ensures.value at c.in_ok-p.ensures))).low in omega arith
