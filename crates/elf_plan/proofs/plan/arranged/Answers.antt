use Rattle.std.proofs.Common.{◌∙◌}
use Rattle.elf_plan.proofs.KnownContents.{arranges}
use Rattle.elf_plan.proofs.plan.arranged.Goals as goal

pub returns : goal.returns
returns c =
    arranges c.args.elf.now c.args.tables.now c.args.area.now c.args.shift.now c.args.own c.deref.result.now
    c.deref-2.result.now c.deref-3.result.now c.in_ok-kept.kept c.in_ok-contents.contents.items c.in_ok-order.order.items
    c.requires c.deref.ensures.value c.deref-2.ensures.value (c.deref-3.ensures.value ∙ c.in_ok-replaced.ensures)
    c.in_ok-kept.ensures c.in_ok-contents.ensures c.in_ok-order.ensures
