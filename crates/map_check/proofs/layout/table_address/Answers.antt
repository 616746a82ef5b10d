use Rattle.std.proofs.Common.{Some, None, sym}
use Rattle.map_check.proofs.Layouts.{table_address-is}
use Rattle.map_check.proofs.layout.table_address.Goals as goal

pub returns-in-Some : goal.returns-in-Some
returns-in-Some c =
    sym (table_address-is c.args.elf.now.file.now c.args.elf.now.phoff c.args.elf.now.segments.items
    (Some c.in-Some.segment.now) c.requires.phoff c.requires.segments
    (rw (c.deref-segments.ensures.value) at c.in-Some.ensures.first))

pub returns-in-None : goal.returns-in-None
returns-in-None c =
    sym (table_address-is c.args.elf.now.file.now c.args.elf.now.phoff c.args.elf.now.segments.items None c.requires.phoff
    c.requires.segments (rw (c.deref-segments.ensures.value) at c.in-None.ensures.first))
