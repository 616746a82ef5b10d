use Rattle.std.proofs.Common.{Some}
use Rattle.elf_image.specs.memory.HiddenFields.{is_hidden_field}
use Rattle.sym_machine.specs.declared.value.MemoryByte.TheVariants.{Hidden}
use Rattle.sym_machine.specs.internal.SpecialBytes.{covers_header}
use Rattle.sym_machine.proofs.StartFields.{hidden_more}
use Rattle.sym_machine.proofs.other_bytes.OtherBytes.hide_in_segments.Goals as goal

pub loop-index-preserved : goal.loop-index-preserved
loop-index-preserved c = λ tight fields q.
    hidden_more (covers_header c.args.elf.now q) c.args.segments.now c.loop-index.index _ c.loop-index-test.true
    (is_hidden_field c.args.elf.now tight q) (Some Hidden) _ _ _ (c.in_ok-hide_in_segment.ensures tight fields q)
    (c.loop-index.invariant tight fields q)
