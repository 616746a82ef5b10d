use Rattle.elf_write.proofs.TablesStand.{stand}
use Rattle.elf_write.proofs.writer.write.Goals as goal

pub returns-in-Ok-clause-stand : goal.returns-in-Ok-clause-stand
returns-in-Ok-clause-stand c = λ tight t.
    stand c.args.elf.now t.new c.args.tables.now _ _ c.args.emitted.now.code.items t.sections c.in-Ok.ensures.placed c.in-Ok.ensures.kept

pub written-requires : goal.written-requires
written-requires c = record {
  read = c.requires.read;
  sound = c.requires.sound;
  bytes = c.requires.bytes;
  cells = c.requires.cells;
  apart = c.requires.apart;
  laid_out = c.requires.laid_out;
}
