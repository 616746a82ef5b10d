use Rattle.std.proofs.Common.{rules}
use Rattle.elf_write.specs.WriterInputs.{IsRead}
use Rattle.elf_write.proofs.writer.check_read.Goals as goal
use Rattle.elf_write.proofs.writer.check_read.Goals.{in-Ok, in-Err-Fault, in-Err-Memory}

pub returns : goal.returns
returns c = elim c.match-read.branch [
  | in-Ok w ↦
      let read : IsRead c.args.file.now = record {
        new = w.in-Ok.field-0;
        is = w.in-Ok.ensures.fields;
        sound = w.in-Ok.ensures.sound;
      } in
      search (rules, read)
  | in-Err-Fault w ↦ search rules
  | in-Err-Memory w ↦ search rules
]
