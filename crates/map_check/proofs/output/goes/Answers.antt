use Rattle.elf_image.specs.memory.Executables.{executable_read}
use Rattle.map_check.proofs.FoundCode.{goes_else}
use Rattle.map_check.proofs.output.goes.Goals as goal

pub returns-else-from-to : goal.returns-else-from-to
returns-else-from-to c =
    goes_else (executable_read c.args.elf.now) c.args.from c.args.to c.jumps.result c.if-from-to.false c.jumps.ensures
