use Rattle.elf_image.specs.memory.Executables.{executable_read}
use Rattle.map_check.proofs.FoundCode.{jumps_some, jumps_none}
use Rattle.map_check.proofs.output.jumps.Goals as goal

pub returns-in-Some : goal.returns-in-Some
returns-in-Some c =
    jumps_some (executable_read c.args.elf.now) c.args.from c.args.to c.in-Some.inst _ c.leads_to.result c.in-Some.ensures
    c.leads_to.ensures

pub returns-in-None : goal.returns-in-None
returns-in-None c = jumps_none (executable_read c.args.elf.now) c.args.from c.args.to c.in-None.ensures
