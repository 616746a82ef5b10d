use Rattle.map_check.proofs.LowFiles.{ends_low}
use Rattle.map_check.proofs.headers.Headers.of.Goals as goal

pub entry_address-requires : goal.entry_address-requires
entry_address-requires c = ends_low c.args.elf.now c.requires
