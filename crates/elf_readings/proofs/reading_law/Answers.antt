use Rattle.elf_readings.proofs.Readings.{reading_law as law}
use Rattle.elf_readings.proofs.reading_law.Goals as goal

pub returns : goal.returns
returns c = law
