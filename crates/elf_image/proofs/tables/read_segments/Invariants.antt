use Rattle.std.proofs.Common.{◌≡◌}
use Rattle.elf_image.specs.file.Header.{e_phoff, segments_from}
use Rattle.elf_image.proofs.tables.read_segments.Given as goal

abbrev pub invariant-loop-index : goal.invariant-loop-index
invariant-loop-index l = l.segments.items ≡ segments_from l.file (e_phoff l.file) l.index
