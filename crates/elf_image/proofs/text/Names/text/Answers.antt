use Rattle.std.proofs.Common.{arith}
use Rattle.elf_image.proofs.ZeroPlaces.{text_of-end, text_of-past}
use Rattle.elf_image.specs.file.StringTables.{name_bytes}
use Rattle.elf_image.proofs.text.Names.text.Goals as goal

pub returns : goal.returns
returns c = text_of-end (name_bytes c.args.self.now) c.args.index c.end-end.result c.end-end.ensures (omega arith)

pub returns-then-end-start : goal.returns-then-end-start
returns-then-end-start c = text_of-past (name_bytes c.args.self.now) c.args.index c.end-end.result c.end-end.ensures (omega arith)
