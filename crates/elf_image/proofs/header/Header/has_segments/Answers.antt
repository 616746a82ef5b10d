use Rattle.std.proofs.Common.{◌↔◌, ◌*◌, subst, IsTrue}
use Rattle.elf_image.specs.declared.header.HeaderFields.{HeaderFields}
use Rattle.elf_image.specs.declared.segment.TheConstants.{PHDR_SIZE}
use Rattle.elf_image.specs.faults.Truncation.{IsWhole}
use Rattle.elf_image.proofs.header.Header.has_segments.Goals as goal

pub returns : goal.returns
returns c =
    let Whole : HeaderFields → Type 0 = λ h.
    IsTrue c.is_whole.result ↔ IsWhole c.args.self.file.now h.phoff (PHDR_SIZE * h.phnum) in
    subst Whole c.fields-fields.ensures c.is_whole.ensures
