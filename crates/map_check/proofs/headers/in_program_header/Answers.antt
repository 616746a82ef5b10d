use Rattle.std.proofs.Common.{◌++◌, ◌+◌, ◌*◌, false}
use Rattle.std.specs.Prelude.{◌==◌, nat_le}
use Rattle.elf_image.specs.declared.segment.TheConstants.{PHDR_SIZE, PT_GNU_EH_FRAME}
use Rattle.elf_image.specs.memory.CodeSegment.{executable_end}
use Rattle.elf_image.specs.memory.HiddenFields.{is_executable_segment, only, p_offset_field, place_fields, size_fields}
use Rattle.elf_image.specs.memory.LoadedBytes.{is_in_range}
use Rattle.map_check.proofs.HeaderFields.{joined, under}
use Rattle.map_check.proofs.headers.in_program_header.Goals as goal

pub returns : goal.returns
returns c = λ tight of.
    let elf = c.args.elf.now in
    let f = is_in_range c.args.offset in
    let at = elf.phoff + PHDR_SIZE * c.args.index in
    let behind = nat_le (executable_end elf.segments.items) c.args.p.now.offset in
    let sizes = only (is_executable_segment elf c.args.index) (size_fields at) in
    let one = under f (size_fields at) _ (is_executable_segment elf c.args.index) false _
    (c.is_executable_segment-is_executable.ensures elf of.executable_is) c.or_has-in_sizes.ensures in
    let two = joined f sizes (only behind (p_offset_field at)) _ _ one
    (under f (p_offset_field at) _ behind _ _ (c.is_behind.ensures elf tight of) c.or_has-in_offset.ensures) in
    joined f (sizes ++ only behind (p_offset_field at)) (only (c.args.p.now.kind == PT_GNU_EH_FRAME) (place_fields at)) _ _ two
    c.or_has.ensures
