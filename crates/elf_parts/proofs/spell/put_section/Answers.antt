use Rattle.elf_parts.proofs.Spellings.{section_bytes-appended}
use Rattle.elf_parts.proofs.spell.put_section.Goals as goal

pub returns-clause-bytes : goal.returns-clause-bytes
returns-clause-bytes c =
    rw (
      c.in_ok-put_links.ensures.bytes,
      c.in_ok-put_u64-4.ensures,
      c.in_ok-put_u64-3.ensures,
      c.in_ok-put_u64-2.ensures,
      c.in_ok-put_u64.ensures,
      c.in_ok-put_u32-2.ensures,
      c.in_ok-put_u32.ensures,
    )
    (section_bytes-appended c.args.out.now.items c.args.s.now)
