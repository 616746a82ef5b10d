use Rattle.elf_parts.proofs.Spellings.{link_bytes-appended}
use Rattle.elf_parts.proofs.spell.put_links.Goals as goal

pub returns-clause-bytes : goal.returns-clause-bytes
returns-clause-bytes c =
    rw (c.in_ok-put_u64-2.ensures, c.in_ok-put_u64.ensures, c.in_ok-put_u32-2.ensures, c.in_ok-put_u32.ensures)
    (link_bytes-appended c.args.out.now.items c.args.s.now)
