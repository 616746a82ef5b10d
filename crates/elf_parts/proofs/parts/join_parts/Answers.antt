use Rattle.elf_parts.proofs.JoinedParts.{parts-joined}
use Rattle.elf_parts.proofs.parts.join_parts.Goals as goal

pub returns : goal.returns
returns c =
    rw (
      c.in_ok-extend_from_slice-2.ensures.items,
      c.in_ok-fill_to-2.ensures,
      c.in_ok-extend_from_slice.ensures.items,
      c.in_ok-fill_to.ensures,
      c.in_ok-base.ensures.items,
    )
    (parts-joined c.args.parts.now c.args.input.now c.args.area.now c.requires)
