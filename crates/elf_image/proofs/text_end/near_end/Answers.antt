use Rattle.std.proofs.Common.{◌∙◌, ℕ, List, Option, length, take, arith, ap, subst}
use Rattle.memchr.specs.Find.{IsFirstByte, is_byte}
use Rattle.elf_image.proofs.NearEnds.{text_end}
use Rattle.elf_image.proofs.text_end.near_end.Goals as goal

pub returns : goal.returns
returns c =
    let near : List ℕ = c.split_at-2.result.0.now in
    let behind = ap length c.split_at.ensures.back in
    text_end c.args.table.now near c.args.index c.min.result (c.split_at-2.ensures.front ∙ ap (take c.min.result) c.split_at.ensures.back)
    c.in_ok-length.length (omega (arith, behind)) (omega arith)
    (subst (λ (o : Option ℕ). IsFirstByte (is_byte 0) near o) c.in_ok-length.was c.memchr.ensures)
