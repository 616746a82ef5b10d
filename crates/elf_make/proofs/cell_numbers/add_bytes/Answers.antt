use Rattle.elf_make.proofs.CellLists.{bytes_all, bytes_more}
use Rattle.elf_make.proofs.cell_numbers.add_bytes.Goals as goal

pub loop-index-preserved : goal.loop-index-preserved
loop-index-preserved c =
    rw (c.in_ok-push.ensures.items)
    (bytes_more c.args.cell.now.0 c.loop-index.index c.args.cell.now.1 c.loop-index.rest c.loop-index.pieces.items _
    c.loop-index-test.true c.loop-index.invariant)

pub returns : goal.returns
returns c =
    bytes_all c.args.cell.now.0 c.loop-index.index c.args.cell.now.1 c.loop-index.rest c.loop-index.pieces.items _
    c.loop-index-test.false c.loop-index.invariant
