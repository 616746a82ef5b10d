use Rattle.std.proofs.Common.{rules}
use Rattle.sample_file.specs.SampleCode.{sample_cell}
use Rattle.sample_file.proofs.Ranges.{cells_more}
use Rattle.sample_file.proofs.code_check.are_cells.Goals as goal

pub loop-c-preserved : goal.loop-c-preserved
loop-c-preserved c = record {
  seen = cells_more sample_cell c.args.cells.now c.loop-c.c-index c.loop-c.k _ (search rules) c.loop-c.invariant.seen
      (c.is_cell.ensures (search rules));
  same = search rules;
}
