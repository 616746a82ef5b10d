use Rattle.std.proofs.Common.{◌≡◌, take, map}
use Rattle.std.specs.List.{range_with_len}
use Rattle.sample_file.specs.SampleCode.{sample_cell}
use Rattle.sample_file.proofs.code_check.are_cells.Given as goal

abbrev pub invariant-loop-c : goal.invariant-loop-c
invariant-loop-c l = record {
  seen : take l.c-index l.cells ≡ map sample_cell (range_with_len 0 l.k);
  same : l.k ≡ l.c-index;
}
