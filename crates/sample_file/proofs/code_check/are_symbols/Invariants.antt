use Rattle.std.proofs.Common.{◌≡◌, ◌≤◌, ◌+◌, take, map, filter}
use Rattle.std.specs.List.{range_with_len}
use Rattle.elf_image.specs.file.Cuts.{names_function}
use Rattle.sample_file.specs.SampleCode.{sample_symbol}
use Rattle.sample_file.specs.FoundCode.{symbol_shape}
use Rattle.sample_file.proofs.code_check.are_symbols.Given as goal

abbrev pub invariant-loop-s : goal.invariant-loop-s
invariant-loop-s l = record {
  seen : map symbol_shape (filter names_function (take l.s-index l.symbols)) ≡ map (sample_symbol l.n) (range_with_len 0 l.k);
  few : l.k ≤ l.n + 1;
}
