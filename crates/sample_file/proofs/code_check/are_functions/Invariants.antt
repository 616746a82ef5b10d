use Rattle.std.proofs.Common.{◌≡◌, take, map}
use Rattle.std.specs.List.{range_with_len}
use Rattle.sample_file.specs.SampleCode.{sample_function}
use Rattle.sample_file.specs.FoundCode.{func_shape}
use Rattle.sample_file.proofs.code_check.are_functions.Given as goal

abbrev pub invariant-loop-f : goal.invariant-loop-f
invariant-loop-f l = record {
  seen : map func_shape (take l.f-index l.funcs) ≡ map (sample_function l.n) (range_with_len 0 l.k);
  same : l.k ≡ l.f-index;
}
