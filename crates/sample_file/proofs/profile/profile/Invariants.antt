use Rattle.std.proofs.Common.{◌≡◌, flat_map}
use Rattle.std.specs.List.{range_with_len}
use Rattle.sample_file.specs.SampleText.{function_lines}
use Rattle.sample_file.proofs.profile.profile.Given as goal

abbrev pub invariant-loop-k : goal.invariant-loop-k
invariant-loop-k l = l.text.items ≡ flat_map (function_lines l.n) (range_with_len 0 l.k)
