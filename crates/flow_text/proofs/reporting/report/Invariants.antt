use Rattle.std.proofs.Common.{◌≡◌, flat_map}
use Rattle.std.specs.List.{range_with_len}
use Rattle.flow_text.specs.Report.{function_lines}
use Rattle.flow_text.proofs.reporting.report.Given as goal

abbrev pub invariant-loop-func : goal.invariant-loop-func
invariant-loop-func l = l.text.items ≡ flat_map (function_lines l.funcs l.blocks l.flow) (range_with_len 0 l.func)
