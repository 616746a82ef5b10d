use Rattle.std.proofs.Common.{◌≡◌, ◌++◌, drop}
use Rattle.line_rewrite.specs.WrittenRuns.{begun}
use Rattle.line_rewrite.proofs.program_list.begun.Given as goal

abbrev pub invariant-loop : goal.invariant-loop
invariant-loop l = l.programs.items ++ begun (drop l.index l.units) ≡ begun l.units
