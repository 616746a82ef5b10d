use Rattle.std.proofs.Common.{◌≡◌, ◌≤◌, drop}
use Rattle.std.specs.List.{fold}
use Rattle.rv_code.specs.layout.FunctionLists.{address_end}
use Rattle.frame_rewrite.specs.Tables.{code_end, end_with}
use Rattle.frame_rewrite.proofs.frames_address.code_end.Given as goal

abbrev pub invariant-loop-i : goal.invariant-loop-i
invariant-loop-i l = record {
  rest : fold end_with l.end (drop l.i l.map) ≡ code_end l.map;
  low : l.end ≤ address_end;
}
