use Rattle.std.proofs.Common.{◌≡◌, ◌-◌, ◌≤◌, ◌++◌, length, take}
use Rattle.addr_map.specs.MapText.{map_text}
use Rattle.addr_map.proofs.text.append_lines.Given as goal

abbrev pub invariant-loop-first : goal.invariant-loop-first
invariant-loop-first l = record {
  inside : l.first ≤ length l.map;
  text : l.into.items ≡ l.fn.into.items ++ map_text (take l.first l.map);
}

abbrev pub decreases-loop-first : goal.decreases-loop-first
decreases-loop-first l = length l.map - l.first
