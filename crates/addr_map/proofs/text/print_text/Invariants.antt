use Rattle.std.proofs.Common.{◌≡◌, ◌-◌, ◌*◌, ◌≤◌, length, take}
use Rattle.rb_io.specs.TakenText.{TakesAll}
use Rattle.addr_map.specs.MapText.{map_text}
use Rattle.addr_map.proofs.text.print_text.Given as goal

-- The sink took the lines before `first`.
abbrev pub invariant-loop-first : goal.invariant-loop-first
invariant-loop-first g l = record {
  inside : l.first ≤ length l.map;
  short : l.done ≤ 38 * l.first;
  count : l.done ≡ length (map_text (take l.first l.map));
  taken : TakesAll (g.O.Sink.seen l.initial.out).taken (g.O.Sink.seen l.out).taken (map_text (take l.first l.map));
  never_falls : (g.O.Sink.seen l.initial.out).faults ≤ (g.O.Sink.seen l.out).faults;
}

abbrev pub decreases-loop-first : goal.decreases-loop-first
decreases-loop-first g l = length l.map - l.first
