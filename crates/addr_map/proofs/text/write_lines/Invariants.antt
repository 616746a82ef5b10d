use Rattle.std.proofs.Common.{◌≡◌, ◌+◌, ◌-◌, ◌*◌, ◌≤◌, length, drop}
use Rattle.std.specs.Prelude.{slice_range}
use Rattle.addr_map.specs.MapText.{map_text}
use Rattle.addr_map.proofs.text.write_lines.Given as goal

-- The lines from index i on.
abbrev pub invariant-loop-i : goal.invariant-loop-i
invariant-loop-i l = record {
  low : l.first ≤ l.i;
  high : l.i ≤ l.last;
  room : 38 * (l.i - l.first) ≤ l.start;
  inside : l.start ≤ length l.buf;
  short : length l.buf ≤ l.start + 38 * (l.last - l.i);
  written : drop l.start l.buf ≡ map_text (slice_range l.map l.i l.last);
}

abbrev pub decreases-loop-i : goal.decreases-loop-i
decreases-loop-i l = l.i
