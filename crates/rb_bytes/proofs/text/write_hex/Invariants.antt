-- The digits written so far end at `end`, and the digits of `rest` come before them.
use Rattle.std.proofs.Common.{◌≡◌, ◌+◌, ◌-◌, ◌<◌, ◌≤◌, ◌^◌, ◌++◌, drop}
use Rattle.rb_bytes.specs.Text.{hexadecimal}
use Rattle.rb_bytes.proofs.HexDigits.{hex_onto}
use Rattle.rb_bytes.proofs.text.write_hex.Given as goal

abbrev pub invariant-digits : goal.invariant-digits
invariant-digits l = record {
  some_left : l.end < l.start + 16;
  within : l.start ≤ l.end;
  room : l.rest < 16 ^ (l.start + 16 - l.end);
  text : hex_onto (l.start + 64 - l.end) l.rest (drop l.start l.buf) ≡ hexadecimal l.v ++ drop l.end l.fn.buf;
}

abbrev pub decreases-digits : goal.decreases-digits
decreases-digits l = l.start
