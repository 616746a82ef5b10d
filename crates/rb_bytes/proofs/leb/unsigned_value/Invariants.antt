-- `value` is the value of the bytes from `index` on.
use Rattle.std.proofs.Common.{◌≡◌, ◌<◌, ◌^◌, drop}
use Rattle.rb_bytes.specs.Leb.{uleb_value}
use Rattle.rb_bytes.proofs.leb.unsigned_value.Given as goal

abbrev pub invariant-bytes : goal.invariant-bytes
invariant-bytes l = record {
  value : l.value ≡ uleb_value (drop l.index l.bytes);
  fits : l.value < 2 ^ 64;
}
