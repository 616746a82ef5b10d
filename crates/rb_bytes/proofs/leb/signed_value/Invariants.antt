use Rattle.std.proofs.Common.{◌≡◌, drop}
use Rattle.rb_bytes.specs.Leb.{sleb_value}
use Rattle.rb_bytes.proofs.leb.signed_value.Given as goal

abbrev pub invariant-bytes : goal.invariant-bytes
invariant-bytes l = l.value ≡ sleb_value (drop l.index l.bytes)
