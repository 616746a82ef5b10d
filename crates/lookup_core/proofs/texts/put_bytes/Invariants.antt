use Rattle.std.proofs.Common.{◌≡◌, ◌++◌, take, flat_map}
use Rattle.lookup_core.specs.Texts.{byte_text}
use Rattle.lookup_core.proofs.texts.put_bytes.Given as goal

abbrev pub invariant-loop-b : goal.invariant-loop-b
invariant-loop-b l = l.text.items ≡ l.initial.text.items ++ flat_map byte_text (take l.b-index l.bytes)
