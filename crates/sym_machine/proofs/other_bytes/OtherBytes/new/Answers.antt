use Rattle.std.proofs.Common.{◌/◌, refl}
use Rattle.sym_machine.specs.internal.OtherBytes.{byte_in}
use Rattle.sym_machine.proofs.other_bytes.OtherBytes.new.Goals as goal

pub returns : goal.returns
unfolding byte_in
returns c = λ q. rw (c.new-3.ensures (q / 8)) refl
