use Rattle.bolt_core.proofs.Rewrites.{all_bytes}
use Rattle.bolt_core.proofs.rewriting.are_bytes.Goals as goal

pub returns : goal.returns
returns c = all_bytes c.args.bytes.now c.type_inv.bytes
