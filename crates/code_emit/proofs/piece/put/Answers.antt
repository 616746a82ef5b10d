use Rattle.std.proofs.Common.{sym, subst}
use Rattle.rv_code.specs.declared.placed.Width.{Width}
use Rattle.code_emit.specs.Bytes.{IsEncodable}
use Rattle.code_emit.proofs.piece.put.Goals as goal

pub push-requires : goal.push-requires
push-requires c = subst (λ (w : Width). IsEncodable w c.args.inst.now) (sym c.width_of.ensures) c.requires.encodable
