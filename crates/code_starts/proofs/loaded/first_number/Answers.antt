use Rattle.std.proofs.Common.{◌<◌, ◌^◌, sym, subst, ℕ, arith}
use Rattle.byteorder.specs.Numbers.{little_from-lt}
use Rattle.code_starts.proofs.loaded.first_number.Goals as goal

pub returns-clause-below : goal.returns-clause-below
returns-clause-below c =
    subst (λ (x : ℕ). x < 256 ^ c.args.size) (sym c.read_uint.ensures)
    (little_from-lt 0 c.args.size c.args.bytes.now (λ i. omega (arith, c.type_inv.bytes i)))
