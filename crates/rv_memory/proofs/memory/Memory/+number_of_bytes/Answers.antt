use Rattle.std.proofs.Common.{◌≡◌, ◌^◌, ◌-◌, suc, ap, arith, ℕ}
use Rattle.std.proofs.Math.Nat.{pow-suc}
use Rattle.std.proofs.lemmas.Grind.{common_steps}
use Rattle.rv_memory.proofs.MemoryBytes.{byte_power}
use Rattle.rv_memory.proofs.memory.Memory.+number_of_bytes.Goals as goal

pub overflow_mul-result : goal.overflow_mul-result
overflow_mul-result t c = grind (arith, common_steps, byte_power)

pub overflow_add-result : goal.overflow_add-result
overflow_add-result t c = grind (arith, common_steps, byte_power)

pub returns-clause-below : goal.returns-clause-below
returns-clause-below t c =
    let e : c.args.count ≡ suc (c.args.count - 1) = omega arith in
    let p : 256 ^ c.args.count ≡ 256 ^ suc (c.args.count - 1) = ap (λ (n : ℕ). 256 ^ n) e in
    grind (arith, p, pow-suc 256 (c.args.count - 1), c.number_of_bytes-rest.ensures.below)
