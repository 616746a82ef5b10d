use Rattle.std.proofs.Common.{◌≡◌, ◌≤◌, ◌+◌, ◌^◌, true, false, arith}
use Rattle.map_check.proofs.LowFiles.{code_cut}
use Rattle.map_check.proofs.code_bytes.are_code_bytes.Goals as goal

pub returns-in-None : goal.returns-in-None
returns-in-None c = (
  (λ is. absurd (let never : false ≡ true = is in cc)),
  λ code.
      let high : 2 ^ 64 ≤ c.args.start + c.loop-i.i = omega (arith, c.in-None.ensures) in
      absurd (code_cut c.args.elf.now c.args.start c.args.len c.loop-i.i c.requires c.loop-i-test.true high code),
)
