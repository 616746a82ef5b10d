use Rattle.std.proofs.Common.{All, take}
use Rattle.rv_code.specs.declared.placed.Placed.{Placed}
use Rattle.sample_gen.specs.internal.Light.{HasOneRow}
use Rattle.sample_gen.proofs.weight_check.have_one_row.Given as goal

abbrev pub invariant-loop-inst : goal.invariant-loop-inst
invariant-loop-inst l = All (λ (p : Placed). HasOneRow l.lines p.addr) (take l.inst-index l.insts)
