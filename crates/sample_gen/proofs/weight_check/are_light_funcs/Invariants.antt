use Rattle.std.proofs.Common.{All, take}
use Rattle.sample_gen.specs.internal.Light.{IsLightFunc}
use Rattle.sample_gen.proofs.weight_check.are_light_funcs.Given as goal

abbrev pub invariant-loop-func : goal.invariant-loop-func
invariant-loop-func l = All (IsLightFunc l.lines) (take l.func-index l.funcs)
