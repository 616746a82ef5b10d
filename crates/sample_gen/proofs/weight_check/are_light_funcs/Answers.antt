use Rattle.std.proofs.Common.{subst, All, List, arith}
use Rattle.std.proofs.lemmas.List.{take_all}
use Rattle.std.proofs.lemmas.List.Elements.{All-more}
use Rattle.rv_code.specs.declared.placed.Func.{Func}
use Rattle.sample_gen.specs.internal.Light.{IsLightFunc}
use Rattle.sample_gen.proofs.weight_check.are_light_funcs.Goals as goal

pub loop-func-preserved : goal.loop-func-preserved
loop-func-preserved c =
    All-more (IsLightFunc c.args.lines.now) c.args.funcs.now c.loop-func.func-index c.func-item.result c.loop-func-test.true
    c.loop-func.invariant
    (subst (IsLightFunc c.args.lines.now) c.func-item.is (c.in_ok-is_light_func.ensures c.if-not-branch.false))

pub returns : goal.returns
returns c = λ yes. record {
  few = omega (arith, c.if-funcs-gt-MOST_FUNCTIONS.false);
  light =
      subst (λ (funcs : List Func). All (IsLightFunc c.args.lines.now) funcs)
      (take_all c.loop-func.func-index c.args.funcs.now c.loop-func-test.false) c.loop-func.invariant;
}
