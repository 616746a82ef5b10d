use Rattle.std.proofs.Common.{rules, ap, sym, ◌∙◌}
use Rattle.sample_file.specs.SampleCode.{sample_function}
use Rattle.sample_file.specs.FoundCode.{func_shape}
use Rattle.sample_file.proofs.Ranges.{shapes_more}
use Rattle.sample_file.proofs.code_check.are_functions.Goals as goal

pub loop-f-preserved : goal.loop-f-preserved
loop-f-preserved c = record {
  seen = shapes_more func_shape (sample_function c.args.n) c.args.funcs.now c.loop-f.f-index c.loop-f.k c.f-item.result
      (search rules) c.loop-f.invariant.seen
      (ap func_shape (sym c.f-item.is) ∙ c.is_function_of.ensures (search rules));
  same = search rules;
}
