use Rattle.std.proofs.Common.{◌∙◌}
use Rattle.edge_profile.proofs.Weighing.{holder_none, holder_of_place}
use Rattle.edge_profile.proofs.weights.block_at.Goals as goal

pub returns-clause-holder : goal.returns-clause-holder
returns-clause-holder c = record {
  has = λ k d within.
      holder_of_place c.args.funcs.now c.requires.funcs c.args.address c.in_ok-place.place.func c.in_ok-place.place.inst
      c.in_ok-place.ensures.some _
      ∙ c.block_with.ensures.has k d within;
}

pub returns-in_err-place-clause-holder : goal.returns-in_err-place-clause-holder
returns-in_err-place-clause-holder c = rw c.from_residual.ensures record {
  has = λ k d within. holder_none c.args.funcs.now c.args.address c.in_err-place.ensures.none _;
}
