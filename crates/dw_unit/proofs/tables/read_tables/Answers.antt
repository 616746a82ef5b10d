use Rattle.std.proofs.Common.{ℕ, arith, below_more, get_or}
use Rattle.dw_unit.specs.MapKeys.{HasKey}
use Rattle.dw_unit.proofs.tables.read_tables.Goals as goal

pub loop-offset-preserved : goal.loop-offset-preserved
loop-offset-preserved c = record {
  right = c.in_ok-size.ensures.right;
  keys = below_more (λ (k : ℕ). HasKey c.read_at.new.starts (get_or c.args.offsets.now k 0)) c.loop-offset.offset-index
      (λ k h. c.in_ok-size.ensures.keeps (get_or c.args.offsets.now k 0) (c.loop-offset.invariant.keys k h)) c.in_ok-size.ensures.there;
}

pub returns-clause-found : goal.returns-clause-found
returns-clause-found c = λ k h. c.loop-offset.invariant.keys k (omega arith)
