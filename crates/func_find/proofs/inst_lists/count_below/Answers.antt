use Rattle.std.proofs.Common.{ℕ, arith}
use Rattle.rv_code.specs.declared.placed.Role.{Role}
use Rattle.rv_code.specs.declared.placed.Role.TheVariants.{Plain}
use Rattle.rb_lanes.proofs.Walked.{rest_above, next_below}
use Rattle.func_find.proofs.inst_lists.count_below.Goals as goal

pub returns-then-roles-index-clause-above : goal.returns-then-roles-index-clause-above
returns-then-roles-index-clause-above c =
    rest_above (λ (r : ℕ × Role). r.0) c.args.roles.now c.requires c.loop-index.index c.args.address (0, Plain)
    (omega arith) c.if-roles-index.true

pub loop-index-preserved : goal.loop-index-preserved
loop-index-preserved c =
    next_below (λ (r : ℕ × Role). r.0) c.args.roles.now c.requires c.loop-index.index c.args.address (0, Plain)
    (omega arith) c.if-roles-index.false
    c.loop-index.invariant
